use Rattle.std.proofs.Common.{arith, refl, ◌∙◌, ◌≡◌, pos, to_z, of_z, w64, unsigned_abs}
use Rattle.std.specs.Int.{int_rem_euclid}
use Rattle.chrono_datetime.proofs.Signed.{casts}
use Rattle.chrono_instant.proofs.InstantLemmas.{second_of_minute-of_day}
use Rattle.chrono_instant.proofs.from_timestamp.date_time_at.Goals as goal

pub returns-clause-exists : goal.returns-clause-exists
returns-clause-exists c =
    let time = c.in_ok-time.ensures.0 in
    let second = unsigned_abs (to_z w64 (of_z w64 c.rem_euclid-second.result)) in
    let place : int_rem_euclid c.args.secs (pos 86_400) ≡ pos second = omega (arith, casts, c.rem_euclid-second.ensures.value, c.rem_euclid-second.ensures.lower_bound, c.rem_euclid-second.ensures.upper_bound, c.ranges.secs.sfits) in
    (λ _. ((omega (arith, casts), omega (arith, casts)), (time.1.0, λ leap. second_of_minute-of_day c.args.secs second place ∙ time.1.1 leap)), λ _. refl)
