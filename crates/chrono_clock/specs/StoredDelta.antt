-- The fields of a `TimeDelta` are those of its number, so a duration has one stored form.
use Rattle.std.specs.Prelude.{◌≡◌, ℕ, ◌<◌, ℤ}
use Rattle.std.proofs.Common.{ap, ◌∙◌}
use Rattle.chrono_clock.specs.Duration.{nanos_per_second, nanos_of, floor_secs, past_floor}
use Rattle.chrono_clock.specs.StoredLemmas.{floor_secs-nanos_of, past_floor-nanos_of}
use Rattle.chrono_clock.specs.declared.time_delta.TimeDelta.TheInside.{Inside}

-- the fields that stand for a number
abbrev pub stored : ℤ → Inside
stored x = record { secs = floor_secs x; nanos = past_floor x }

pub stored-nanos_of : (a : Inside) → a.nanos < nanos_per_second → stored (nanos_of a.secs a.nanos) ≡ a
stored-nanos_of a h =
    let of_parts : ℤ → ℕ → Inside = λ s n. record { secs = s; nanos = n } in
    ap (λ s. of_parts s (past_floor (nanos_of a.secs a.nanos))) (floor_secs-nanos_of a.secs a.nanos h)
    ∙ ap (of_parts a.secs) (past_floor-nanos_of a.secs a.nanos h)
