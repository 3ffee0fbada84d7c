use Rattle.std.proofs.Common.{◌≡◌, ◌+ℤ◌, ◌-ℤ◌, ◌∙◌, ℤ, arith, ap, refl, subst, sym}
use Rattle.std.proofs.lemmas.Int.{ints}
use Rattle.chrono_instant.proofs.InstantLemmas.{IsEpochSecond-moment, moment_ahead-back}
use Rattle.chrono_instant.specs.Instants.{IsEpochSecond, epoch_second}
use Rattle.chrono_instant.specs.Offsets.{moment_ahead}
use Rattle.chrono_zoned.proofs.MappedLemmas.{offset_there}
use Rattle.chrono_zoned.proofs.date_time.DateTime.from_local_and_offset.Goals as goal

pub invariant_of-result : goal.invariant_of-result
invariant_of-result g c =
    let ahead = g.Z.TimeZone.ahead c.args.zone in
    let l = epoch_second c.args.local in
    let u = epoch_second c.in_ok-utc.utc in
    let second : u ≡ (l -ℤ c.args.offset) = omega (arith, ints, c.in_ok-utc.ensures.value.second) in
    let there : c.args.offset ≡ ahead u = offset_there ahead l c.args.offset u c.requires second in
    let shown : l ≡ (u +ℤ ahead u) = omega (arith, ints, second, there) in
    (there, subst (λ (s : ℤ). IsEpochSecond s) shown (IsEpochSecond-moment c.args.local c.checked_sub_offset.ensures.start))

pub returns-clause-local : goal.returns-clause-local
returns-clause-local g c =
    let ahead = g.Z.TimeZone.ahead c.args.zone in
    let l = epoch_second c.args.local in
    let u = epoch_second c.in_ok-utc.utc in
    let second : u ≡ (l -ℤ c.args.offset) = omega (arith, ints, c.in_ok-utc.ensures.value.second) in
    let there : c.args.offset ≡ ahead u = offset_there ahead l c.args.offset u c.requires second in
    record {
      zone = refl;
      shown = ap (moment_ahead c.in_ok-utc.utc) (sym there) ∙ moment_ahead-back c.args.local c.in_ok-utc.utc c.args.offset c.checked_sub_offset.ensures.start.time c.in_ok-utc.ensures.value;
      exists = c.in_ok-utc.ensures.value.exists;
    }
