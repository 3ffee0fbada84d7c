use Rattle.std.proofs.Common.{◌≡◌, ℤ, ◌+ℤ◌, ◌-ℤ◌, arith, subst, sym}
use Rattle.std.proofs.lemmas.Int.{ints}
use Rattle.chrono_instant.specs.Instants.{IsEpochSecond, epoch_second}
use Rattle.chrono_zoned.proofs.OptionLemmas.{if_any, none_then}
use Rattle.zoned_rules.proofs.Standing.{stands_once}
use Rattle.zoned_rules.proofs.local_instant.instant_of.Goals as goal

pub returns-in_err-utc-clause-none : goal.returns-in_err-utc-clause-none
returns-in_err-utc-clause-none g c =
    let ahead = g.Z.TimeZone.ahead c.args.zone in
    let l = epoch_second c.args.local in
    if_any c.from_residual.result (λ u there dates.
    let is : u ≡ (l -ℤ c.offset_of.result) = stands_once ahead l u (l -ℤ c.offset_of.result) there c.offset_of.ensures in
    let bad = c.in_err-utc.ensures.exists.1 (subst (λ (x : ℤ). IsEpochSecond x) is dates.utc) in
    absurd cc)

pub returns-clause-none : goal.returns-clause-none
returns-clause-none g c =
    let ahead = g.Z.TimeZone.ahead c.args.zone in
    let l = epoch_second c.args.local in
    none_then c.from_utc_datetime.result (λ no u there dates.
    let is : u ≡ (l -ℤ c.offset_of.result) = stands_once ahead l u (l -ℤ c.offset_of.result) there c.offset_of.ensures in
    let there : epoch_second c.in_ok-utc.utc ≡ u = omega (arith, ints, c.in_ok-utc.ensures.value.second, is) in
    no (c.from_utc_datetime.ensures.exists.1 (subst (λ (x : ℤ). IsEpochSecond (x +ℤ ahead x)) (sym there) dates.local)))
