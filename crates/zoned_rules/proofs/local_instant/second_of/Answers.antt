use Rattle.std.proofs.Common.{◌≡◌, ℤ, ◌-ℤ◌, of_z, to_z, w64, arith, refl, subst, sym, ◌∙◌}
use Rattle.std.proofs.lemmas.Int.{ints, to_z-of_z}
use Rattle.chrono_instant.specs.Instants.{IsEpochSecond, epoch_second}
use Rattle.chrono_instant.specs.Offsets.{IsOffset}
use Rattle.chrono_zoned.proofs.SecondSums.{carried, near, offset_carried}
use Rattle.zoned_rules.specs.LocalInstants.{IsInstantOf}
use Rattle.zoned_rules.proofs.local_instant.second_of.Goals as goal

difference : (t l o m a : ℤ) → t ≡ l → IsEpochSecond l → o ≡ m → m ≡ a → IsOffset m → (l -ℤ a) ≡ to_z w64 (of_z w64 (t -ℤ o))
difference t l o m a is_t date is_o is_m close =
    let bounds = near m close in
    sym (carried (t -ℤ o) (l -ℤ a) (omega (arith, ints, is_t, is_o, is_m)) (omega (arith, ints, date.0, is_m, bounds.1), omega (arith, ints, date.1, is_m, bounds.0)))

pub returns-clause-stands : goal.returns-clause-stands
returns-clause-stands g c =
    let ahead = g.Z.TimeZone.ahead c.args.zone in
    let l = epoch_second c.args.local in
    let t = c.timestamp.result in
    let at : to_z w64 (of_z w64 t) ≡ l = to_z-of_z w64 t (record { sfits = c.timestamp.type_inv }) ∙ c.timestamp.ensures.value in
    let date : IsEpochSecond l = subst (λ (x : ℤ). IsEpochSecond x) c.timestamp.ensures.value c.timestamp.ensures.in_range in
    let m = c.local_minus_utc.result in
    let close = c.local_minus_utc.ensures.in_range in
    let is_o = offset_carried c.from.result m m m c.from.ensures refl refl close in
    subst (λ (x : ℤ). IsInstantOf ahead l x) (difference _ l _ m c.offset_of.result at date is_o c.local_minus_utc.ensures.value close) c.offset_of.ensures
