use Rattle.std.proofs.Common.{◌≡◌, ap, is_some, subst, sym, w64, ◌∙◌, ℤ}
use Rattle.std.proofs.lemmas.Int.{to_z-of_z}
use Rattle.chrono_instant.specs.Instants.{epoch_second}
use Rattle.zoned_cron.specs.Fires.{IsGap}
use Rattle.zoned_cron.proofs.Instants.{no_gap}
use Rattle.zoned_cron.proofs.search.instants.is_shown.Goals as goal

pub returns : goal.returns
returns g c = λ yes gap.
    let ahead = g.Z.TimeZone.ahead c.args.zone in
    let second : epoch_second c.in-Some.local ≡ c.args.local = c.in-Some.ensures.value.second ∙ to_z-of_z w64 c.args.local c.ranges.local in
    no_gap ahead (epoch_second c.in-Some.local) c.offset_from_local_datetime.result c.offset_from_local_datetime.ensures
    (ap (λ o. is_some o) (sym c.earliest.ensures) ∙ sym c.is_some.ensures ∙ yes) (subst (λ (l : ℤ). IsGap ahead l) (sym second) gap)
