use Rattle.std.proofs.Common.{◌≡◌, rules, false, ℤ, ◌+ℤ◌, ◌-ℤ◌, ◌<ℤ◌, int_le, SFits, of_z, to_z, w64, ap, arith, refl, subst, sym, ◌∙◌}
use Rattle.std.proofs.lemmas.Int.{ints, to_z-of_z}
use Rattle.chrono_instant.specs.Instants.{epoch_second}
use Rattle.chrono_zoned.specs.Zones.{HoldsUntil, Shows}
use Rattle.chrono_zoned.proofs.HeldSecondLemmas.{later_second}
use Rattle.zoned_cron.proofs.Settled.{IsNextDue}
use Rattle.zoned_cron.proofs.ShownOnce.{next_shown_once, shows_in_stretch}
use Rattle.zoned_cron.proofs.Stretches.{if_three}
use Rattle.zoned_cron.proofs.Windows.{due_fraction}
use Rattle.zoned_cron.proofs.schedule.ZonedSchedule.first_shown_once.Goals as goal

comes_before : (x y : ℤ) → int_le y x ≡ false → x <ℤ y
comes_before x y h = grind (arith, ints)

-- the instant comes before the end of the stretch
within_stretch : (bound until found m l s o : ℤ) → bound ≡ until → found ≡ (m -ℤ s) → m ≡ l → s ≡ o → int_le bound found ≡ false → (l -ℤ o) <ℤ until
within_stretch bound until found m l s o is at at_l at_o not = let before = comes_before found bound not in omega (arith, ints, is, at, at_l, at_o, before)

pub from_local_and_offset-requires : goal.from_local_and_offset-requires
from_local_and_offset-requires g c =
    let ahead = g.Z.TimeZone.ahead c.args.self.now.zone in
    let start = epoch_second c.args.start in
    let local = c.in-Some.local in
    let planned = c.in-Some-next_after.planned in
    let l = epoch_second planned in
    let stretch = c.stretch_from-stretch in
    let until = stretch.result.until in
    let at : to_z w64 (of_z w64 c.timestamp.result) ≡ start = to_z-of_z w64 c.timestamp.result (record { sfits = c.timestamp.type_inv }) ∙ c.timestamp.ensures.value in
    let offset : stretch.result.offset ≡ ahead start = stretch.ensures.offset ∙ ap ahead at in
    let holds : HoldsUntil ahead start until = subst (λ (x : ℤ). HoldsUntil ahead x until) at stretch.ensures.holds in
    let is : epoch_second local ≡ (start +ℤ ahead start) = omega (arith, ints, c.in-Some.ensures.value.second, offset) in
    let until_fits : SFits w64 until = search rules in
    let at_l : to_z w64 (of_z w64 c.timestamp-2.result) ≡ l = to_z-of_z w64 c.timestamp-2.result (record { sfits = c.timestamp-2.type_inv }) ∙ c.timestamp-2.ensures.value in
    let found = to_z-of_z w64 c.before-2.result (record { sfits = c.before-2.type_inv }) ∙ c.before-2.ensures.value in
    let within : (l -ℤ ahead start) <ℤ until = within_stretch _ until _ _ l _ (ahead start) (to_z-of_z w64 until until_fits) found at_l offset c.if-stretch-before.false in
    let due = c.in-Some-next_after.ensures in
    let later = later_second local planned c.in-Some.ensures.value.exists due.later (due_fraction c.args.self.now.schedule.sets planned due.member) in
    subst (λ (o : ℤ). Shows ahead l (l -ℤ o)) (sym offset) (shows_in_stretch ahead start until (epoch_second local) l (l -ℤ ahead start) holds is later refl within)

pub returns-in-Single : goal.returns-in-Single
returns-in-Single g c =
    let ahead = g.Z.TimeZone.ahead c.args.self.now.zone in
    let start = epoch_second c.args.start in
    let local = c.in-Some.local in
    let planned = c.in-Some-next_after.planned in
    let l = epoch_second planned in
    let stretch = c.stretch_from-stretch in
    let until = stretch.result.until in
    let at : to_z w64 (of_z w64 c.timestamp.result) ≡ start = to_z-of_z w64 c.timestamp.result (record { sfits = c.timestamp.type_inv }) ∙ c.timestamp.ensures.value in
    let offset : stretch.result.offset ≡ ahead start = stretch.ensures.offset ∙ ap ahead at in
    let holds : HoldsUntil ahead start until = subst (λ (x : ℤ). HoldsUntil ahead x until) at stretch.ensures.holds in
    let is : epoch_second local ≡ (start +ℤ ahead start) = omega (arith, ints, c.in-Some.ensures.value.second, offset) in
    let until_fits : SFits w64 until = search rules in
    let at_l : to_z w64 (of_z w64 c.timestamp-2.result) ≡ l = to_z-of_z w64 c.timestamp-2.result (record { sfits = c.timestamp-2.type_inv }) ∙ c.timestamp-2.ensures.value in
    let found = to_z-of_z w64 c.before-2.result (record { sfits = c.before-2.type_inv }) ∙ c.before-2.ensures.value in
    let within : (l -ℤ ahead start) <ℤ until = within_stretch _ until _ _ l _ (ahead start) (to_z-of_z w64 until until_fits) found at_l offset c.if-stretch-before.false in
    let due = c.in-Some-next_after.ensures in
    let next : IsNextDue c.args.self.now local planned = record { exists = c.date_times_exist-2.ensures; due = due.member; later = due.later; least = due.least } in
    let made = c.from_local_and_offset.ensures in
    if_three c.from_local_and_offset.result made.second made.fraction made.local (λ d second fraction shown.
    next_shown_once g.Z.TimeZone.ahead c.args.self.now until (l -ℤ c.in-Single.field-0) c.args.start local planned d holds stretch.ensures.near c.date_times_exist.ensures c.in-Some.ensures.value.exists is next within c.in-Single.ensures
    (second ∙ ap (λ (o : ℤ). l -ℤ o) offset) fraction shown)
