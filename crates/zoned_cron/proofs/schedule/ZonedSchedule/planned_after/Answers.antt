use Rattle.std.proofs.Common.{◌≡◌, ◌<ℤ◌, ℤ, IfSome, w64, subst, ◌∙◌}
use Rattle.std.proofs.lemmas.Bool.{false≢true}
use Rattle.std.proofs.lemmas.Int.{to_z-of_z}
use Rattle.std.proofs.lemmas.Option.{IfSome_then}
use Rattle.chrono_instant.specs.Instants.{epoch_second}
use Rattle.zoned_cron.specs.Private.{IsAtLeast, IsPlanned}
use Rattle.zoned_cron.proofs.FirstPlanned.{before_planned, none_past}
use Rattle.zoned_cron.proofs.schedule.ZonedSchedule.planned_after.Goals as goal

pub returns-in-Some-clause-planned : goal.returns-in-Some-clause-planned
returns-in-Some-clause-planned g c =
    let s = c.args.self.now.schedule.sets in
    let is : epoch_second c.in-Some.shown ≡ c.args.local = c.in-Some.ensures.value.second ∙ to_z-of_z w64 c.args.local c.ranges.local in
    subst (λ (x : ℤ). IfSome c.planned_behind.result (λ l. (x <ℤ l) × IsPlanned s l)) is c.planned_behind.ensures.planned

pub returns-in-Some-clause-least : goal.returns-in-Some-clause-least
returns-in-Some-clause-least g c =
    let s = c.args.self.now.schedule.sets in
    let is : epoch_second c.in-Some.shown ≡ c.args.local = c.in-Some.ensures.value.second ∙ to_z-of_z w64 c.args.local c.ranges.local in
    subst (λ (x : ℤ). (l : ℤ) → x <ℤ l → IsPlanned s l → IsAtLeast c.planned_behind.result l) is c.planned_behind.ensures.least

pub returns-then-local-gt-LAST_SECOND-clause-least : goal.returns-then-local-gt-LAST_SECOND-clause-least
returns-then-local-gt-LAST_SECOND-clause-least g c = λ l later h.
    none_past c.args.self.now.schedule.sets _ c.args.local l (to_z-of_z w64 c.args.local c.ranges.local) c.if-local-gt-LAST_SECOND.true later h

pub returns-clause-planned : goal.returns-clause-planned
returns-clause-planned g c =
    let s = c.args.self.now.schedule.sets in
    IfSome_then c.first_planned.result c.first_planned.ensures.planned (λ l h.
    (before_planned s c.args.local _ l (to_z-of_z w64 c.args.local c.ranges.local) (λ date. false≢true (c.in_default.ensures.exists.1 date)) c.if-local-gt-LAST_SECOND.false h, h))

pub returns-clause-least : goal.returns-clause-least
returns-clause-least g c = λ l _ h. c.first_planned.ensures.least l h
