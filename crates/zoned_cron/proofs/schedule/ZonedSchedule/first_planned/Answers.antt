use Rattle.std.proofs.Common.{◌≡◌, ◌∙◌, sym, subst, ℤ, of_z, to_z, w64}
use Rattle.std.proofs.lemmas.Int.{to_z-of_z}
use Rattle.std.proofs.lemmas.Option.{IfSome_then}
use Rattle.chrono_instant.specs.Instants.{epoch_second}
use Rattle.zoned_cron.specs.Private.{IsPlanned}
use Rattle.zoned_cron.proofs.Stretches.{planned_at}
use Rattle.zoned_cron.proofs.FirstPlanned.{behind_first, first_of_all}
use Rattle.zoned_cron.proofs.schedule.ZonedSchedule.first_planned.Goals as goal

pub returns-then-is_due-clause-planned : goal.returns-then-is_due-clause-planned
returns-then-is_due-clause-planned g c =
    let s = c.args.self.now.schedule.sets in
    let first = c.first_date_time-first.result.0 in
    let is : to_z w64 (of_z w64 c.timestamp.result) ≡ epoch_second first = to_z-of_z w64 c.timestamp.result (record { sfits = c.timestamp.type_inv }) ∙ c.timestamp.ensures.value in
    subst (λ (x : ℤ). IsPlanned s x) (sym {b = epoch_second first} is) (planned_at s first c.date_times_exist.ensures (sym c.is_due.ensures ∙ c.if-is_due.true))

pub returns-then-is_due-clause-least : goal.returns-then-is_due-clause-least
returns-then-is_due-clause-least g c = λ l h.
    first_of_all c.args.self.now.schedule.sets c.first_date_time-first.result.0 _ l c.first_date_time-first.ensures.of_type
    (to_z-of_z w64 c.timestamp.result (record { sfits = c.timestamp.type_inv }) ∙ c.timestamp.ensures.value) h

pub returns-clause-planned : goal.returns-clause-planned
returns-clause-planned g c = IfSome_then c.planned_behind.result c.planned_behind.ensures.planned (λ l h. h.1)

pub returns-clause-least : goal.returns-clause-least
returns-clause-least g c = λ l h.
    let first = c.first_date_time-first.result.0 in
    c.planned_behind.ensures.least l
    (behind_first c.args.self.now.schedule.sets first l c.first_date_time-first.ensures.of_type (sym c.is_due.ensures ∙ c.if-is_due.false) c.date_times_exist.ensures h) h
