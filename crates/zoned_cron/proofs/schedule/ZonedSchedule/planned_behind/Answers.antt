use Rattle.std.proofs.Common.{refl, ◌∙◌, w64}
use Rattle.std.proofs.lemmas.Int.{to_z-of_z}
use Rattle.zoned_cron.proofs.Stretches.{planned_first, planned_later, planned_none}
use Rattle.zoned_cron.proofs.schedule.ZonedSchedule.planned_behind.Goals as goal

pub returns-in_default-clause-least : goal.returns-in_default-clause-least
returns-in_default-clause-least g c = λ l later h.
    planned_none c.args.self.now.schedule.sets c.args.local c.date_times_exist.ensures c.in_default.ensures.none refl l later h

pub returns-clause-planned : goal.returns-clause-planned
returns-clause-planned g c =
    planned_later c.args.self.now.schedule.sets c.args.local c.in-Some.next c.date_times_exist.ensures c.date_times_exist-2.ensures c.in-Some.ensures.later c.in-Some.ensures.member
    refl (to_z-of_z w64 c.timestamp.result (record { sfits = c.timestamp.type_inv }) ∙ c.timestamp.ensures.value)

pub returns-clause-least : goal.returns-clause-least
returns-clause-least g c =
    planned_first c.args.self.now.schedule.sets c.args.local c.in-Some.next c.date_times_exist.ensures c.date_times_exist-2.ensures c.in-Some.ensures.least
    refl (to_z-of_z w64 c.timestamp.result (record { sfits = c.timestamp.type_inv }) ∙ c.timestamp.ensures.value)
