use Rattle.std.proofs.Common.{w32}
use Rattle.std.proofs.lemmas.Int.{to_z-of_z}
use Rattle.chrono_calendar.proofs.NamedDates.{none-date_of_day, some-date_of_day}
use Rattle.chrono_text.proofs.AnswerLemmas.{same_Ok}
use Rattle.layers_c.proofs.rules.rule_and_days.Goals as goal

pub returns-in_default-date_of-clause-exists : goal.returns-in_default-date_of-clause-exists
returns-in_default-date_of-clause-exists c =
    λ r _ start _. absurd (none-date_of_day c.args.start (rw (to_z-of_z w32 c.args.start c.ranges.start) at c.in_default-date_of.ensures.date) start)

pub returns-in-Some-date_of-clause-only : goal.returns-in-Some-date_of-clause-only
returns-in-Some-date_of-clause-only c = λ r written. same_Ok _ _ (c.in-Ok.ensures.every r written)

pub returns-in-Some-date_of-clause-start : goal.returns-in-Some-date_of-clause-start
returns-in-Some-date_of-clause-start c =
    let it = some-date_of_day c.args.start c.in-Some.start (rw (to_z-of_z w32 c.args.start c.ranges.start) at c.in-Some.ensures.date) in (it.1, it.0)

pub returns-in-Some-date_of-clause-day : goal.returns-in-Some-date_of-clause-day
returns-in-Some-date_of-clause-day c =
    let it = some-date_of_day c.args.day c.in-Some-date_of.day (rw (to_z-of_z w32 c.args.day c.ranges.day) at c.in-Some-date_of.ensures.date) in (it.1, it.0)

pub returns-in-None-clause-exists : goal.returns-in-None-clause-exists
returns-in-None-clause-exists c =
    λ r _ _ day. absurd (none-date_of_day c.args.day (rw (to_z-of_z w32 c.args.day c.ranges.day) at c.in-None.ensures.date) day)
