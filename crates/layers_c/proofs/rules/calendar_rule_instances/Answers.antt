use Rattle.std.proofs.Common.{◌∙◌, ap, length, w32}
use Rattle.std.proofs.lemmas.Int.{to_z-of_z}
use Rattle.chrono_calendar.proofs.NamedDates.{none-date_of_day, some-date_of_day}
use Rattle.layers_c.proofs.RuleLemmas.{same_instances}
use Rattle.layers_c.proofs.rules.calendar_rule_instances.Goals as goal

pub returns-in-Some-date_of-clause-count : goal.returns-in-Some-date_of-clause-count
returns-in-Some-date_of-clause-count c = λ r written _ _ _.
    let until = (some-date_of_day c.args.until c.in-Some-date_of.until (rw (to_z-of_z w32 c.args.until c.ranges.until) at c.in-Some-date_of.ensures.date)).1 in
    c.write_instances.ensures.count ∙ ap length (same_instances r c.in-Some.rule c.args.start c.in-Some.start c.args.from c.in-Some.from c.args.until c.in-Some-date_of.until (length c.args.out.now)
    (c.in-Some.ensures.only r written) (c.in-Some.ensures.start.0 ∙ to_z-of_z w32 c.args.start c.ranges.start) (c.in-Some.ensures.day.0 ∙ to_z-of_z w32 c.args.from c.ranges.from) until)

pub returns-in-Some-date_of-clause-instances : goal.returns-in-Some-date_of-clause-instances
returns-in-Some-date_of-clause-instances c = λ r written _ _ _.
    let until = (some-date_of_day c.args.until c.in-Some-date_of.until (rw (to_z-of_z w32 c.args.until c.ranges.until) at c.in-Some-date_of.ensures.date)).1 in
    c.write_instances.ensures.instances ∙ same_instances r c.in-Some.rule c.args.start c.in-Some.start c.args.from c.in-Some.from c.args.until c.in-Some-date_of.until (length c.args.out.now)
    (c.in-Some.ensures.only r written) (c.in-Some.ensures.start.0 ∙ to_z-of_z w32 c.args.start c.ranges.start) (c.in-Some.ensures.day.0 ∙ to_z-of_z w32 c.args.from c.ranges.from) until

pub returns-in-Some-date_of-clause-no_until : goal.returns-in-Some-date_of-clause-no_until
returns-in-Some-date_of-clause-no_until c = λ none.
    absurd (none (some-date_of_day c.args.until c.in-Some-date_of.until (rw (to_z-of_z w32 c.args.until c.ranges.until) at c.in-Some-date_of.ensures.date)).0)

pub returns-in-None-clause-count : goal.returns-in-None-clause-count
returns-in-None-clause-count c = λ _ _ _ _ until. absurd (none-date_of_day c.args.until (rw (to_z-of_z w32 c.args.until c.ranges.until) at c.in-None.ensures.date) until)

pub returns-in-None-clause-instances : goal.returns-in-None-clause-instances
returns-in-None-clause-instances c = λ _ _ _ _ until. absurd (none-date_of_day c.args.until (rw (to_z-of_z w32 c.args.until c.ranges.until) at c.in-None.ensures.date) until)
