use Rattle.std.proofs.Common.{sym, ◌∙◌}
use Rattle.std.proofs.lemmas.Bool.{and_parts}
use Rattle.chrono_rules.proofs.Moments.{greatest_earlier, instance_at, none_before_on_day, none_earlier}
use Rattle.chrono_rules.proofs.rule.Rule.prev_date_time.Goals as goal

pub returns-then-precedes_on_day-clause-member : goal.returns-then-precedes_on_day-clause-member
returns-then-precedes_on_day-clause-member c =
    rw (c.new.ensures, c.time.ensures, c.date-date.ensures) (instance_at c.args.self.now c.args.start c.args.moment.date (and_parts _ _ (sym c.precedes_on_day.ensures ∙ c.if-precedes_on_day.true)).1)

pub returns-then-precedes_on_day-clause-greatest : goal.returns-then-precedes_on_day-clause-greatest
returns-then-precedes_on_day-clause-greatest c = λ q is after before.
    none_before_on_day c.args.self.now c.args.start c.args.moment q (rw (c.new.ensures, c.time.ensures, c.date-date.ensures) at after) before

pub returns-in_err-day-clause-none : goal.returns-in_err-day-clause-none
returns-in_err-day-clause-none c =
    let none = rw (c.date.ensures, c.date-date.ensures) at c.in_err-day.ensures.none in
    rw c.from_residual.ensures
    (λ q is before.
    none_earlier c.args.self.now c.args.start c.args.moment q (sym c.precedes_on_day.ensures ∙ c.if-precedes_on_day.false)
    (λ earlier. none q.date earlier is.date) before)

pub returns-clause-member : goal.returns-clause-member
returns-clause-member c =
    let member = rw c.date.ensures at c.in_ok-day.ensures.member in
    rw (c.new-2.ensures, c.time-2.ensures) (instance_at c.args.self.now c.args.start c.in_ok-day.day member)

pub returns-clause-greatest : goal.returns-clause-greatest
returns-clause-greatest c = λ q is after before.
    let greatest = rw (c.date.ensures, c.date-date.ensures) at c.in_ok-day.ensures.greatest in
    greatest_earlier c.args.self.now c.args.start c.args.moment q c.in_ok-day.day (sym c.precedes_on_day.ensures ∙ c.if-precedes_on_day.false)
    greatest (rw (c.new-2.ensures, c.time-2.ensures) at after) before
