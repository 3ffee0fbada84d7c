use Rattle.std.proofs.Common.{sym, ◌∙◌}
use Rattle.std.proofs.lemmas.Bool.{and_parts}
use Rattle.chrono_rules.proofs.Moments.{instance_at, least_later, none_later, none_on_day}
use Rattle.chrono_rules.proofs.rule.Rule.next_date_time.Goals as goal

pub returns-then-follows_on_day-clause-member : goal.returns-then-follows_on_day-clause-member
returns-then-follows_on_day-clause-member c =
    rw (c.new.ensures, c.time.ensures, c.date-date.ensures) (instance_at c.args.self.now c.args.start c.args.moment.date (and_parts _ _ (sym c.follows_on_day.ensures ∙ c.if-follows_on_day.true)).1)

pub returns-then-follows_on_day-clause-least : goal.returns-then-follows_on_day-clause-least
returns-then-follows_on_day-clause-least c = λ q is after before.
    none_on_day c.args.self.now c.args.start c.args.moment q after (rw (c.new.ensures, c.time.ensures, c.date-date.ensures) at before)

pub returns-in_err-day-clause-none : goal.returns-in_err-day-clause-none
returns-in_err-day-clause-none c =
    let none = rw (c.date.ensures, c.date-date.ensures) at c.in_err-day.ensures.none in
    rw c.from_residual.ensures
    (λ q is after.
    none_later c.args.self.now c.args.start c.args.moment q (sym c.follows_on_day.ensures ∙ c.if-follows_on_day.false)
    (λ later. none q.date later is.date) after)

pub returns-clause-member : goal.returns-clause-member
returns-clause-member c =
    let member = rw c.date.ensures at c.in_ok-day.ensures.member in
    rw (c.new-2.ensures, c.time-2.ensures) (instance_at c.args.self.now c.args.start c.in_ok-day.day member)

pub returns-clause-least : goal.returns-clause-least
returns-clause-least c = λ q is after before.
    let least = rw (c.date.ensures, c.date-date.ensures) at c.in_ok-day.ensures.least in
    least_later c.args.self.now c.args.start c.args.moment q c.in_ok-day.day (sym c.follows_on_day.ensures ∙ c.if-follows_on_day.false)
    least after (rw (c.new-2.ensures, c.time-2.ensures) at before)
