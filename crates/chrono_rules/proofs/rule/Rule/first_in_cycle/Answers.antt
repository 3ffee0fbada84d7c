use Rattle.std.proofs.Common.{arith}
use Rattle.std.proofs.lemmas.Int.{by_lt_z}
use Rattle.chrono_datetime.proofs.Signed.{casts, signed}
use Rattle.chrono_rules.proofs.Repeated.{none_far}
use Rattle.chrono_rules.proofs.rule.Rule.first_in_cycle.Goals as goal

pub returns-in-Some-clause-before : goal.returns-in-Some-clause-before
returns-in-Some-clause-before c =
    let near = c.num_days_from_ce.ensures in
    omega (arith, casts, c.in-Some.ensures.before, near.value, near.in_range, c.requires.before, c.ranges.end)

pub returns-in_err-day-clause-none : goal.returns-in_err-day-clause-none
returns-in_err-day-clause-none c =
    let given = c.requires in
    let near = c.num_days_from_ce.ensures in
    rw c.from_residual.ensures
    (λ d low less date.
    by_lt_z d c.first_of_last_366_days-rest.result
    (λ lt.
    none_far c.args.self.now c.args.start c.args.date c.args.from c.args.near d given.repeats given.begun given.order given.from given.date given.early
    (λ e from under is. c.in_default.ensures.none e from (omega (arith, casts, under, near.value, near.in_range)) is)
    low (omega (arith, signed, lt, c.first_of_last_366_days-rest.ensures)))
    (λ ge. c.in_err-day.ensures.none d ge (omega (arith, casts, c.ranges.end, less)) date))

pub returns-clause-not_before : goal.returns-clause-not_before
returns-clause-not_before c =
    omega (arith, signed, c.in_ok-day.ensures.not_before, c.first_of_last_366_days-rest.ensures, c.requires.order, c.requires.repeats.later, c.requires.early)

pub returns-clause-least : goal.returns-clause-least
returns-clause-least c =
    let given = c.requires in
    let near = c.num_days_from_ce.ensures in
    λ d low less.
    by_lt_z d c.first_of_last_366_days-rest.result
    (λ lt.
    none_far c.args.self.now c.args.start c.args.date c.args.from c.args.near d given.repeats given.begun given.order given.from given.date given.early
    (λ e from under is. c.in_default.ensures.none e from (omega (arith, casts, under, near.value, near.in_range)) is)
    low (omega (arith, signed, lt, c.first_of_last_366_days-rest.ensures)))
    (λ ge. c.in_ok-day.ensures.least d ge less)
