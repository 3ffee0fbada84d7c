use Rattle.std.proofs.Common.{arith, pos, ◌-ℤ◌}
use Rattle.std.proofs.lemmas.Int.{by_lt_z}
use Rattle.chrono_datetime.proofs.Signed.{casts, signed}
use Rattle.chrono_rules.proofs.Counts.{before_start}
use Rattle.chrono_rules.proofs.Repeated.{none_near}
use Rattle.chrono_rules.proofs.rule.Rule.last_member.Goals as goal

pub returns-in-Some-clause-greatest : goal.returns-in-Some-clause-greatest
returns-in-Some-clause-greatest c = λ d after before.
    by_lt_z d c.end_of_until-top.result
    (λ lt. c.in-Some.ensures.greatest d after lt)
    (λ ge. c.end_of_until-top.ensures.behind c.args.start d ge before)

pub returns-then-bottom-begin-clause-none : goal.returns-then-bottom-begin-clause-none
returns-then-bottom-begin-clause-none c = λ d before date.
    let start = c.num_days_from_ce-begin.ensures in
    let floor = c.num_days_from_ce-bottom.ensures in
    by_lt_z d c.args.start
    (λ lt. before_start c.args.self.now c.args.start d lt)
    (λ from. by_lt_z d c.end_of_until-top.result
    (λ lt. c.in_default.ensures.none d (omega (arith, casts, from, c.if-bottom-begin.true, start.value, start.in_range, floor.value, floor.in_range)) lt)
    (λ ge. c.end_of_until-top.ensures.behind c.args.start d ge before))

pub returns-in_err-day-clause-none : goal.returns-in_err-day-clause-none
returns-in_err-day-clause-none c =
    let start = c.num_days_from_ce-begin.ensures in
    let floor = c.num_days_from_ce-bottom.ensures in
    let until = c.end_of_until-top.ensures in
    let cycle = c.cycle_before-floor.ensures in
    rw c.from_residual.ensures
    (λ d before date.
    by_lt_z d c.args.start
    (λ lt. before_start c.args.self.now c.args.start d lt)
    (λ from. by_lt_z d c.end_of_until-top.result
    (λ lt. by_lt_z (d -ℤ pos 366) c.args.start
    (λ near. c.in_err-day.ensures.none d from (omega (arith, casts, near, start.value, start.in_range)) date)
    (λ far.
    none_near c.args.self.now c.args.start c.cycle_before-floor.result c.end_of_until-top.result d
    (cycle.repeats (omega (arith, casts, c.if-bottom-begin.false, start.value, start.in_range, floor.value, floor.in_range)))
    (omega (arith, signed, start.value, start.in_range), omega (arith, signed, start.value, start.in_range)) cycle.in_range c.in_default.ensures.none until.inside (omega (arith, signed, far)) lt))
    (λ ge. until.behind c.args.start d ge before)))

pub returns-clause-before : goal.returns-clause-before
returns-clause-before c =
    let start = c.num_days_from_ce-begin.ensures in
    let floor = c.num_days_from_ce-bottom.ensures in
    let cycle = c.cycle_before-floor.ensures in
    omega (arith, casts, c.in_ok-day.ensures.before, start.value, start.in_range, c.end_of_until-top.ensures.not_after, c.if-bottom-begin.false, floor.value, floor.in_range, (cycle.repeats (omega (arith, casts, c.if-bottom-begin.false, start.value, start.in_range, floor.value, floor.in_range))).later)

pub returns-clause-greatest : goal.returns-clause-greatest
returns-clause-greatest c =
    let start = c.num_days_from_ce-begin.ensures in
    let floor = c.num_days_from_ce-bottom.ensures in
    let until = c.end_of_until-top.ensures in
    let cycle = c.cycle_before-floor.ensures in
    λ d after before.
    let from = c.in_ok-day.ensures.not_before in
    by_lt_z d c.end_of_until-top.result
    (λ lt. by_lt_z (d -ℤ pos 366) c.args.start
    (λ near. c.in_ok-day.ensures.greatest d after (omega (arith, casts, near, start.value, start.in_range)) (omega (arith, signed, after, from, start.value, start.in_range), omega (arith, signed, lt, cycle.in_range.1)))
    (λ far.
    none_near c.args.self.now c.args.start c.cycle_before-floor.result c.end_of_until-top.result d
    (cycle.repeats (omega (arith, casts, c.if-bottom-begin.false, start.value, start.in_range, floor.value, floor.in_range)))
    (omega (arith, signed, start.value, start.in_range), omega (arith, signed, start.value, start.in_range)) cycle.in_range c.in_default.ensures.none until.inside (omega (arith, signed, far)) lt))
    (λ ge. until.behind c.args.start d ge before)
