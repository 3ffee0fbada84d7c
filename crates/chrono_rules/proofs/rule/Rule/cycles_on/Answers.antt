use Rattle.std.proofs.Common.{◌≡◌, ◌*◌, sym, arith, pos, ◌+ℤ◌}
use Rattle.chrono_datetime.proofs.Signed.{casts}
use Rattle.chrono_rules.proofs.Repeated.{cycles_more}
use Rattle.chrono_rules.proofs.rule.Rule.cycles_on.Goals as goal

pub moved-requires : goal.moved-requires
moved-requires c =
    let here = c.num_days_from_ce.ensures in
    let days = c.whole_times-cycles.ensures.days in
    (omega (arith, casts, c.from.ensures, days, here.value, here.in_range), omega (arith, casts, c.from.ensures, days, here.value, here.in_range, c.requires.order, c.requires.last, c.ranges.last))

pub returns-clause-high : goal.returns-clause-high
returns-clause-high c =
    let here = c.num_days_from_ce.ensures in
    omega (arith, casts, c.moved.ensures, c.from.ensures, c.whole_times-cycles.ensures.days, here.value, here.in_range, c.requires.order, c.requires.last, c.ranges.last)

pub returns-clause-counted : goal.returns-clause-counted
returns-clause-counted c =
    let here = c.num_days_from_ce.ensures in
    let given = c.requires in
    let days = c.whole_times-cycles.ensures.days in
    let at : c.moved.result ≡ c.args.from +ℤ pos (c.whole_times-cycles.result * c.days_apart-cycle.result) = omega (arith, casts, c.moved.ensures, c.from.ensures, days, here.value, here.in_range, given.order, given.last, c.ranges.last) in
    rw (given.counted, given.each)
    (sym (cycles_more c.args.self.now c.args.start c.args.base c.args.from c.args.last c.days_apart-cycle.result c.whole_times-cycles.result c.moved.result
    given.repeats c.days_apart-cycle.ensures at (omega (arith, casts, at, days, here.value, here.in_range, given.order, given.last, c.ranges.last)) given.begun given.low given.last given.inside))
