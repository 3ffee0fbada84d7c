use Rattle.std.proofs.Common.{sym, ◌∙◌, subst, arith, ℤ}
use Rattle.chrono_datetime.proofs.CountBetween.{count_between-empty, count_between-sum}
use Rattle.chrono_datetime.proofs.Signed.{casts, signed}
use Rattle.chrono_rules.specs.Instances.{is_member}
use Rattle.chrono_rules.proofs.Counts.{count-grows, count-kept}
use Rattle.chrono_rules.specs.RuleCycles.{RepeatsAfter}
use Rattle.chrono_rules.proofs.rule.Rule.first_members.Goals as goal

pub members_from-requires-clause-counted : goal.members_from-requires-clause-counted
members_from-requires-clause-counted c = sym (count_between-empty (is_member c.args.self.now c.args.start) c.args.start c.args.start (omega (arith, signed)))

pub moved-base-requires : goal.moved-base-requires
moved-base-requires c =
    let next = c.in-Some.ensures in
    let date = c.cycle_behind.ensures.in_range in
    (omega (arith, signed, date.0), omega (arith, signed, next.far, next.early))

pub members_from-year-requires-clause-counted : goal.members_from-year-requires-clause-counted
members_from-year-requires-clause-counted c = sym (count_between-empty (is_member c.args.self.now c.args.start) c.args.start c.args.start (omega (arith, signed)))

pub returns-then-year-most-clause-high : goal.returns-then-year-most-clause-high
returns-then-year-most-clause-high c =
    let next = c.in-Some.ensures in
    omega (arith, casts, c.members_from-year.ensures.high, c.moved-base.ensures, next.far, next.before, c.last_of_cycles-last.ensures.not_after, c.last_of_cycles-last.type_inv)

pub members_from-walked-requires-clause-counted : goal.members_from-walked-requires-clause-counted
members_from-walked-requires-clause-counted c =
    let year = c.members_from-year.ensures in
    year.counted ∙ sym (count-kept (is_member c.args.self.now c.args.start) c.args.start c.members_from-year.result.day c.moved-base.result year.high (year.all (omega (arith, c.if-year-most.false))))

pub members_from-walked-requires-clause-fewer : goal.members_from-walked-requires-clause-fewer
members_from-walked-requires-clause-fewer c = λ d low less.
    let p = is_member c.args.self.now c.args.start in
    let year = c.members_from-year.ensures in
    let same = count-kept p c.args.start c.members_from-year.result.day c.moved-base.result year.high (year.all (omega (arith, c.if-year-most.false))) in
    omega (arith, year.counted, same, c.if-year-most.false, count-grows p c.args.start d c.moved-base.result (omega (arith, signed, less)))

pub returns-then-walked-most-clause-high : goal.returns-then-walked-most-clause-high
returns-then-walked-most-clause-high c =
    omega (arith, casts, c.members_from-walked.ensures.high, c.in-Some.ensures.before, c.last_of_cycles-last.ensures.not_after, c.last_of_cycles-last.type_inv)

pub overflow_sub-each : goal.overflow_sub-each
overflow_sub-each c =
    let p = is_member c.args.self.now c.args.start in
    let year = c.members_from-year.ensures in
    let walked = c.members_from-walked.ensures in
    let first = count-kept p c.args.start c.members_from-year.result.day c.moved-base.result year.high (year.all (omega (arith, c.if-year-most.false))) in
    let second = count-kept p c.args.start c.members_from-walked.result.day c.in-Some.next walked.high (walked.all (omega (arith, c.if-walked-most.false))) in
    omega (arith, year.counted, first, walked.counted, second, count-grows p c.args.start c.moved-base.result c.in-Some.next (omega (arith, signed, c.moved-base.ensures, c.in-Some.ensures.far)))

pub cycles_on-skipped-requires-clause-repeats : goal.cycles_on-skipped-requires-clause-repeats
cycles_on-skipped-requires-clause-repeats c = subst (RepeatsAfter c.args.self.now) (omega (arith, signed, c.moved-base.ensures)) c.in-Some.ensures.repeats

pub cycles_on-skipped-requires-clause-low : goal.cycles_on-skipped-requires-clause-low
cycles_on-skipped-requires-clause-low c = omega (arith, signed, c.moved-base.ensures, c.cycle_behind.ensures.in_range)

pub cycles_on-skipped-requires-clause-order : goal.cycles_on-skipped-requires-clause-order
cycles_on-skipped-requires-clause-order c = omega (arith, casts, c.in-Some.ensures.before, c.last_of_cycles-last.type_inv)

pub cycles_on-skipped-requires-clause-inside : goal.cycles_on-skipped-requires-clause-inside
cycles_on-skipped-requires-clause-inside c = λ d less.
    c.last_of_cycles-last.ensures.inside d (omega (arith, casts, less, c.last_of_cycles-last.type_inv))

pub cycles_on-skipped-requires-clause-last : goal.cycles_on-skipped-requires-clause-last
cycles_on-skipped-requires-clause-last c = omega (arith, casts, c.last_of_cycles-last.ensures.early, c.last_of_cycles-last.type_inv)

pub members_from-requires-2-clause-order : goal.members_from-requires-2-clause-order
members_from-requires-2-clause-order c =
    omega (arith, casts, c.cycles_on-skipped.ensures.high, c.last_of_cycles-last.ensures.not_after, c.last_of_cycles-last.type_inv)

pub cycles_on-skipped-requires-clause-counted : goal.cycles_on-skipped-requires-clause-counted
cycles_on-skipped-requires-clause-counted c =
    let walked = c.members_from-walked.ensures in
    walked.counted ∙ sym (count-kept (is_member c.args.self.now c.args.start) c.args.start c.members_from-walked.result.day c.in-Some.next walked.high (walked.all (omega (arith, c.if-walked-most.false))))

pub cycles_on-skipped-requires-clause-each : goal.cycles_on-skipped-requires-clause-each
cycles_on-skipped-requires-clause-each c =
    let p = is_member c.args.self.now c.args.start in
    let year = c.members_from-year.ensures in
    let walked = c.members_from-walked.ensures in
    let base : ℤ = c.moved-base.result in
    let next : ℤ = c.in-Some.next in
    let first = count-kept p c.args.start c.members_from-year.result.day base year.high (year.all (omega (arith, c.if-year-most.false))) in
    let second = count-kept p c.args.start c.members_from-walked.result.day next walked.high (walked.all (omega (arith, c.if-walked-most.false))) in
    omega (arith, year.counted, first, walked.counted, second, count_between-sum p c.args.start base next (omega (arith, signed, c.moved-base.ensures)) (omega (arith, signed, c.moved-base.ensures, c.in-Some.ensures.far)))

pub members_from-requires-2-clause-fewer : goal.members_from-requires-2-clause-fewer
members_from-requires-2-clause-fewer c = λ d low less.
    let far = c.cycles_on-skipped.ensures in
    omega (arith, far.counted, far.few, count-grows (is_member c.args.self.now c.args.start) c.args.start d c.cycles_on-skipped.result.day (omega (arith, signed, less)))
