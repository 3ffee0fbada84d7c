use Rattle.std.proofs.Common.{◌≡◌, sym, ap, ◌∙◌, arith, pos, ◌+ℤ◌}
use Rattle.std.proofs.lemmas.Int.{by_lt_z}
use Rattle.chrono_datetime.proofs.Signed.{casts, signed}
use Rattle.chrono_rules.specs.Instances.{in_interval, is_member}
use Rattle.chrono_rules.proofs.Counts.{before_start}
use Rattle.chrono_rules.proofs.rule.Rule.first_between.Goals as goal

pub loop-start-init : goal.loop-start-init
loop-start-init c = (
  c.later_of-day.ensures.from,
  c.later_of-day.ensures.not_before,
  λ d low high. before_start c.args.self.now c.args.start d (c.later_of-day.ensures.before d low high),
)

pub returns-then-names_no_place-clause-none : goal.returns-then-names_no_place-clause-none
returns-then-names_no_place-clause-none c = λ d low less date. c.names_no_place.ensures c.if-names_no_place.true c.args.start d

pub returns-in_err-counted-clause-none : goal.returns-in_err-counted-clause-none
returns-in_err-counted-clause-none c =
    rw c.from_residual.ensures
    (λ d low less date.
    by_lt_z d c.loop-start.day
    (λ lt. c.loop-start.invariant.2 d low lt)
    (λ ge.
    by_lt_z d (c.loop-start.day +ℤ c.passed_by_interval-periods.result)
    (λ lt. c.passed_by_interval-periods.ensures.passed d ge lt)
    (λ ge. let some = c.in_err-counted.ensures.exists.1 (omega (arith, signed), omega (arith, signed, ge, date.1)) in cc)))

pub returns-in_err-day-clause-none : goal.returns-in_err-day-clause-none
returns-in_err-day-clause-none c =
    rw c.from_residual-in_err-day.ensures
    (λ d low less date.
    by_lt_z d c.loop-start.day
    (λ lt. c.loop-start.invariant.2 d low lt)
    (λ ge.
    by_lt_z d c.in_ok-counted.counted
    (λ lt. c.passed_by_interval-periods.ensures.passed d ge (omega (arith, signed, lt, c.in_ok-counted.ensures.moved)))
    (λ ge.
    by_lt_z d (c.in_ok-counted.counted +ℤ c.passed_by_parts-parts.result)
    (λ lt. c.passed_by_parts-parts.ensures.passed d ge lt)
    (λ ge. let some = c.in_err-day.ensures.exists.1 (omega (arith, signed), omega (arith, signed, ge, date.1)) in cc))))

pub returns-then-periods-parts-eq0-clause-member : goal.returns-then-periods-parts-eq0-clause-member
returns-then-periods-parts-eq0-clause-member c =
    let r = c.args.self.now in
    let none : c.passed_by_interval-periods.result ≡ pos 0 = omega (arith, casts, c.passed_by_interval-periods.ensures.low, c.passed_by_parts-parts.ensures.low) in
    let same : c.loop-start.day ≡ c.in_ok-counted.counted = omega (arith, signed, none, c.in_ok-counted.ensures.moved) in
    ap (is_member r c.args.start) same
    ∙ c.passed_by_parts-parts.ensures.member (omega (arith, casts, c.passed_by_interval-periods.ensures.low, c.passed_by_parts-parts.ensures.low))
    (ap (in_interval r c.args.start) (sym same) ∙ c.passed_by_interval-periods.ensures.counts none)
    (c.end_before-last.ensures.inside c.in_ok-counted.counted (omega (arith, casts, same)))

pub loop-start-preserved : goal.loop-start-preserved
loop-start-preserved c = (
  omega (arith, signed, c.loop-start.invariant.0, c.in_ok-counted.ensures.moved, c.in_ok-day.ensures.moved, c.passed_by_interval-periods.ensures.low, c.passed_by_parts-parts.ensures.low),
  omega (arith, signed, c.loop-start.invariant.1, c.in_ok-counted.ensures.moved, c.in_ok-day.ensures.moved, c.passed_by_interval-periods.ensures.low, c.passed_by_parts-parts.ensures.low),
  λ d low high.
      by_lt_z d c.loop-start.day
      (λ lt. c.loop-start.invariant.2 d low lt)
      (λ ge.
      by_lt_z d c.in_ok-counted.counted
      (λ lt. c.passed_by_interval-periods.ensures.passed d ge (omega (arith, signed, lt, c.in_ok-counted.ensures.moved)))
      (λ ge. c.passed_by_parts-parts.ensures.passed d ge (omega (arith, signed, high, c.in_ok-day.ensures.moved)))),
)

pub loop-start-smaller : goal.loop-start-smaller
loop-start-smaller c =
    omega (arith, casts, c.loop-start.invariant.0, c.in_ok-counted.ensures.moved, c.in_ok-day.ensures.moved, c.passed_by_interval-periods.ensures.low, c.passed_by_parts-parts.ensures.low, c.passed_by_interval-periods.ensures.high, c.passed_by_parts-parts.ensures.high, c.if-periods-parts-eq0.false, c.passed_by_parts-parts.ensures.in_range)

pub returns-clause-none : goal.returns-clause-none
returns-clause-none c = λ d low less date.
    by_lt_z d c.end_before-last.result
    (λ lt. c.loop-start.invariant.2 d low (omega (arith, casts, lt)))
    (λ ge. c.end_before-last.ensures.behind c.args.start d ge (omega (arith, casts, c.ranges.end, less)))
