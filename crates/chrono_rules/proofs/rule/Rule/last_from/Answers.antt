use Rattle.std.proofs.Common.{arith}
use Rattle.std.proofs.lemmas.Int.{by_lt_z}
use Rattle.chrono_datetime.proofs.Signed.{casts, signed}
use Rattle.chrono_rules.proofs.rule.Rule.last_from.Goals as goal

pub returns-in-Some-clause-greatest : goal.returns-in-Some-clause-greatest
returns-in-Some-clause-greatest c = λ d after before.
    let start = c.num_days_from_ce.ensures in
    let behind = c.num_days_from_ce-in-loop-start-2.ensures in
    by_lt_z d c.loop-start.behind
    (λ lt.
    c.in-Some.ensures.greatest d after (omega (arith, casts, lt, behind.value, behind.in_range))
    (omega (arith, signed, after, c.in-Some.ensures.not_before, c.stretch_before-first.ensures.not_before, start.value, start.in_range), omega (arith, signed, lt, behind.value, behind.in_range)))
    (λ ge. c.loop-start.invariant.1 d ge before)

pub loop-start-preserved : goal.loop-start-preserved
loop-start-preserved c =
    let start = c.num_days_from_ce.ensures in
    let behind = c.num_days_from_ce-in-loop-start-2.ensures in (
      omega (arith, signed, c.loop-start.invariant.0, c.stretch_before-first.ensures.before),
      λ d low before.
          by_lt_z d c.loop-start.behind
          (λ lt.
          c.in_default.ensures.none d low (omega (arith, casts, lt, behind.value, behind.in_range))
          (omega (arith, signed, low, c.stretch_before-first.ensures.not_before, start.value, start.in_range), omega (arith, signed, lt, behind.value, behind.in_range)))
          (λ ge. c.loop-start.invariant.1 d ge before),
    )

pub returns-clause-none : goal.returns-clause-none
returns-clause-none c = λ d low before.
    by_lt_z d c.loop-start.behind
    (λ lt. absurd (omega (arith, casts, low, lt, c.loop-start-test.false, c.num_days_from_ce.ensures.value, c.num_days_from_ce.ensures.in_range, c.num_days_from_ce-in-loop-start.ensures.value, c.num_days_from_ce-in-loop-start.ensures.in_range)))
    (λ ge. c.loop-start.invariant.1 d ge before)
