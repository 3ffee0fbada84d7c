use Rattle.std.proofs.Common.{arith, of_z, to_z, w32}
use Rattle.std.proofs.lemmas.Int.{to_z-of_z}
use Rattle.std.specs.Int.{IsInRange}
use Rattle.chrono_datetime.proofs.MonthOrder.{month_of-range}
use Rattle.chrono_datetime.proofs.Signed.{casts, signed}
use Rattle.chrono_rules.proofs.Months.{month_on}
use Rattle.chrono_rules.proofs.Skipped.{months_on}
use Rattle.chrono_rules.proofs.rule.Rule.months_passed.Goals as goal

pub loop-gap-init : goal.loop-gap-init
loop-gap-init c =
    let month = c.year_month_day-year.ensures.month in
    let year = c.year_month_day-year.ensures.year in
    let range = c.year_month_day-year.ensures.in_range in
    let y = c.year_month_day-year.result.0 in
    let m = c.year_month_day-year.result.1 in
    let fits = to_z-of_z w32 y (omega (arith, signed, range)) in
    let named : IsInRange 1 12 m = (omega (arith, month, month_of-range c.args.day), omega (arith, month, month_of-range c.args.day)) in (
      named,
      omega (arith, signed, fits, month, year),
      omega arith,
      c.months_left_out-gap.ensures.few,
      omega arith,
      omega (arith, signed, fits, range),
      omega (arith, signed, fits, range),
      λ d j lt at. absurd (omega (arith, lt)),
      λ d j lt at. c.months_left_out-gap.ensures.passed d j lt (month_on d (to_z w32 (of_z w32 y)) m j named at),
      c.shortest_month-shortest.ensures,
    )

pub loop-gap-preserved : goal.loop-gap-preserved
loop-gap-preserved c = (
  omega (arith, casts, c.loop-gap.invariant.0),
  omega (arith, casts, c.loop-gap.invariant.1),
  omega (arith, c.loop-gap.invariant.3),
  c.months_left_out_or_short-gap.ensures.few,
  omega arith,
  omega (arith, casts),
  omega (arith, casts),
  λ d j lt at. months_on c.args.self.now c.args.start c.args.day d (to_z w32 c.loop-gap.year-bits) c.loop-gap.month c.loop-gap.months c.loop-gap.gap j c.loop-gap.invariant.1 c.loop-gap.invariant.7 c.loop-gap.invariant.8 lt at,
  c.months_left_out_or_short-gap.ensures.passed,
  c.loop-gap.invariant.9,
)

pub returns-after-loop-gap-clause-named : goal.returns-after-loop-gap-clause-named
returns-after-loop-gap-clause-named c = λ none. absurd (omega (arith, none))

pub returns-after-loop-gap-clause-filled : goal.returns-after-loop-gap-clause-filled
returns-after-loop-gap-clause-filled c = λ none. absurd (omega (arith, none))
