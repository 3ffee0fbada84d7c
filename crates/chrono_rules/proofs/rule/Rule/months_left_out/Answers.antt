use Rattle.std.proofs.Common.{refl, sym, ◌∙◌, arith}
use Rattle.chrono_datetime.specs.Days.{month_of}
use Rattle.chrono_rules.proofs.NamedDays.{no_month_filled}
use Rattle.chrono_rules.proofs.Skipped.{month_left_out, not_start_month, other_month, other_month_on}
use Rattle.chrono_datetime.proofs.MonthOrder.{month_of-range}
use Rattle.chrono_rules.proofs.rule.Rule.months_left_out.Goals as goal

pub returns-then-not-lacks_months-clause-passed : goal.returns-then-not-lacks_months-clause-passed
returns-then-not-lacks_months-clause-passed c = λ d j lt at.
    other_month c.args.self.now c.args.start d (sym c.lacks_months.ensures ∙ c.if-not-lacks_months.true)
    (month_left_out c.args.self.now.months (month_of d) c.args.month j c.requires (omega (arith, lt, c.gap_around.ensures.few)) at (c.gap_around.ensures.ahead j lt) (c.gap_around.ensures.around j lt))

pub returns-then-fills_month-clause-passed : goal.returns-then-fills_month-clause-passed
returns-then-fills_month-clause-passed c = λ d j lt at.
    not_start_month c.args.self.now c.args.start d (sym c.fills_month.ensures ∙ c.if-fills_month.true)
    (other_month_on (month_of d) c.args.month (month_of c.args.start) j c.requires (month_of-range c.args.start) (omega (arith, lt, c.month.ensures.value)) at)

pub returns-then-not-lacks_months-clause-filled : goal.returns-then-not-lacks_months-clause-filled
returns-then-not-lacks_months-clause-filled c = λ here.
    rw (no_month_filled c.args.self.now.frequency c.args.self.now (sym c.lacks_months.ensures ∙ c.if-not-lacks_months.true)) refl
