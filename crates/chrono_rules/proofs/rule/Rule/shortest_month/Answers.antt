use Rattle.std.proofs.Common.{sym, ◌∙◌, arith}
use Rattle.std.proofs.lemmas.Bool.{ne_eqb}
use Rattle.chrono_datetime.specs.Days.{day_of}
use Rattle.chrono_datetime.proofs.MonthDays.{day_of-bounds}
use Rattle.chrono_rules.proofs.Skipped.{not_month_day, not_start_day, off_short_month}
use Rattle.chrono_rules.proofs.rule.Rule.shortest_month.Goals as goal

pub returns-then-not-lacks_month_days : goal.returns-then-not-lacks_month_days
returns-then-not-lacks_month_days c = λ d short.
    not_month_day c.args.self.now c.args.start d (sym c.lacks_month_days.ensures ∙ c.if-not-lacks_month_days.true)
    (off_short_month c.args.self.now d (λ j lt. c.gap_up-front.ensures.left_out j (omega (arith, lt, short))) (λ j lt. c.gap_up-back.ensures.left_out j (omega (arith, lt, short))))

pub returns-then-fills_day : goal.returns-then-fills_day
returns-then-fills_day c = λ d short.
    not_start_day c.args.self.now c.args.start d (sym c.fills_day.ensures ∙ c.if-fills_day.true)
    (ne_eqb (day_of d) (day_of c.args.start) (λ e. omega (arith, e, short, day_of-bounds d, c.day.ensures.value)))
