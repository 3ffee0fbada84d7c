use Rattle.std.proofs.Common.{◌==◌, ℕ, refl, sym, ap, ◌∙◌}
use Rattle.chrono_datetime.specs.Days.{day_of}
use Rattle.chrono_rules.proofs.NamedDays.{no_day_filled}
use Rattle.chrono_rules.proofs.Skipped.{not_month_day, not_start_day}
use Rattle.chrono_rules.proofs.rule.Rule.passed_by_month_day.Goals as goal

pub returns-then-not-lacks_month_days-clause-passed : goal.returns-then-not-lacks_month_days-clause-passed
returns-then-not-lacks_month_days-clause-passed c = λ d low high.
    not_month_day c.args.self.now c.args.start d (sym c.lacks_month_days.ensures ∙ c.if-not-lacks_month_days.true) (c.days_to_month_day.ensures.passed d low high)

pub returns-then-fills_day-clause-passed : goal.returns-then-fills_day-clause-passed
returns-then-fills_day-clause-passed c = λ d low high.
    not_start_day c.args.self.now c.args.start d (sym c.fills_day.ensures ∙ c.if-fills_day.true)
    (ap (λ (p : ℕ). day_of d == p) (sym c.day.ensures.value) ∙ c.days_to_place.ensures.passed d low high)

pub returns-then-not-lacks_month_days-clause-filled : goal.returns-then-not-lacks_month_days-clause-filled
returns-then-not-lacks_month_days-clause-filled c = λ here.
    rw (no_day_filled c.args.self.now.frequency c.args.self.now (sym c.lacks_month_days.ensures ∙ c.if-not-lacks_month_days.true)) refl
