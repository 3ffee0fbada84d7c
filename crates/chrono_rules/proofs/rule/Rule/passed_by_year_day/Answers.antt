use Rattle.std.proofs.Common.{sym, ◌∙◌}
use Rattle.chrono_rules.proofs.Skipped.{not_year_day}
use Rattle.chrono_rules.proofs.rule.Rule.passed_by_year_day.Goals as goal

pub returns-else-lacks_year_days-clause-passed : goal.returns-else-lacks_year_days-clause-passed
returns-else-lacks_year_days-clause-passed c = λ d low high.
    not_year_day c.args.self.now c.args.start d (sym c.lacks_year_days.ensures ∙ c.if-lacks_year_days.false) (c.days_to_year_day.ensures.passed d low high)
