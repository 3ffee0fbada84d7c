use Rattle.std.proofs.Common.{refl, sym, ◌∙◌}
use Rattle.chrono_rules.proofs.NamedDays.{lacks_filled_weekday}
use Rattle.chrono_rules.proofs.Skipped.{not_start_weekday, not_weekday, other_weekday}
use Rattle.chrono_rules.proofs.rule.Rule.passed_by_weekday.Goals as goal

pub returns-then-fills_weekday-clause-passed : goal.returns-then-fills_weekday-clause-passed
returns-then-fills_weekday-clause-passed c = λ d low high.
    not_start_weekday c.args.self.now c.args.start d (sym c.fills_weekday.ensures ∙ c.if-fills_weekday.true)
    (other_weekday c.args.day d c.args.start _ low high (rw (c.weekday.ensures.value, c.weekday-then-fills_weekday.ensures.value) at c.days_since.ensures))

pub returns-clause-passed : goal.returns-clause-passed
returns-clause-passed c = λ d low high.
    not_weekday c.args.self.now c.args.start d (sym c.lacks_weekdays.ensures ∙ c.if-lacks_weekdays.false) (c.days_to_weekday.ensures.passed d low high)

pub returns-then-fills_weekday-clause-named : goal.returns-then-fills_weekday-clause-named
returns-then-fills_weekday-clause-named c = λ here.
    rw (lacks_filled_weekday c.args.self.now.frequency c.args.self.now (sym c.fills_weekday.ensures ∙ c.if-fills_weekday.true)) refl
