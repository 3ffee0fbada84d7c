use Rattle.std.proofs.Common.{◌≡◌, ◌+◌, ◌-◌, ap, ◌∙◌, arith, ◌-ℤ◌, unsigned_abs}
use Rattle.chrono_datetime.specs.Days.{day_of}
use Rattle.chrono_datetime.specs.MonthMoves.{month_length_of}
use Rattle.chrono_sets.specs.FiniteSets.{has}
use Rattle.chrono_rules.proofs.Months.{in_month}
use Rattle.chrono_rules.specs.ByParts.{on_month_day}
use Rattle.chrono_rules.proofs.NamedDays.{either}
use Rattle.chrono_rules.proofs.Skipped.{off_month_day}
use Rattle.chrono_rules.proofs.rule.Rule.days_to_month_day.Goals as goal

pub returns-clause-passed : goal.returns-clause-passed
returns-clause-passed c = λ d low high.
    let at = in_month c.args.day d _ low high (omega arith) in
    let j = unsigned_abs (d -ℤ c.args.day) in
    off_month_day c.args.self.now d j _ _ (c.gap_up-front.ensures.left_out j (omega (arith, at.0))) (c.gap_down-back.ensures.left_out j (omega (arith, at.0)) (omega (arith, at.0))) (omega (arith, at.1)) (omega (arith, at.0, at.1, at.2))

pub returns-clause-named : goal.returns-clause-named
unfolding on_month_day
returns-clause-named c = λ none.
    let r = c.args.self.now in
    let d = c.args.day in
    either _ _ c.gap_up-front.result c.gap_down-back.result
    (λ z. let at : day_of d ≡ c.day-place.result + c.gap_up-front.result = omega (arith, z) in ap (has r.month_days) at ∙ c.gap_up-front.ensures.member (omega (arith, z)))
    (λ z. let at : month_length_of d - day_of d + 1 ≡ _ = omega (arith, z) in ap (has r.month_days_from_end) at ∙ c.gap_down-back.ensures.member (omega (arith, z)))
    (λ a b. omega (arith, a, b, none))
