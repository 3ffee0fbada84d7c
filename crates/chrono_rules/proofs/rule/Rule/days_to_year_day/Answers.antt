use Rattle.std.proofs.Common.{◌≡◌, ℕ, ◌+◌, ◌-◌, sym, ap, ◌∙◌, arith}
use Rattle.chrono_datetime.specs.Days.{ordinal_of, year_of}
use Rattle.chrono_datetime.specs.Years.{year_length}
use Rattle.chrono_sets.specs.FiniteSets.{has}
use Rattle.chrono_rules.specs.ByParts.{on_year_day}
use Rattle.chrono_rules.proofs.NamedDays.{either}
use Rattle.chrono_rules.proofs.PlacesInPeriods.{off_year_day}
use Rattle.chrono_rules.proofs.rule.Rule.days_to_year_day.Goals as goal

pub returns-clause-passed : goal.returns-clause-passed
returns-clause-passed c = λ d low high.
    off_year_day c.args.self.now c.args.day d _ _ low high (omega arith) (omega arith)
    (λ j lt. ap (λ (place : ℕ). has c.args.self.now.year_days (place + j)) (sym c.ordinal-place.ensures.value) ∙ c.gap_up-front.ensures.left_out j (omega (arith, lt)))
    (λ j lt. c.gap_down-back.ensures.left_out j (omega (arith, lt)))

pub returns-clause-named : goal.returns-clause-named
unfolding on_year_day
returns-clause-named c = λ none.
    let r = c.args.self.now in
    either _ _ c.gap_up-front.result c.gap_down-back.result
    (λ z. let at : ordinal_of c.args.day ≡ c.ordinal-place.result + c.gap_up-front.result = omega (arith, z, c.ordinal-place.ensures.value) in ap (has r.year_days) at ∙ c.gap_up-front.ensures.member (omega (arith, z)))
    (λ z. let at : year_length (year_of c.args.day) - ordinal_of c.args.day + 1 ≡ _ = omega (arith, z, c.ordinal-place.ensures.value) in ap (has r.year_days_from_end) at ∙ c.gap_down-back.ensures.member (omega (arith, z)))
    (λ a b. omega (arith, a, b, none))
