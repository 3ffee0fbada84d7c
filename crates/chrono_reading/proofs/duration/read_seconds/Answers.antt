use Rattle.std.proofs.Common.{◌++◌, sym, ◌∙◌, subst, List, ℕ}
use Rattle.std.specs.Fmt.{decimal}
use Rattle.chrono_text.specs.Fractions.{IsFractionText}
use Rattle.chrono_reading.proofs.DurationTextLemmas.{both_found, seconds_cut}
use Rattle.chrono_reading.proofs.duration.read_seconds.Goals as goal

pub returns-in_err-read_decimal-clause-every : goal.returns-in_err-read_decimal-clause-every
returns-in_err-read_decimal-clause-every c = λ seconds nanos fraction small is e.
    let number = c.in_ok-number.ensures.every (decimal seconds ++ fraction) e in
    let at = c.point_at.ensures in
    let cut = seconds_cut _ fraction seconds nanos c.point_at.result number small is at.within at.first at.point in
    let none = c.in_err-read_decimal.ensures.every seconds small (cut.0 ∙ sym c.split_at.ensures.front) in
    cc

pub returns-in_err-read_fraction-clause-every : goal.returns-in_err-read_fraction-clause-every
returns-in_err-read_fraction-clause-every c = λ seconds nanos fraction small is e.
    let number = c.in_ok-number.ensures.every (decimal seconds ++ fraction) e in
    let at = c.point_at.ensures in
    let cut = seconds_cut _ fraction seconds nanos c.point_at.result number small is at.within at.first at.point in
    let rest = subst (λ (t : List ℕ). IsFractionText t nanos) (sym c.split_at.ensures.back) cut.1 in
    let none = c.in_err-read_fraction.ensures.every nanos rest in
    cc

pub returns-clause-every : goal.returns-clause-every
returns-clause-every c = λ seconds nanos fraction small is e.
    let number = c.in_ok-number.ensures.every (decimal seconds ++ fraction) e in
    let at = c.point_at.ensures in
    let cut = seconds_cut _ fraction seconds nanos c.point_at.result number small is at.within at.first at.point in
    let rest = subst (λ (t : List ℕ). IsFractionText t nanos) (sym c.split_at.ensures.back) cut.1 in
    both_found _ _ _ _ (c.in_ok-read_decimal.ensures.every seconds small (cut.0 ∙ sym c.split_at.ensures.front)) (c.in_ok-read_fraction.ensures.every nanos rest)
