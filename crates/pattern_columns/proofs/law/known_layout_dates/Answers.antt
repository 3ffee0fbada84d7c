use Rattle.std.proofs.Common.{◌≡◌, ◌≢◌, Bool, true, false, refl, sym, ap, ◌∙◌, ℤ, pos, neg_ℤ, get_or, arith}
use Rattle.std.specs.Ordering.{int_eq}
use Rattle.std.proofs.lemmas.Bool.{false≢true}
use Rattle.std.proofs.lemmas.Bool.Decides.{Decides-int_eq}
use Rattle.chrono_calendar.specs.Days.{date_of_ymd, days_before_year, days_of_months_in, days_of_years}
use Rattle.pattern_columns.proofs.law.known_layout_dates.Goals as goal

pub returns-clause-leap_day : goal.returns-clause-leap_day
unfolding date_of_ymd days_before_year days_of_years days_of_months_in
returns-clause-leap_day c = λ n is. is.every (pos 738_945) (record { year = pos 2_024; month = 2; day = 29; names = refl; written = refl })

pub returns-clause-compact : goal.returns-clause-compact
unfolding date_of_ymd days_before_year days_of_years days_of_months_in
returns-clause-compact c = λ n is. is.every (pos 738_945) (record { year = pos 2_024; month = 2; day = 29; names = refl; written = refl })

-- two numbers that cannot differ are the same
same : (b : Bool) (n m : ℤ) → int_eq n m ≡ b → (n ≢ m → ⊥) → n ≡ m
same true n m e h = (Decides-int_eq n m).0 e
same false n m e h = absurd (h (λ equal. false≢true (sym e ∙ (Decides-int_eq n m).1 equal)))

pub returns-clause-other_separator : goal.returns-clause-other_separator
returns-clause-other_separator c = λ n is.
    same (int_eq n (neg_ℤ (pos 2_147_483_648))) n (neg_ℤ (pos 2_147_483_648)) refl
    (λ other. let text = (is.read other).written in absurd (omega (arith, ap (λ l. get_or l 2 0) text)))
