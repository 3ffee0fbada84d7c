use Rattle.std.proofs.Common.{◌≡◌, ℕ, [], ◌∷◌, ◌++◌, ℤ, pos, codes, refl, sym, ap, ap₂}
use Rattle.std.specs.List.{join_with_byte}
use Rattle.std.specs.Str.{byte}
use Rattle.std.specs.Fmt.{digits}
use Rattle.chrono_text.specs.Text.{two_digits}
use Rattle.chrono_datetime.specs.Days.{date_of_ymd, day_of, days_before_year, days_of_months_in, days_of_years, month_of, year_of}
use Rattle.chrono_datetime.proofs.NamedDates.{date_of_ymd-name}
use Rattle.chrono_sets.specs.FiniteSets.{has}
use Rattle.chrono_rules.specs.RuleErrors.{frequency_text}
use Rattle.chrono_rules.specs.WrittenRules.{basic_date_text, four_digits, item_text, items, numbered_items, rule_text, letters_from_monday}
use Rattle.chrono_rules.proofs.law.known_written_rules.Goals as goal

pub returns-clause-every_other_week : goal.returns-clause-every_other_week
unfolding rule_text frequency_text items has item_text numbered_items letters_from_monday digits
returns-clause-every_other_week c = refl

pub returns-clause-both_sundays : goal.returns-clause-both_sundays
unfolding rule_text frequency_text items has item_text numbered_items letters_from_monday digits
returns-clause-both_sundays c = refl

pub returns-clause-days_of_the_year : goal.returns-clause-days_of_the_year
unfolding rule_text frequency_text items has item_text numbered_items letters_from_monday digits
returns-clause-days_of_the_year c = refl

pub returns-clause-monday_of_week_20 : goal.returns-clause-monday_of_week_20
unfolding rule_text frequency_text items has item_text numbered_items letters_from_monday digits
returns-clause-monday_of_week_20 c = refl

pub returns-clause-last_workday_but_one : goal.returns-clause-last_workday_but_one
unfolding rule_text frequency_text items has item_text numbered_items letters_from_monday digits
returns-clause-last_workday_but_one c = refl

pub returns-clause-election_day : goal.returns-clause-election_day
unfolding rule_text frequency_text items has item_text numbered_items letters_from_monday digits
returns-clause-election_day c = refl

-- the text of a date by its year, its month and its day
date_text_by : (n y : ℤ) (m d : ℕ) → year_of n ≡ y → month_of n ≡ m → day_of n ≡ d → basic_date_text n ≡ ((four_digits y ++ two_digits m) ++ two_digits d)
date_text_by n y m d years months days = ap₂ (λ a b. a ++ b) (ap₂ (λ a b. a ++ b) (ap four_digits years) (ap two_digits months)) (ap two_digits days)

pub returns-clause-until_christmas : goal.returns-clause-until_christmas
unfolding rule_text frequency_text date_of_ymd days_before_year days_of_years days_of_months_in
returns-clause-until_christmas c =
    let name = date_of_ymd-name (pos 729_382) (pos 1_997) 12 24 refl in
    let text = date_text_by (pos 729_382) (pos 1_997) 12 24 (sym name.0) (sym name.1) (sym name.2) in
    ap (λ text. join_with_byte (byte ";") (codes "FREQ=DAILY" ∷ (codes "UNTIL=" ++ text) ∷ [])) text
