use Rattle.std.proofs.Common.{ℕ, ◌-◌, ℤ, pos, List, [], ◌++◌, codes, length, ap, ◌∙◌}
use Rattle.std.specs.Fmt.{digits}
use Rattle.std.specs.Int.{int_div_euclid, int_rem_euclid}
use Rattle.std.specs.Int.RustNames.{int_lt}
use Rattle.std.specs.Prelude.{if◌then◌else◌, unsigned_abs}
use Rattle.chrono_datetime.specs.Days.{day_of, month_of, ordinal_of}
use Rattle.chrono_datetime.specs.Weekday.{number_from_monday}
use Rattle.chrono_datetime.specs.WeekdayText.{weekday_text}
use Rattle.chrono_datetime.specs.Weeks.{iso_week_of, weekday_of}
use Rattle.chrono_datetime.specs.declared.Weekday.{Weekday}
use Rattle.chrono_pattern.specs.Numbers.{field_text, padded, year_sign}
use Rattle.chrono_pattern.specs.Patterns.{text_from}
use Rattle.chrono_pattern.specs.PatternSteps.{date_number_at, group_at, opened_step, time_number_at, unpadded_step, word_at}
use Rattle.chrono_pattern.specs.Words.{word_text}
use Rattle.chrono_pattern.specs.declared.item.Padding.TheVariants.{Nothing, Spaces, Zeros}
use Rattle.chrono_pattern.proofs.law.known_texts_of_dates.Goals as goal

-- a year, a number of two digits, and the year of the century
abbrev year_part : ℤ → List ℕ
year_part y = padded Zeros 4 (year_sign y) (unsigned_abs y)

abbrev two : ℕ → List ℕ
two n = padded Zeros 2 [] n

abbrev short_year : ℤ → List ℕ
short_year y = two (unsigned_abs (int_rem_euclid y (pos 100)))

-- the texts of the patterns by the numbers that they write
abbrev leap_day_text : ℤ → ℕ → ℕ → List ℕ
leap_day_text y m d =
    year_part y ++ (codes "-" ++ (two m ++ (codes "-" ++ (two d ++ (codes ", " ++ (two d ++ (codes "." ++ (two m ++ (codes "." ++ (short_year y ++ ([])))))))))))

abbrev padded_text : ℕ → ℕ → List ℕ
padded_text d o = padded Spaces 2 [] d ++ (codes " " ++ (padded Nothing 2 [] d ++ (codes " " ++ (padded Zeros 3 [] o ++ ([])))))

abbrev century_sign : ℤ → List ℕ
century_sign y = if int_lt y (pos 0) then codes "-" else []

abbrev century_text : ℤ → List ℕ
century_text y =
    padded Zeros (2 - length (century_sign y)) (century_sign y) (unsigned_abs (int_div_euclid y (pos 100))) ++ (codes " " ++ (short_year y ++ (codes " " ++ (year_part y ++ ([])))))

abbrev week_text : ℤ → ℕ → Weekday → List ℕ
week_text y w d =
    year_part y ++ (codes "-W" ++ (two w ++ (codes "-" ++ (padded Zeros 1 [] (number_from_monday d) ++ (codes " " ++ (weekday_text d ++ ([])))))))

pub returns-clause-leap_day : goal.returns-clause-leap_day
unfolding text_from opened_step unpadded_step date_number_at time_number_at word_at group_at field_text word_text digits
returns-clause-leap_day c m year month day =
    ap (λ (y : ℤ). leap_day_text y (month_of m.date) (day_of m.date)) year
    ∙ ap (λ (n : ℕ). leap_day_text (pos 2024) n (day_of m.date)) month
    ∙ ap (λ (n : ℕ). leap_day_text (pos 2024) 2 n) day

pub returns-clause-padded : goal.returns-clause-padded
unfolding text_from opened_step unpadded_step date_number_at time_number_at word_at group_at field_text word_text digits
returns-clause-padded c m day ordinal =
    ap (λ (n : ℕ). padded_text n (ordinal_of m.date)) day ∙ ap (λ (n : ℕ). padded_text 5 n) ordinal

pub returns-clause-before_zero : goal.returns-clause-before_zero
unfolding text_from opened_step unpadded_step date_number_at time_number_at word_at group_at field_text word_text digits
returns-clause-before_zero c m year = ap (λ (y : ℤ). century_text y) year

pub returns-clause-five_digits : goal.returns-clause-five_digits
unfolding text_from opened_step unpadded_step date_number_at time_number_at word_at group_at field_text word_text digits
returns-clause-five_digits c m year = ap (λ (y : ℤ). century_text y) year

pub returns-clause-week : goal.returns-clause-week
unfolding text_from opened_step unpadded_step date_number_at time_number_at word_at group_at field_text word_text digits
returns-clause-week c m year week weekday =
    ap (λ (y : ℤ). week_text y (iso_week_of m.date) (weekday_of m.date)) year
    ∙ ap (λ (n : ℕ). week_text (pos 2025) n (weekday_of m.date)) week
    ∙ ap (λ (d : Weekday). week_text (pos 2025) 1 d) weekday
