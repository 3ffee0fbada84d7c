use Rattle.std.proofs.Common.{ℕ, ℤ, pos, List, [], ◌∷◌, ◌++◌, codes, length, refl, ap, ◌∙◌, take}
use Rattle.std.specs.Fmt.{digits}
use Rattle.std.specs.Int.{int_div_euclid, int_rem_euclid}
use Rattle.std.specs.Int.RustNames.{int_lt}
use Rattle.std.specs.Prelude.{if◌then◌else◌, unsigned_abs}
use Rattle.chrono_datetime.specs.Days.{day_of, month_of}
use Rattle.chrono_datetime.specs.Fields.{quarter_of_month}
use Rattle.chrono_datetime.specs.Month.{month_from_number, month_name}
use Rattle.chrono_datetime.specs.Names.{weekday_name}
use Rattle.chrono_datetime.specs.Weekday.{days_from_sunday, number_from_monday}
use Rattle.chrono_datetime.specs.WeekdayText.{weekday_text}
use Rattle.chrono_datetime.specs.Weeks.{weekday_of}
use Rattle.chrono_datetime.specs.declared.Weekday.{Weekday}
use Rattle.chrono_pattern.specs.Groups.{group_text}
use Rattle.chrono_pattern.specs.Numbers.{field_text, least_digits, padded, padding_of, year_sign}
use Rattle.chrono_pattern.specs.Patterns.{text_from}
use Rattle.chrono_pattern.specs.PatternSteps.{date_number_at, group_at, opened_step, time_number_at, unpadded_step, word_at}
use Rattle.chrono_pattern.specs.Subseconds.{subsecond_of}
use Rattle.chrono_pattern.specs.Words.{word_text}
use Rattle.chrono_pattern.specs.declared.item.NumberField.{NumberField}
use Rattle.chrono_pattern.specs.declared.item.NumberField.TheVariants.{Year, Century, YearOfCentury, Quarter, Month, Day, SpacedDay, DayOfYear, FromMonday, FromSunday, IsoYear, IsoYearOfCentury, IsoWeek, WeekFromSunday, WeekFromMonday}
use Rattle.chrono_pattern.specs.declared.item.Padding.{Padding}
use Rattle.chrono_pattern.specs.declared.item.Padding.TheVariants.{Usual, Nothing, Spaces, Zeros}
use Rattle.chrono_pattern.proofs.law.known_texts_of_all_specifiers.Goals as goal

-- a number with each padding, by its sign and its size, in front of more
abbrev four : NumberField → List ℕ → ℕ → List ℕ → List ℕ
four f sign n more =
    let text = λ (p : Padding). padded (padding_of f p) (least_digits f (length sign)) sign n in
    text Usual ++ (32 ∷ (text Nothing ++ (32 ∷ (text Spaces ++ (32 ∷ (text Zeros ++ more))))))

-- the texts of the patterns by the numbers that they write
abbrev year_text : ℤ → List ℕ
year_text y =
    four Year (year_sign y) (unsigned_abs y)
    (124 ∷ four Century (if int_lt y (pos 0) then codes "-" else []) (unsigned_abs (int_div_euclid y (pos 100)))
    (124 ∷ four YearOfCentury [] (unsigned_abs (int_rem_euclid y (pos 100))) []))

abbrev iso_text : ℤ → List ℕ
iso_text y = four IsoYear (year_sign y) (unsigned_abs y) (124 ∷ four IsoYearOfCentury [] (unsigned_abs (int_rem_euclid y (pos 100))) [])

abbrev month_text : ℕ → List ℕ
month_text m =
    let name = month_name (month_from_number m) in
    four Month [] m (124 ∷ four Quarter [] (quarter_of_month m) (124 ∷ (name ++ (124 ∷ (take 3 name ++ (124 ∷ (take 3 name ++ [])))))))

abbrev day_text : ℕ → List ℕ
day_text d = four Day [] d (124 ∷ four SpacedDay [] d [])

abbrev week_text : Weekday → List ℕ
week_text d = four FromMonday [] (number_from_monday d) (124 ∷ four FromSunday [] (days_from_sunday d) (124 ∷ (weekday_name d ++ (124 ∷ (weekday_text d ++ [])))))

-- the groups of a date, and `%c`
abbrev two : ℕ → List ℕ
two n = padded Zeros 2 [] n

abbrev dated : ℤ → ℕ → ℕ → List ℕ
dated y m d =
    let year = padded Zeros 4 (year_sign y) (unsigned_abs y) in
    let short = two m ++ 47 ∷ two d ++ 47 ∷ two (unsigned_abs (int_rem_euclid y (pos 100))) in
    (year ++ 45 ∷ two m ++ 45 ∷ two d)
    ++ (32 ∷ (short ++ (32 ∷ (short ++ (32 ∷ ((padded Spaces 2 [] d ++ 45 ∷ take 3 (month_name (month_from_number m)) ++ 45 ∷ year) ++ []))))))

abbrev whole : ℤ → ℕ → ℕ → Weekday → List ℕ
whole y m d w =
    ((weekday_text w ++ 32 ∷ take 3 (month_name (month_from_number m)) ++ 32 ∷ padded Spaces 2 [] d)
    ++ 32 ∷ codes "15:04:05" ++ 32 ∷ padded Zeros 4 (year_sign y) (unsigned_abs y)) ++ []

pub returns-clause-year : goal.returns-clause-year
unfolding text_from opened_step unpadded_step date_number_at time_number_at word_at group_at field_text word_text group_text subsecond_of digits
returns-clause-year c m is = ap year_text is

pub returns-clause-iso_year : goal.returns-clause-iso_year
unfolding text_from opened_step unpadded_step date_number_at time_number_at word_at group_at field_text word_text group_text subsecond_of digits
returns-clause-iso_year c m is = ap iso_text is

pub returns-clause-month : goal.returns-clause-month
unfolding text_from opened_step unpadded_step date_number_at time_number_at word_at group_at field_text word_text group_text subsecond_of digits
returns-clause-month c m is = ap month_text is

pub returns-clause-day : goal.returns-clause-day
unfolding text_from opened_step unpadded_step date_number_at time_number_at word_at group_at field_text word_text group_text subsecond_of digits
returns-clause-day c m is = ap day_text is

pub returns-clause-ordinal : goal.returns-clause-ordinal
unfolding text_from opened_step unpadded_step date_number_at time_number_at word_at group_at field_text word_text group_text subsecond_of digits
returns-clause-ordinal c m is = ap (λ (n : ℕ). four DayOfYear [] n []) is

pub returns-clause-weekday : goal.returns-clause-weekday
unfolding text_from opened_step unpadded_step date_number_at time_number_at word_at group_at field_text word_text group_text subsecond_of digits
returns-clause-weekday c m is = ap week_text is

pub returns-clause-iso_week : goal.returns-clause-iso_week
unfolding text_from opened_step unpadded_step date_number_at time_number_at word_at group_at field_text word_text group_text subsecond_of digits
returns-clause-iso_week c m is = ap (λ (n : ℕ). four IsoWeek [] n []) is

pub returns-clause-sundays : goal.returns-clause-sundays
unfolding text_from opened_step unpadded_step date_number_at time_number_at word_at group_at field_text word_text group_text subsecond_of digits
returns-clause-sundays c m is = ap (λ (n : ℕ). four WeekFromSunday [] n []) is

pub returns-clause-mondays : goal.returns-clause-mondays
unfolding text_from opened_step unpadded_step date_number_at time_number_at word_at group_at field_text word_text group_text subsecond_of digits
returns-clause-mondays c m is = ap (λ (n : ℕ). four WeekFromMonday [] n []) is

pub returns-clause-afternoon : goal.returns-clause-afternoon
unfolding text_from opened_step unpadded_step date_number_at time_number_at word_at group_at field_text word_text group_text subsecond_of digits
returns-clause-afternoon c n = refl

pub returns-clause-hour : goal.returns-clause-hour
unfolding text_from opened_step unpadded_step date_number_at time_number_at word_at group_at field_text word_text group_text subsecond_of digits
returns-clause-hour c n = refl

pub returns-clause-minute : goal.returns-clause-minute
unfolding text_from opened_step unpadded_step date_number_at time_number_at word_at group_at field_text word_text group_text subsecond_of digits
returns-clause-minute c n = refl

pub returns-clause-fraction : goal.returns-clause-fraction
unfolding text_from opened_step unpadded_step date_number_at time_number_at word_at group_at field_text word_text group_text subsecond_of digits
returns-clause-fraction c n = refl

pub returns-clause-dates : goal.returns-clause-dates
unfolding text_from opened_step unpadded_step date_number_at time_number_at word_at group_at field_text word_text group_text subsecond_of digits
returns-clause-dates c m year month day =
    ap (λ (y : ℤ). dated y (month_of m.date) (day_of m.date)) year ∙ ap (λ (k : ℕ). dated (pos 2024) k (day_of m.date)) month ∙ ap (λ (k : ℕ). dated (pos 2024) 12 k) day

pub returns-clause-times : goal.returns-clause-times
unfolding text_from opened_step unpadded_step date_number_at time_number_at word_at group_at field_text word_text group_text subsecond_of digits
returns-clause-times c n = refl

pub returns-clause-all : goal.returns-clause-all
unfolding text_from opened_step unpadded_step date_number_at time_number_at word_at group_at field_text word_text group_text subsecond_of digits
returns-clause-all c n year month day weekday =
    ap (λ (y : ℤ). whole y (month_of n) (day_of n) (weekday_of n)) year
    ∙ ap (λ (k : ℕ). whole (pos 2024) k (day_of n) (weekday_of n)) month
    ∙ ap (λ (k : ℕ). whole (pos 2024) 12 k (weekday_of n)) day
    ∙ ap (λ (w : Weekday). whole (pos 2024) 12 30 w) weekday

pub returns-clause-bytes : goal.returns-clause-bytes
unfolding text_from opened_step unpadded_step date_number_at time_number_at word_at group_at field_text word_text group_text subsecond_of digits
returns-clause-bytes c m = refl
