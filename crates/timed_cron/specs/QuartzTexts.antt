-- The texts of Quartz's cron triggers. What is said of Quartz is its "Cron Triggers Tutorial" and the documentation of its class CronExpression.
use Rattle.std.specs.Prelude.{◌≡◌, ℕ, ◌+◌, ◌-◌, ◌*◌, Bool, true, false, if◌then◌else◌, List, [], ◌∷◌, length, drop, Option, Some, None, Result, Ok, Err, is_some, codes, refl}
use Rattle.std.specs.Option.{option_map, option_and_then}
use Rattle.std.specs.Str.{byte, str_eq_ignore_ascii_case}
use Rattle.chrono_text.specs.Lists.{begins_alike, pieces, stands_in}
use Rattle.chrono_text.specs.Numbers.{digits_of, natural_of}
use Rattle.chrono_datetime.specs.Names.{month_of_letters, weekday_of_letters}
use Rattle.chrono_sets.specs.FiniteSets.{FiniteSet, no_numbers, numbers, with_number}
use Rattle.chrono_cron.specs.Due.{no_month_days}
use Rattle.chrono_cron.specs.FieldTexts.{before_byte, behind_byte, step_of}
use Rattle.chrono_cron.specs.PlacedWords.{placed_words}
use Rattle.chrono_cron.specs.ScheduleErrors.{front_fault, front_or, one_word_fault, schedule_error_at}
use Rattle.chrono_cron.specs.ScheduleTexts.{before_letter, is_last_workday_text}
use Rattle.chrono_cron.specs.declared.named_days.MonthDays.{MonthDays}
use Rattle.chrono_cron.specs.declared.text.schedule_error.ScheduleFault.{ScheduleFault}
use Rattle.chrono_cron.specs.declared.text.schedule_error.ScheduleFault.TheVariants.{Empty, OutOfRange, Reboot, TimeZone, TooFewFields, TooManyFields}
use Rattle.chrono_cron.specs.declared.text.schedule_error.ScheduleField.TheVariants.{Minute, Hour, Day, Month, Weekday}
use Rattle.timed_cron.specs.DialectFields.{read_then, ends_read, is_mark, items_read, named_number, form_number_fault, field_number, field_number_read, number_written, numbers_read, range_read, span_by, span_lists, span_read, step_read, stepped_ends_read, with_span}
use Rattle.timed_cron.specs.DialectTexts.{in_field, unless_in_front}
use Rattle.timed_cron.specs.declared.field_form.FieldForm.{FieldForm}
use Rattle.timed_cron.specs.declared.field_form.FieldNames.TheVariants.{Nothing, Months, Weekdays}
use Rattle.timed_cron.specs.declared.quartz_days.DaySets.{DaySets}
use Rattle.timed_cron.specs.declared.timed_error.TimedError.{TimedError}
use Rattle.timed_cron.specs.declared.timed_error.TimedError.TheVariants.{Seconds as InSeconds, Fields as InFields, QuestionMarks, Years as InYears}
use Rattle.timed_cron.specs.declared.timed_schedule.TimedSchedule.{TimedSchedule}
use Rattle.timed_cron.specs.declared.year_set.YearSet.{YearSet}

-- ---- the numbers of the fields: seconds and minutes 0-59, hours 0-23, days of the month 1-31, months 1-12 or JAN-DEC, days of the week 1-7 or
-- SUN-SAT, years 1970-2099
abbrev pub plain_form : ℕ → ℕ → FieldForm
plain_form low high = record { names = Nothing; digits = 2; low = low; high = high; base = 0; wraps = true; marks = false }

abbrev pub months_form : FieldForm
months_form = record { names = Months; digits = 2; low = 1; high = 12; base = 0; wraps = true; marks = false }

-- 1 is Sunday, which has the place 0
abbrev pub weekdays_form : FieldForm
weekdays_form = record { names = Weekdays; digits = 2; low = 1; high = 7; base = 1; wraps = true; marks = false }

abbrev pub years_form : FieldForm
years_form = record { names = Nothing; digits = 4; low = 1_970; high = 2_099; base = 1_970; wraps = false; marks = false }

-- ---- days that are named. Each stands alone in its field: "it is important not to specify lists, or ranges of values"

-- `L` in the days of the month, "the last day of the month", and `L-3`, the day that three others follow: see `is_named_by_place` of chrono_cron
unfoldable pub days_from_end : List ℕ → Option ℕ
days_from_end text =
    if str_eq_ignore_ascii_case text (codes "L") then Some 0
    else if begins_alike (codes "L-") text then field_number (plain_form 1 30) (drop 2 text)
    else None

-- `15W`, "the nearest weekday to the 15th of the month". `LW` is "last weekday of the month"
unfoldable pub nearest_workday : List ℕ → Option ℕ
nearest_workday text = option_and_then (field_number (plain_form 1 31)) (before_letter (byte "w") text)

-- `6L` in the days of the week, "the last friday of the month"
unfoldable pub last_weekday : List ℕ → Option ℕ
last_weekday text = option_and_then (field_number weekdays_form) (before_letter (byte "l") text)

-- `6#3`, "the third Friday of the month": as the number of `is_nth_of_its_weekday` of chrono_cron
unfoldable pub quartz_nth_weekday : List ℕ → Option ℕ
quartz_nth_weekday text =
    option_and_then (λ d. option_map (λ k. 7 * (k - 1) + (d - 1)) (field_number (plain_form 1 5) (behind_byte (byte "#") text))) (field_number weekdays_form (before_byte (byte "#") text))

-- the set of the number, if there is one
abbrev pub alone : Option ℕ → FiniteSet
alone None = no_numbers
alone (Some n) = with_number no_numbers n

-- the days that a field of days lists, and that which it names
abbrev pub listed_days : FiniteSet → DaySets
listed_days set = record { numbers = set; named = no_month_days }

abbrev pub named_days : MonthDays → DaySets
named_days named = record { numbers = no_numbers; named = named }

-- what is wrong with a number in front of a letter that ends the text, such as `32W`
abbrev pub quartz_letter_fault : FieldForm → ℕ → List ℕ → Option (ℕ × ScheduleFault)
quartz_letter_fault form letter text = if is_some (option_and_then (number_written form) (before_letter letter text)) then Some (0, OutOfRange) else None

-- and with a number that names a day of the month
unfoldable pub day_fault : List ℕ → Option (ℕ × ScheduleFault)
day_fault text =
    if begins_alike (codes "L-") text then Some (2, form_number_fault (plain_form 1 30) (drop 2 text)) else quartz_letter_fault (plain_form 1 31) (byte "w") text

-- around a `#`
abbrev pub quartz_sharp_fault : List ℕ → ℕ × ScheduleFault
quartz_sharp_fault text =
    let front = before_byte (byte "#") text in
    if is_some (field_number weekdays_form front) then (length front + 1, form_number_fault (plain_form 1 5) (behind_byte (byte "#") text)) else (0, form_number_fault weekdays_form front)

-- and with a number that names a weekday
unfoldable pub quartz_weekday_fault : List ℕ → Option (ℕ × ScheduleFault)
quartz_weekday_fault text = if stands_in (byte "#") text then Some (quartz_sharp_fault text) else quartz_letter_fault weekdays_form (byte "l") text

-- the numbers of a field, unless something is wrong with a day that it names
abbrev pub listed_unless : Option (ℕ × ScheduleFault) → Result FiniteSet (ℕ × ScheduleFault) → Result DaySets (ℕ × ScheduleFault)
listed_unless (Some fault) numbers = Err fault
listed_unless None numbers = read_then numbers (λ set. Ok (listed_days set))

-- "`?` (no specific value)": the field leaves out no day
abbrev pub every_quartz_day : FieldForm → DaySets
every_quartz_day form = listed_days (with_span no_numbers form (span_by (form.low, form.high) 1))

-- the first of these that there is: `L` and `L-3`, `LW`, `15W`, and otherwise numbers
abbrev pub quartz_days_by : Option ℕ → Bool → Option ℕ → List ℕ → Result DaySets (ℕ × ScheduleFault)
quartz_days_by (Some n) last_workday nearest text = Ok (named_days (record no_month_days { from_end = alone (Some n) }))
quartz_days_by None true nearest text = Ok (named_days (record no_month_days { last_workday = true }))
quartz_days_by None false (Some n) text = Ok (named_days (record no_month_days { nearest_workdays = alone (Some n) }))
quartz_days_by None false None text = listed_unless (day_fault text) (numbers_read (plain_form 1 31) text)

unfoldable pub days_read : List ℕ → Result DaySets (ℕ × ScheduleFault)
days_read text = if is_mark text then Ok (every_quartz_day (plain_form 1 31)) else quartz_days_by (days_from_end text) (is_last_workday_text text) (nearest_workday text) text

-- `6L`, `6#3`, and otherwise numbers. `L` alone "means 7 or SAT"
abbrev pub weekdays_by : Bool → Option ℕ → Option ℕ → List ℕ → Result DaySets (ℕ × ScheduleFault)
weekdays_by true last nth text = Ok (listed_days (with_number no_numbers 6))
weekdays_by false (Some n) nth text = Ok (named_days (record no_month_days { last_weekdays = alone (Some (n - 1)) }))
weekdays_by false None (Some n) text = Ok (named_days (record no_month_days { nth_weekdays = alone (Some n) }))
weekdays_by false None None text = listed_unless (quartz_weekday_fault text) (numbers_read weekdays_form text)

unfoldable pub weekdays_read : List ℕ → Result DaySets (ℕ × ScheduleFault)
weekdays_read text = if is_mark text then Ok (every_quartz_day weekdays_form) else weekdays_by (str_eq_ignore_ascii_case text (codes "L")) (last_weekday text) (quartz_nth_weekday text) text

-- ---- fields, each with the place at which it begins

abbrev pub in_seconds : {A : Type 0} → ℕ → Result A (ℕ × ScheduleFault) → Result A TimedError
in_seconds place (Ok a) = Ok a
in_seconds place (Err e) = Err (InSeconds (schedule_error_at None (place + e.0, e.1)))

abbrev pub in_years : {A : Type 0} → ℕ → Result A (ℕ × ScheduleFault) → Result A TimedError
in_years place (Ok a) = Ok a
in_years place (Err e) = Err (InYears (schedule_error_at None (place + e.0, e.1)))

-- the seconds, the minutes and the hours
unfoldable pub clock_read : ℕ × List ℕ → ℕ × List ℕ → ℕ × List ℕ → Result (FiniteSet × FiniteSet × FiniteSet) TimedError
clock_read a b c =
    read_then (in_seconds a.0 (numbers_read (plain_form 0 59) a.1)) (λ seconds.
    read_then (in_field Minute b.0 (numbers_read (plain_form 0 59) b.1)) (λ minutes.
    read_then (in_field Hour c.0 (numbers_read (plain_form 0 23) c.1)) (λ hours. Ok (seconds, minutes, hours))))

-- "you must currently use the `?` character in one of these fields": one of the two fields of days is `?`, and the other is not
abbrev pub unless_marks : Bool → Bool → ℕ → DaySets × FiniteSet × DaySets → Result (DaySets × FiniteSet × DaySets) TimedError
unless_marks true true place days = Err (QuestionMarks place)
unless_marks true false place days = Ok days
unless_marks false true place days = Ok days
unless_marks false false place days = Err (QuestionMarks place)

-- the days of the month, the months and the days of the week
unfoldable pub calendar_read : ℕ × List ℕ → ℕ × List ℕ → ℕ × List ℕ → Result (DaySets × FiniteSet × DaySets) TimedError
calendar_read d e f =
    read_then (in_field Day d.0 (days_read d.1)) (λ days.
    read_then (in_field Month e.0 (numbers_read months_form e.1)) (λ months.
    read_then (in_field Weekday f.0 (weekdays_read f.1)) (λ weekdays. unless_marks (is_mark d.1) (is_mark f.1) f.0 (days, months, weekdays))))

-- the years. "Year (Optional)": with no such field each year is one
unfoldable pub years_read : Option (ℕ × List ℕ) → Result (Option YearSet) TimedError
years_read None = Ok None
years_read (Some g) = read_then (in_years g.0 (items_read with_span years_form no_numbers 0 (pieces (byte ",") g.1))) (λ places. Ok (Some (record { places = places })))

-- the day that the first of the two fields of days names, and that which the second does
abbrev pub named_by_both : MonthDays → MonthDays → MonthDays
named_by_both days weekdays = record {
  from_end = days.from_end;
  nearest_workdays = days.nearest_workdays;
  last_workday = days.last_workday;
  last_weekdays = weekdays.last_weekdays;
  nth_weekdays = weekdays.nth_weekdays;
}

-- the schedule: a day has to be in both fields of days, of which one leaves out none
abbrev pub schedule_of : FiniteSet × FiniteSet × FiniteSet → DaySets × FiniteSet × DaySets → Option YearSet → TimedSchedule
schedule_of t d years = record {
  schedule = record {
    sets = record {
      minutes = t.1;
      hours = t.2;
      days = d.0.numbers;
      months = d.1;
      weekdays = d.2.numbers;
      month_days = named_by_both d.0.named d.2.named;
      either = false;
      follows_clock = false;
    };
  };
  seconds = t.0;
  years = years;
}

unfoldable pub fields_read : ℕ × List ℕ → ℕ × List ℕ → ℕ × List ℕ → ℕ × List ℕ → ℕ × List ℕ → ℕ × List ℕ → Option (ℕ × List ℕ) → Result TimedSchedule TimedError
fields_read a b c d e f g =
    read_then (clock_read a b c) (λ t. read_then (calendar_read d e f) (λ days. read_then (years_read g) (λ years. Ok (schedule_of t days years))))

-- what is wrong with the number of words that are neither six nor seven
abbrev pub quartz_count_fault : ℕ → List (ℕ × List ℕ) → ℕ × ScheduleFault
quartz_count_fault end [] = (end, Empty)
quartz_count_fault end (word ∷ []) = one_word_fault end word
quartz_count_fault end (a ∷ b ∷ c ∷ d ∷ e ∷ f ∷ g ∷ eighth ∷ more) = (eighth.0, TooManyFields)
quartz_count_fault end others = (end, TooFewFields)

-- six fields or seven, with the years behind the others
abbrev pub words_read : ℕ → List (ℕ × List ℕ) → Result TimedSchedule TimedError
words_read end (a ∷ b ∷ c ∷ d ∷ e ∷ f ∷ []) = unless_in_front (front_fault a.1) a.0 (fields_read a b c d e f None)
words_read end (a ∷ b ∷ c ∷ d ∷ e ∷ f ∷ g ∷ []) = unless_in_front (front_fault a.1) a.0 (fields_read a b c d e f (Some g))
words_read end others = Err (InFields (schedule_error_at None (front_or others (quartz_count_fault end others))))

-- the schedule of a text of Quartz, or what is wrong with the text: the first of its fields that cannot be read, the place, and the reason
unfoldable pub quartz_read : List ℕ → Result TimedSchedule TimedError
quartz_read text = words_read (length text) (placed_words 0 text)

-- known values: 1 is Sunday, and so is SUN; L alone is Saturday; the last Friday and the third
weekdays_read-sunday : weekdays_read (codes "1") ≡ Ok (listed_days (numbers (0 ∷ [])))
unfolding days_read days_from_end nearest_workday day_fault weekdays_read last_weekday quartz_nth_weekday quartz_weekday_fault is_last_workday_text items_read span_read stepped_ends_read ends_read range_read field_number_read form_number_fault field_number number_written named_number step_read span_lists with_span step_of digits_of natural_of month_of_letters weekday_of_letters
weekdays_read-sunday = refl

weekdays_read-workdays : weekdays_read (codes "MON-FRI") ≡ Ok (listed_days (numbers (1 ∷ 2 ∷ 3 ∷ 4 ∷ 5 ∷ [])))
unfolding days_read days_from_end nearest_workday day_fault weekdays_read last_weekday quartz_nth_weekday quartz_weekday_fault is_last_workday_text items_read span_read stepped_ends_read ends_read range_read field_number_read form_number_fault field_number number_written named_number step_read span_lists with_span step_of digits_of natural_of month_of_letters weekday_of_letters
weekdays_read-workdays = refl

weekdays_read-last : weekdays_read (codes "6L") ≡ Ok (named_days (record no_month_days { last_weekdays = numbers (5 ∷ []) }))
unfolding days_read days_from_end nearest_workday day_fault weekdays_read last_weekday quartz_nth_weekday quartz_weekday_fault is_last_workday_text items_read span_read stepped_ends_read ends_read range_read field_number_read form_number_fault field_number number_written named_number step_read span_lists with_span step_of digits_of natural_of month_of_letters weekday_of_letters
weekdays_read-last = refl

weekdays_read-third : weekdays_read (codes "6#3") ≡ Ok (named_days (record no_month_days { nth_weekdays = numbers (19 ∷ []) }))
unfolding days_read days_from_end nearest_workday day_fault weekdays_read last_weekday quartz_nth_weekday quartz_weekday_fault is_last_workday_text items_read span_read stepped_ends_read ends_read range_read field_number_read form_number_fault field_number number_written named_number step_read span_lists with_span step_of digits_of natural_of month_of_letters weekday_of_letters
weekdays_read-third = refl

weekdays_read-mark : weekdays_read (codes "?") ≡ Ok (listed_days (numbers (0 ∷ 1 ∷ 2 ∷ 3 ∷ 4 ∷ 5 ∷ 6 ∷ [])))
unfolding days_read days_from_end nearest_workday day_fault weekdays_read last_weekday quartz_nth_weekday quartz_weekday_fault is_last_workday_text items_read span_read stepped_ends_read ends_read range_read field_number_read form_number_fault field_number number_written named_number step_read span_lists with_span step_of digits_of natural_of month_of_letters weekday_of_letters
weekdays_read-mark = refl

-- the day that three others follow
days_read-from_end : days_read (codes "L-3") ≡ Ok (named_days (record no_month_days { from_end = numbers (3 ∷ []) }))
unfolding days_read days_from_end nearest_workday day_fault weekdays_read last_weekday quartz_nth_weekday quartz_weekday_fault is_last_workday_text items_read span_read stepped_ends_read ends_read range_read field_number_read form_number_fault field_number number_written named_number step_read span_lists with_span step_of digits_of natural_of month_of_letters weekday_of_letters
days_read-from_end = refl

days_read-far : days_read (codes "L-31") ≡ Err (2, OutOfRange)
unfolding days_read days_from_end nearest_workday day_fault weekdays_read last_weekday quartz_nth_weekday quartz_weekday_fault is_last_workday_text items_read span_read stepped_ends_read ends_read range_read field_number_read form_number_fault field_number number_written named_number step_read span_lists with_span step_of digits_of natural_of month_of_letters weekday_of_letters
days_read-far = refl

-- the years 2024 to 2026 by their places, and no year past the last
years_read-three : years_read (Some (17, codes "2024-2026")) ≡ Ok (Some (record { places = numbers (54 ∷ 55 ∷ 56 ∷ []) }))
unfolding years_read items_read span_read stepped_ends_read ends_read range_read field_number_read form_number_fault field_number number_written named_number step_read span_lists with_span step_of digits_of natural_of month_of_letters weekday_of_letters
years_read-three = refl

years_read-past : years_read (Some (17, codes "2099,2100")) ≡ Err (InYears (schedule_error_at None (22, OutOfRange)))
unfolding years_read items_read span_read stepped_ends_read ends_read range_read field_number_read form_number_fault field_number number_written named_number step_read span_lists with_span step_of digits_of natural_of month_of_letters weekday_of_letters
years_read-past = refl

-- both fields of days without a `?`, and with one each
quartz_read-no_mark : quartz_read (codes "0 0 12 * * *") ≡ Err (QuestionMarks 11)
unfolding quartz_read fields_read clock_read calendar_read years_read placed_words front_or front_fault days_read days_from_end nearest_workday day_fault weekdays_read last_weekday quartz_nth_weekday quartz_weekday_fault is_last_workday_text items_read span_read stepped_ends_read ends_read range_read field_number_read form_number_fault field_number number_written named_number step_read span_lists with_span step_of digits_of natural_of month_of_letters weekday_of_letters
quartz_read-no_mark = refl

quartz_read-two_marks : quartz_read (codes "0 0 12 ? * ?") ≡ Err (QuestionMarks 11)
unfolding quartz_read fields_read clock_read calendar_read years_read placed_words front_or front_fault days_read days_from_end nearest_workday day_fault weekdays_read last_weekday quartz_nth_weekday quartz_weekday_fault is_last_workday_text items_read span_read stepped_ends_read ends_read range_read field_number_read form_number_fault field_number number_written named_number step_read span_lists with_span step_of digits_of natural_of month_of_letters weekday_of_letters
quartz_read-two_marks = refl

-- a zone in front, and words of another number
quartz_read-zone : quartz_read (codes "CRON_TZ=UTC 0 12 ? * *") ≡ Err (InFields (schedule_error_at None (0, TimeZone)))
unfolding quartz_read fields_read clock_read calendar_read years_read placed_words front_or front_fault
quartz_read-zone = refl

quartz_read-reboot : quartz_read (codes "@reboot") ≡ Err (InFields (schedule_error_at None (0, Reboot)))
unfolding quartz_read fields_read clock_read calendar_read years_read placed_words front_or front_fault
quartz_read-reboot = refl

quartz_read-five : quartz_read (codes "0 12 ? * *") ≡ Err (InFields (schedule_error_at None (10, TooFewFields)))
unfolding quartz_read fields_read clock_read calendar_read years_read placed_words front_or front_fault
quartz_read-five = refl
