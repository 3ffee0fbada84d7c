-- The texts of Go's library robfig/cron, as its parser ParseStandard reads them. What is said of it is the documentation of its version 3 and its
-- files parser.go and spec.go, in our words where there are no quotation marks.
-- Our choices: a number has one digit or two, and a step one to three. No item is empty, and nothing stands behind `*` or `?` but a step. Nicknames
-- may have letters of either case.
use Rattle.std.specs.Prelude.{◌≡◌, ℕ, Bool, true, false, not, ◌&&◌, ◌||◌, if◌then◌else◌, List, [], ◌∷◌, length, Option, Some, None, Result, Ok, Err, codes, refl}
use Rattle.std.specs.List.{list_any}
use Rattle.std.specs.Option.{ok_or}
use Rattle.std.specs.Result.{result_ok}
use Rattle.std.specs.Str.{byte}
use Rattle.chrono_text.specs.Lists.{pieces, stands_in}
use Rattle.chrono_text.specs.Numbers.{digits_of, natural_of}
use Rattle.chrono_datetime.specs.Names.{month_of_letters, weekday_of_letters}
use Rattle.chrono_sets.specs.FiniteSets.{FiniteSet, no_numbers, numbers, with_number}
use Rattle.chrono_cron.specs.Due.{no_month_days}
use Rattle.chrono_cron.specs.FieldTexts.{before_byte, behind_byte, is_star, step_of}
use Rattle.chrono_cron.specs.PlacedWords.{placed_words}
use Rattle.chrono_cron.specs.ScheduleErrors.{front_fault, front_or, schedule_error_at, words_fault}
use Rattle.chrono_cron.specs.ScheduleTexts.{is_number, nickname_meaning}
use Rattle.chrono_cron.specs.declared.text.schedule_error.ScheduleFault.TheVariants.{Empty, Interval, NotANumber, OutOfRange, RangeTurnedRound, StepOfZero, TimeZone, TooFewFields, TooManyFields, UnknownNickname}
use Rattle.chrono_cron.specs.declared.text.schedule_error.ScheduleField.TheVariants.{Minute, Hour, Day, Month, Weekday}
use Rattle.timed_cron.specs.DialectFields.{ends_read, field_number, field_number_read, form_number_fault, is_mark, items_read, named_number, number_written, numbers_read, range_read, read_then, span_lists, span_read, step_read, stepped_ends_read, with_span}
use Rattle.timed_cron.specs.DialectTexts.{in_field, unless_in_front}
use Rattle.timed_cron.specs.declared.field_form.FieldForm.{FieldForm}
use Rattle.timed_cron.specs.declared.field_form.FieldNames.{FieldNames}
use Rattle.timed_cron.specs.declared.field_form.FieldNames.TheVariants.{Nothing, Months, WeekdaysFromZero}
use Rattle.timed_cron.specs.declared.timed_error.TimedError.{TimedError}
use Rattle.timed_cron.specs.declared.timed_error.TimedError.TheVariants.{Fields as InFields}
use Rattle.timed_cron.specs.declared.timed_schedule.TimedSchedule.{TimedSchedule}

-- ---- fields

-- the numbers of a field. A range has to end where it begins or behind that: "beginning of range beyond end of range" is an error
abbrev pub robfig_form : FieldNames → ℕ → ℕ → FieldForm
robfig_form names low high = record { names = names; digits = 2; low = low; high = high; base = 0; wraps = false; marks = true }

-- the text is `*` or `?`
abbrev pub is_star_or_mark : List ℕ → Bool
is_star_or_mark text = is_star text || is_mark text

-- an item has the star bit, "if a star was included in the expression": it is `*` or `?`, by ones. A step of 2 or more takes the bit away
unfoldable pub is_star_item : List ℕ → Bool
is_star_item item =
    if stands_in (byte "/") item then is_star_or_mark (before_byte (byte "/") item) && is_number 1 (step_of (behind_byte (byte "/") item))
    else is_star_or_mark item

-- a field has the star bit: one of its items has it
unfoldable pub has_star : List ℕ → Bool
has_star text = list_any is_star_item (pieces (byte ",") text)

-- ---- schedules

-- the minutes and the hours: 0-59 and 0-23
unfoldable pub robfig_times_read : ℕ × List ℕ → ℕ × List ℕ → Result (FiniteSet × FiniteSet) TimedError
robfig_times_read a b =
    read_then (in_field Minute a.0 (numbers_read (robfig_form Nothing 0 59) a.1)) (λ minutes.
    read_then (in_field Hour b.0 (numbers_read (robfig_form Nothing 0 23) b.1)) (λ hours. Ok (minutes, hours)))

-- the days of the month, the months and the days of the week: 1-31, "1-12 or JAN-DEC" and "0-6 or SUN-SAT"
unfoldable pub robfig_days_read : ℕ × List ℕ → ℕ × List ℕ → ℕ × List ℕ → Result (FiniteSet × FiniteSet × FiniteSet) TimedError
robfig_days_read c d e =
    read_then (in_field Day c.0 (numbers_read (robfig_form Nothing 1 31) c.1)) (λ days.
    read_then (in_field Month d.0 (numbers_read (robfig_form Months 1 12) d.1)) (λ months.
    read_then (in_field Weekday e.0 (numbers_read (robfig_form WeekdaysFromZero 0 6) e.1)) (λ weekdays. Ok (days, months, weekdays))))

-- the schedule, which is due at second 0 alone, in each year. A day has to be in both fields of days if one of them has the star bit, and
-- otherwise in one of them
abbrev pub robfig_schedule : FiniteSet × FiniteSet → FiniteSet × FiniteSet × FiniteSet → Bool → TimedSchedule
robfig_schedule times days either = record {
  schedule = record {
    sets = record {
      minutes = times.0;
      hours = times.1;
      days = days.0;
      months = days.1;
      weekdays = days.2;
      month_days = no_month_days;
      either = either;
      follows_clock = false;
    };
  };
  seconds = with_number no_numbers 0;
  years = None;
}

-- the schedule of five fields, each with the place at which it begins: "minute, hour, day of month, month and day of week, in that order"
unfoldable pub robfig_fields_read : ℕ × List ℕ → ℕ × List ℕ → ℕ × List ℕ → ℕ × List ℕ → ℕ × List ℕ → Result TimedSchedule TimedError
robfig_fields_read a b c d e =
    read_then (robfig_times_read a b) (λ times.
    read_then (robfig_days_read c d e) (λ days. Ok (robfig_schedule times days (not (has_star c.1) && not (has_star e.1)))))

-- ---- texts

-- the schedule of the words for which a nickname stands, if they are five fields that can be read
abbrev pub robfig_meaning_read : List (ℕ × List ℕ) → Option TimedSchedule
robfig_meaning_read (a ∷ b ∷ c ∷ d ∷ e ∷ []) = result_ok (robfig_fields_read a b c d e)
robfig_meaning_read others = None

-- "It requires 5 entries", or one of its "pre-defined schedules", which stands alone. Any other word alone stands for itself
abbrev pub robfig_words_read : ℕ → List (ℕ × List ℕ) → Result TimedSchedule TimedError
robfig_words_read end (word ∷ []) = ok_or (robfig_meaning_read (placed_words 0 (nickname_meaning word.1))) (InFields (schedule_error_at None (words_fault end (word ∷ []))))
robfig_words_read end (a ∷ b ∷ c ∷ d ∷ e ∷ []) = unless_in_front (front_fault a.1) a.0 (robfig_fields_read a b c d e)
robfig_words_read end others = Err (InFields (schedule_error_at None (words_fault end others)))

-- the schedule of a text of robfig/cron, or what is wrong with the text: the first of its fields that cannot be read, the place, and the reason
unfoldable pub robfig_read : List ℕ → Result TimedSchedule TimedError
robfig_read text = robfig_words_read (length text) (placed_words 0 text)

-- ---- known values

-- weekdays count from 0 for Sunday, by name too, and 7 is none; a number alone by steps goes to the end of the field
robfig-weekdays : numbers_read (robfig_form WeekdaysFromZero 0 6) (codes "0,fri-SAT,1/4") ≡ Ok (numbers (0 ∷ 5 ∷ 6 ∷ 1 ∷ []))
unfolding items_read span_read stepped_ends_read ends_read range_read field_number_read form_number_fault field_number number_written named_number step_read span_lists with_span step_of digits_of natural_of month_of_letters weekday_of_letters
robfig-weekdays = refl

robfig-no_seven : numbers_read (robfig_form WeekdaysFromZero 0 6) (codes "0,7") ≡ Err (2, OutOfRange)
unfolding items_read span_read stepped_ends_read ends_read range_read field_number_read form_number_fault field_number number_written named_number step_read span_lists with_span step_of digits_of natural_of month_of_letters weekday_of_letters
robfig-no_seven = refl

robfig-no_round : numbers_read (robfig_form Nothing 0 23) (codes "22-2") ≡ Err (3, RangeTurnedRound)
unfolding items_read span_read stepped_ends_read ends_read range_read field_number_read form_number_fault field_number number_written named_number step_read span_lists with_span step_of digits_of natural_of month_of_letters weekday_of_letters
robfig-no_round = refl

-- a question mark is `*`, by steps too, and it may stand in a list
robfig-marks : numbers_read (robfig_form Months 1 12) (codes "?/5,feb") ≡ Ok (numbers (1 ∷ 6 ∷ 11 ∷ 2 ∷ []))
unfolding items_read span_read stepped_ends_read ends_read range_read field_number_read form_number_fault field_number number_written named_number step_read span_lists with_span step_of digits_of natural_of month_of_letters weekday_of_letters
robfig-marks = refl

-- nothing but a step stands behind it
robfig-behind_mark : numbers_read (robfig_form Nothing 1 31) (codes "?-5") ≡ Err (0, NotANumber)
unfolding items_read span_read stepped_ends_read ends_read range_read field_number_read form_number_fault field_number number_written named_number step_read span_lists with_span step_of digits_of natural_of month_of_letters weekday_of_letters
robfig-behind_mark = refl

-- a star in a list, and one by ones, but none by twos; a list of all numbers is no star
has_star-yes : (has_star (codes "1,*") && (has_star (codes "?/01,5") && has_star (codes "*/1"))) ≡ true
unfolding has_star is_star_item step_of digits_of natural_of
has_star-yes = refl

has_star-no : (has_star (codes "*/2,1") || (has_star (codes "1-31") || has_star (codes "?/2"))) ≡ false
unfolding has_star is_star_item step_of digits_of natural_of
has_star-no = refl

-- a star by a greater step restricts, so either field of days will do; a question mark by ones does not
robfig_read-either : robfig_read (codes "0 0 */20 1 0")
    ≡ Ok (robfig_schedule (numbers (0 ∷ []), numbers (0 ∷ [])) (numbers (1 ∷ 21 ∷ []), numbers (1 ∷ []), numbers (0 ∷ [])) true)
unfolding robfig_read robfig_fields_read robfig_times_read robfig_days_read has_star is_star_item placed_words front_or front_fault nickname_meaning items_read span_read stepped_ends_read ends_read range_read field_number_read form_number_fault field_number number_written named_number step_read span_lists with_span step_of digits_of natural_of month_of_letters weekday_of_letters
robfig_read-either = refl

robfig_read-both : robfig_read (codes "0 0 1 1 ?/1")
    ≡ Ok (robfig_schedule (numbers (0 ∷ []), numbers (0 ∷ [])) (numbers (1 ∷ []), numbers (1 ∷ []), numbers (0 ∷ 1 ∷ 2 ∷ 3 ∷ 4 ∷ 5 ∷ 6 ∷ [])) false)
unfolding robfig_read robfig_fields_read robfig_times_read robfig_days_read has_star is_star_item placed_words front_or front_fault nickname_meaning items_read span_read stepped_ends_read ends_read range_read field_number_read form_number_fault field_number number_written named_number step_read span_lists with_span step_of digits_of natural_of month_of_letters weekday_of_letters
robfig_read-both = refl

-- a nickname is its five fields
robfig_read-yearly : robfig_read (codes " @Yearly ") ≡ robfig_read (codes "0 0 1 1 *")
unfolding robfig_read robfig_fields_read robfig_times_read robfig_days_read has_star is_star_item placed_words front_or front_fault nickname_meaning items_read span_read stepped_ends_read ends_read range_read field_number_read form_number_fault field_number number_written named_number step_read span_lists with_span step_of digits_of natural_of month_of_letters weekday_of_letters
robfig_read-yearly = refl

-- what is wrong: by the field and the place, and by the words
robfig_read-step : robfig_read (codes "0 0 1 1 */0") ≡ Err (InFields (schedule_error_at (Some Weekday) (10, StepOfZero)))
unfolding robfig_read robfig_fields_read robfig_times_read robfig_days_read has_star is_star_item placed_words front_or front_fault nickname_meaning items_read span_read stepped_ends_read ends_read range_read field_number_read form_number_fault field_number number_written named_number step_read span_lists with_span step_of digits_of natural_of month_of_letters weekday_of_letters
robfig_read-step = refl

robfig_read-hour : robfig_read (codes " 0 24 1 1 8") ≡ Err (InFields (schedule_error_at (Some Hour) (3, OutOfRange)))
unfolding robfig_read robfig_fields_read robfig_times_read robfig_days_read has_star is_star_item placed_words front_or front_fault nickname_meaning items_read span_read stepped_ends_read ends_read range_read field_number_read form_number_fault field_number number_written named_number step_read span_lists with_span step_of digits_of natural_of month_of_letters weekday_of_letters
robfig_read-hour = refl

robfig_read-six : robfig_read (codes "0 0 0 1 1 *") ≡ Err (InFields (schedule_error_at None (10, TooManyFields)))
unfolding robfig_read robfig_fields_read robfig_times_read robfig_days_read has_star is_star_item placed_words front_or front_fault nickname_meaning items_read span_read stepped_ends_read ends_read range_read field_number_read form_number_fault field_number number_written named_number step_read span_lists with_span step_of digits_of natural_of month_of_letters weekday_of_letters
robfig_read-six = refl

robfig_read-none : robfig_read (codes "  ") ≡ Err (InFields (schedule_error_at None (2, Empty)))
unfolding robfig_read robfig_fields_read robfig_times_read robfig_days_read has_star is_star_item placed_words front_or front_fault nickname_meaning items_read span_read stepped_ends_read ends_read range_read field_number_read form_number_fault field_number number_written named_number step_read span_lists with_span step_of digits_of natural_of month_of_letters weekday_of_letters
robfig_read-none = refl

robfig_read-one : robfig_read (codes " 5") ≡ Err (InFields (schedule_error_at None (2, TooFewFields)))
unfolding robfig_read robfig_fields_read robfig_times_read robfig_days_read has_star is_star_item placed_words front_or front_fault nickname_meaning items_read span_read stepped_ends_read ends_read range_read field_number_read form_number_fault field_number number_written named_number step_read span_lists with_span step_of digits_of natural_of month_of_letters weekday_of_letters
robfig_read-one = refl

robfig_read-unknown : robfig_read (codes " @dayly") ≡ Err (InFields (schedule_error_at None (1, UnknownNickname)))
unfolding robfig_read robfig_fields_read robfig_times_read robfig_days_read has_star is_star_item placed_words front_or front_fault nickname_meaning items_read span_read stepped_ends_read ends_read range_read field_number_read form_number_fault field_number number_written named_number step_read span_lists with_span step_of digits_of natural_of month_of_letters weekday_of_letters
robfig_read-unknown = refl

robfig_read-interval : robfig_read (codes "@every 5m") ≡ Err (InFields (schedule_error_at None (0, Interval)))
unfolding robfig_read robfig_fields_read robfig_times_read robfig_days_read has_star is_star_item placed_words front_or front_fault nickname_meaning items_read span_read stepped_ends_read ends_read range_read field_number_read form_number_fault field_number number_written named_number step_read span_lists with_span step_of digits_of natural_of month_of_letters weekday_of_letters
robfig_read-interval = refl

robfig_read-zone : robfig_read (codes "TZ=UTC 0 0 1 1") ≡ Err (InFields (schedule_error_at None (0, TimeZone)))
unfolding robfig_read robfig_fields_read robfig_times_read robfig_days_read has_star is_star_item placed_words front_or front_fault nickname_meaning items_read span_read stepped_ends_read ends_read range_read field_number_read form_number_fault field_number number_written named_number step_read span_lists with_span step_of digits_of natural_of month_of_letters weekday_of_letters
robfig_read-zone = refl
