-- Fields of numbers as Quartz and robfig/cron have them: what each item lists, and what is wrong with one that cannot be read.
-- What is said of Quartz is its "Cron Triggers Tutorial" and the documentation of its class CronExpression, in our words.
-- What is said of robfig/cron is the documentation of its version 3 and its file parser.go.
use Rattle.std.specs.Prelude.{◌≡◌, ℕ, zero, suc, ◌+◌, ◌-◌, nat_le, Bool, true, false, ◌==◌, ◌&&◌, ◌||◌, if◌then◌else◌, List, [], ◌∷◌, length, take, Option, Some, None, Result, Ok, Err, is_some, codes, refl}
use Rattle.std.specs.Option.{option_map, option_and_then, option_or}
use Rattle.std.specs.Str.{byte}
use Rattle.chrono_text.specs.Lists.{pieces, stands_in}
use Rattle.chrono_text.specs.Numbers.{are_digits, digits_of, if_within, natural_of}
use Rattle.chrono_sets.specs.FiniteSets.{FiniteSet, no_numbers, numbers, with_number}
use Rattle.chrono_sets.specs.Steps.{is_by_steps}
use Rattle.chrono_datetime.specs.Month.{number_from_month}
use Rattle.chrono_datetime.specs.Names.{month_of_letters, weekday_of_letters}
use Rattle.chrono_datetime.specs.Weekday.{days_from_sunday, number_from_sunday}
use Rattle.chrono_cron.specs.FieldTexts.{before_byte, behind_byte, is_star, step_of}
use Rattle.chrono_cron.specs.ScheduleErrors.{step_fault, unspelled_fault}
use Rattle.chrono_cron.specs.declared.text.schedule_error.ScheduleFault.{ScheduleFault}
use Rattle.chrono_cron.specs.declared.text.schedule_error.ScheduleFault.TheVariants.{LongName, OutOfRange, RangeTurnedRound}
use Rattle.timed_cron.specs.declared.field_form.FieldForm.{FieldForm}
use Rattle.timed_cron.specs.declared.field_form.FieldNames.{FieldNames}
use Rattle.timed_cron.specs.declared.field_form.FieldNames.TheVariants.{Nothing, Months, Weekdays, WeekdaysFromZero}
use Rattle.timed_cron.specs.declared.field_form.Span.{Span}

-- ---- what is read, or what is wrong behind how many bytes

-- what a next step makes of what was read
abbrev pub read_then : {A B E : Type 0} → Result A E → (A → Result B E) → Result B E
read_then (Ok a) next = next a
read_then (Err e) next = Err e

-- what is read behind so many bytes: a fault is so many bytes further on
abbrev pub fault_behind : {A : Type 0} → ℕ → Result A (ℕ × ScheduleFault) → Result A (ℕ × ScheduleFault)
fault_behind bytes (Ok a) = Ok a
fault_behind bytes (Err e) = Err (bytes + e.0, e.1)

-- a value, or a fault where there is none
abbrev pub ok_or : {A : Type 0} → Option A → ScheduleFault → Result A (ℕ × ScheduleFault)
ok_or None fault = Err (0, fault)
ok_or (Some a) fault = Ok a

-- ---- numbers

-- the number of a name. "The names of months and days of the week are not case sensitive": months count from 1, and weekdays from 1 for Sunday.
-- In robfig/cron they count from 0, where "Month and Day-of-week field values are case insensitive" too
unfoldable pub named_number : FieldNames → List ℕ → Option ℕ
named_number Nothing text = None
named_number Months text = option_map number_from_month (month_of_letters text)
named_number Weekdays text = option_map number_from_sunday (weekday_of_letters 3 text)
named_number WeekdaysFromZero text = option_map days_from_sunday (weekday_of_letters 3 text)

-- the number that digits write or that has the name
unfoldable pub number_written : FieldForm → List ℕ → Option ℕ
number_written form text = option_or (digits_of form.digits text) (named_number form.names text)

-- the number, if it is one of the field's
unfoldable pub field_number : FieldForm → List ℕ → Option ℕ
field_number form text = option_and_then (if_within form.low form.high) (number_written form text)

-- what is wrong with a text that is none: it writes another number, or letters go on behind a name, or it writes none
unfoldable pub form_number_fault : FieldForm → List ℕ → ScheduleFault
form_number_fault form text =
    if is_some (number_written form text) || are_digits text then OutOfRange
    else if is_some (named_number form.names (take 3 text)) then LongName
    else unspelled_fault text

unfoldable pub field_number_read : FieldForm → List ℕ → Result ℕ (ℕ × ScheduleFault)
field_number_read form text = ok_or (field_number form text) (form_number_fault form text)

-- the step behind a `/`: a number from 1 to 999, which is our choice. Quartz refuses a step that is longer than the field
unfoldable pub step_read : List ℕ → Result ℕ (ℕ × ScheduleFault)
step_read text = ok_or (step_of text) (step_fault text)

-- ---- ranges and steps

-- the text is `?`
abbrev pub is_mark : List ℕ → Bool
is_mark [] = false
is_mark (x ∷ []) = x == byte "?"
is_mark (x ∷ y ∷ rest) = false

-- the text stands for all numbers of the field: "`*` (all values)". In robfig/cron `?` "may be used instead of `*`"
abbrev pub is_all : FieldForm → List ℕ → Bool
is_all form text = is_star text || (form.marks && is_mark text)

-- a range of Quartz may go over the end of the field, such as `22-2`, the hours from 22 to 2. Years do not come round, nor do ranges of robfig/cron
abbrev pub in_order : FieldForm → ℕ → ℕ → ℕ → Result (ℕ × ℕ) (ℕ × ScheduleFault)
in_order form place first last = if form.wraps || nat_le first last then Ok (first, last) else Err (place, RangeTurnedRound)

-- a range by what stands before its `-` and behind it
unfoldable pub range_read : FieldForm → List ℕ → List ℕ → Result (ℕ × ℕ) (ℕ × ScheduleFault)
range_read form front back =
    read_then (field_number_read form front) (λ first.
    read_then (fault_behind (length front + 1) (field_number_read form back)) (λ last. in_order form (length front + 1) first last))

-- the first and the last number of an item: all, "`-` is used to specify ranges", or a number alone
unfoldable pub ends_read : FieldForm → List ℕ → Result (ℕ × ℕ) (ℕ × ScheduleFault)
ends_read form text =
    if is_all form text then Ok (form.low, form.high)
    else if stands_in (byte "-") text then range_read form (before_byte (byte "-") text) (behind_byte (byte "-") text)
    else read_then (field_number_read form text) (λ n. Ok (n, n))

-- the same in front of a `/`, where a number alone begins a range to the end of the field: `5/15` in the minutes are 5, 20, 35 and 50
unfoldable pub stepped_ends_read : FieldForm → List ℕ → Result (ℕ × ℕ) (ℕ × ScheduleFault)
stepped_ends_read form text =
    if is_all form text || stands_in (byte "-") text then ends_read form text
    else read_then (field_number_read form text) (λ n. Ok (n, form.high))

-- a first and a last number, by steps
abbrev pub span_by : ℕ × ℕ → ℕ → Span
span_by ends step = record { first = ends.0; last = ends.1; step = step }

-- an item: by steps behind a `/`, and otherwise by ones
unfoldable pub span_read : FieldForm → List ℕ → Result Span (ℕ × ScheduleFault)
span_read form text =
    if stands_in (byte "/") text
    then read_then (stepped_ends_read form (before_byte (byte "/") text)) (λ ends.
    read_then (fault_behind (length (before_byte (byte "/") text) + 1) (step_read (behind_byte (byte "/") text))) (λ step. Ok (span_by ends step)))
    else read_then (ends_read form text) (λ ends. Ok (span_by ends 1))

-- how many numbers a field has
abbrev pub field_size : FieldForm → ℕ
field_size form = form.high + 1 - form.low

-- where a span ends: past the end of the field, if it comes round
abbrev pub span_end : FieldForm → Span → ℕ
span_end form s = if nat_le s.first s.last then s.last else s.last + field_size form

-- whether a span lists the number k of the field. A number counts as the one a whole round later too
unfoldable pub span_lists : FieldForm → Span → ℕ → Bool
span_lists form s k = is_by_steps s.first (span_end form s) s.step k || is_by_steps s.first (span_end form s) s.step (k + field_size form)

-- ---- sets of numbers, each by its place in the field

-- the members, and of `count` numbers in a row those that the span lists
abbrev pub with_listed : FieldForm → Span → FiniteSet → ℕ → ℕ → FiniteSet
with_listed form s set k zero = set
with_listed form s set k (suc count) = with_listed form s (if span_lists form s k then with_number set (k - form.base) else set) (k + 1) count

-- the members and the numbers that a span lists
unfoldable pub with_span : FiniteSet → FieldForm → Span → FiniteSet
with_span set form s = with_listed form s set form.low (field_size form)

-- the set with the numbers of the items, the first of which begins at a place, or what is wrong with the first that cannot be read.
-- "`,` is used to specify additional values"
unfoldable pub items_read : {S : Type 0} → (S → FieldForm → Span → S) → FieldForm → S → ℕ → List (List ℕ) → Result S (ℕ × ScheduleFault)
items_read with form set place [] = Ok set
items_read with form set place (item ∷ items) =
    read_then (fault_behind place (span_read form item)) (λ span. items_read with form (with set form span) (place + (length item + 1)) items)

-- the numbers that a field lists
abbrev pub numbers_read : FieldForm → List ℕ → Result FiniteSet (ℕ × ScheduleFault)
numbers_read form text = items_read with_span form no_numbers 0 (pieces (byte ",") text)

-- known values: every 15th minute from 5 on, hours that go over midnight, and a month by its name
numbers_read-stepped : numbers_read (record { names = Nothing; digits = 2; low = 0; high = 59; base = 0; wraps = true; marks = false }) (codes "5/15") ≡ Ok (numbers (5 ∷ 20 ∷ 35 ∷ 50 ∷ []))
unfolding items_read span_read stepped_ends_read ends_read range_read field_number_read form_number_fault field_number number_written named_number step_read span_lists with_span step_of digits_of natural_of month_of_letters weekday_of_letters
numbers_read-stepped = refl

numbers_read-over_midnight : numbers_read (record { names = Nothing; digits = 2; low = 0; high = 23; base = 0; wraps = true; marks = false }) (codes "22-2/2") ≡ Ok (numbers (22 ∷ 0 ∷ 2 ∷ []))
unfolding items_read span_read stepped_ends_read ends_read range_read field_number_read form_number_fault field_number number_written named_number step_read span_lists with_span step_of digits_of natural_of month_of_letters weekday_of_letters
numbers_read-over_midnight = refl

numbers_read-months : numbers_read (record { names = Months; digits = 2; low = 1; high = 12; base = 0; wraps = true; marks = false }) (codes "nov-Feb,6") ≡ Ok (numbers (11 ∷ 12 ∷ 1 ∷ 2 ∷ 6 ∷ []))
unfolding items_read span_read stepped_ends_read ends_read range_read field_number_read form_number_fault field_number number_written named_number step_read span_lists with_span step_of digits_of natural_of month_of_letters weekday_of_letters
numbers_read-months = refl

-- what is wrong behind four bytes
numbers_read-wrong : numbers_read (record { names = Nothing; digits = 2; low = 0; high = 59; base = 0; wraps = true; marks = false }) (codes "5,7-60") ≡ Err (4, OutOfRange)
unfolding items_read span_read stepped_ends_read ends_read range_read field_number_read form_number_fault field_number number_written named_number step_read span_lists with_span step_of digits_of natural_of month_of_letters weekday_of_letters
numbers_read-wrong = refl
