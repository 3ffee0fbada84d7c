-- What is told of a text that is no schedule's: the field, the place, and what is wrong there.
use Rattle.std.specs.Prelude.{◌≡◌, ◌↔◌, ◌≤◌, ◌+◌, ◌==◌, ℕ, List, [], ◌∷◌, length, map, take, drop, Bool, false, ◌&&◌, ◌||◌, if◌then◌else◌, Option, Some, None, Result, Ok, IfOk, IfErr, IsErr, codes, is_some, refl}
use Rattle.std.specs.Char.{is_ascii_alphabetic}
use Rattle.std.specs.Option.{option_and_then}
use Rattle.std.specs.Str.{byte, str_eq_ignore_ascii_case}
use Rattle.chrono_text.specs.Lists.{begins_alike, stands_in}
use Rattle.chrono_datetime.specs.Names.{month_of_letters, weekday_of_letters}
use Rattle.chrono_cron.specs.FieldTexts.{before_byte, behind_byte, field_lists, item_lists, number_between, number_of_name, range_of, item_span, spelled_number, step_of}
use Rattle.chrono_cron.specs.PlacedWords.{first_word, placed_items, placed_words}
use Rattle.chrono_cron.specs.ScheduleTexts.{IsScheduleText, before_letter, days_list, from_end_of, is_last_workday_text, last_weekday_of, names_by_place, names_by_weekday, nearest_workday_of, nth_weekday_of, spelled_weekday, weekdays_list, text_words}
use Rattle.chrono_text.specs.Numbers.{are_digits, digits_of, natural_of}
use Rattle.chrono_cron.specs.declared.text.schedule_error.ScheduleError.{ScheduleError}
use Rattle.chrono_cron.specs.declared.text.schedule_error.ScheduleFault.{ScheduleFault}
use Rattle.chrono_cron.specs.declared.text.schedule_error.ScheduleFault.TheVariants.{Empty, TooFewFields, TooManyFields, UnknownNickname, Interval, Reboot, TimeZone, UnknownName, LongName, NotANumber, OutOfRange, RangeTurnedRound, StepOfZero, StepOfNumber}
use Rattle.chrono_cron.specs.declared.text.schedule_error.ScheduleField.{ScheduleField}
use Rattle.chrono_cron.specs.declared.text.schedule_error.ScheduleField.TheVariants.{Minute, Hour, Day, Month, Weekday}
use Rattle.chrono_cron.specs.declared.text.number_names.Names.{Names}
use Rattle.chrono_cron.specs.declared.text.number_names.Names.TheVariants.{Numbers, Months, Weekdays}
use Rattle.chrono_cron.specs.declared.schedule.Schedule.{Schedule}
use Rattle.chrono_cron.specs.declared.field_sets.FieldSets.{FieldSets}

-- a field that lists nothing of a number, not even that it lacks it, cannot be read; else another may be the first that cannot
abbrev pub unless_read : Option Bool → ScheduleField → Option ScheduleField → Option ScheduleField
unless_read None field later = Some field
unless_read (Some listed) field later = later

-- the first of five fields that cannot be read; none if each can, and where there are more fields or fewer
abbrev pub first_wrong : List (List ℕ) → Option ScheduleField
first_wrong (minute ∷ hour ∷ day ∷ month ∷ weekday ∷ []) =
    unless_read (field_lists Numbers 0 59 minute 0) Minute
    (unless_read (field_lists Numbers 0 23 hour 0) Hour
    (unless_read (days_list day 0) Day
    (unless_read (field_lists Months 1 12 month 0) Month
    (unless_read (weekdays_list weekday 0) Weekday None))))
first_wrong others = None

-- the first field of the text that cannot be read, if the text has five fields
unfoldable pub wrong_field : List ℕ → Option ScheduleField
wrong_field text = first_wrong (text_words text)

-- how many fields stand before a field
abbrev pub place_of_field : ScheduleField → ℕ
place_of_field Minute = 0
place_of_field Hour = 1
place_of_field Day = 2
place_of_field Month = 3
place_of_field Weekday = 4

-- the names that a field has for its numbers
abbrev pub names_of_field : ScheduleField → Names
names_of_field Month = Months
names_of_field Weekday = Weekdays
names_of_field others = Numbers

-- the least number of a field
abbrev pub least_of_field : ScheduleField → ℕ
least_of_field Day = 1
least_of_field Month = 1
least_of_field others = 0

-- the greatest number of a field
abbrev pub greatest_of_field : ScheduleField → ℕ
greatest_of_field Minute = 59
greatest_of_field Hour = 23
greatest_of_field Day = 31
greatest_of_field Month = 12
greatest_of_field Weekday = 7

-- what is wrong with a text that spells no number: it is empty, it begins with a letter, or it does not
abbrev pub unspelled_fault : List ℕ → ScheduleFault
unspelled_fault [] = Empty
unspelled_fault (first ∷ rest) = if is_ascii_alphabetic first then UnknownName else NotANumber

-- what is wrong with a text that is none of a field's numbers: it spells another, or letters go on behind a name, or it spells none
unfoldable pub field_number_fault : Names → List ℕ → ScheduleFault
field_number_fault names text =
    if is_some (spelled_number names text) then OutOfRange
    else if is_some (number_of_name names (take 3 text)) then LongName
    else unspelled_fault text

-- what is wrong with the end of a range whose beginning can be read
abbrev pub last_fault : Names → ℕ → ℕ → List ℕ → ScheduleFault
last_fault names low high text = if is_some (number_between names low high text) then RangeTurnedRound else field_number_fault names text

-- what is wrong with a text that is no step: it is 0, or too long, or no number
abbrev pub step_fault : List ℕ → ScheduleFault
step_fault text = if is_some (digits_of 3 text) then StepOfZero else if are_digits text then OutOfRange else unspelled_fault text

-- what is wrong with a number or a range, and behind how many of its bytes
unfoldable pub span_fault : Names → ℕ → ℕ → List ℕ → ℕ × ScheduleFault
span_fault names low high text =
    let first = before_byte (byte "-") text in
    if stands_in (byte "-") text && is_some (number_between names low high first) then (length first + 1, last_fault names low high (behind_byte (byte "-") text))
    else (0, field_number_fault names first)

-- the same of an item: its step stands behind `*` or a range, or behind a number, which it may not, or behind neither, and then that is wrong
unfoldable pub field_item_fault : Names → ℕ → ℕ → List ℕ → ℕ × ScheduleFault
field_item_fault names low high text =
    let span = before_byte (byte "/") text in
    if stands_in (byte "/") text && is_some (range_of names low high span) then (length span + 1, step_fault (behind_byte (byte "/") text))
    else if stands_in (byte "/") text && is_some (number_between names low high span) then (length span, StepOfNumber)
    else span_fault names low high span

-- a fault with its place, or another if there is none
abbrev pub fault_or : Option (ℕ × ScheduleFault) → ℕ × ScheduleFault → ℕ × ScheduleFault
fault_or (Some fault) other = fault
fault_or None other = other

-- a fault at a place, or another if there is none
abbrev pub told_or : ℕ → Option ScheduleFault → ℕ × ScheduleFault → ℕ × ScheduleFault
told_or place (Some fault) other = (place, fault)
told_or place None other = other

-- what is wrong with a number, if it stands before a letter that ends the item, as in `32W` and `8L`
abbrev pub letter_fault : Names → ℕ → List ℕ → Option (ℕ × ScheduleFault)
letter_fault names letter item = if is_some (option_and_then (spelled_number names) (before_letter letter item)) then Some (0, OutOfRange) else None

-- what is wrong with the number of a day that is named: with that behind `L-`, or with that before `W`
unfoldable pub day_name_fault : List ℕ → Option (ℕ × ScheduleFault)
day_name_fault item = if begins_alike (codes "L-") item then Some (2, field_number_fault Numbers (drop 2 item)) else letter_fault Numbers (byte "w") item

-- what is wrong around a `#`: with the weekday before it, or with the number behind it
abbrev pub sharp_fault : List ℕ → ℕ × ScheduleFault
sharp_fault item =
    let weekday = before_byte (byte "#") item in
    if is_some (spelled_weekday weekday) then (length weekday + 1, field_number_fault Numbers (behind_byte (byte "#") item)) else (0, field_number_fault Weekdays weekday)

-- what is wrong with the numbers of a weekday that is named: with those about `#`, or with that before `L`
unfoldable pub weekday_name_fault : List ℕ → Option (ℕ × ScheduleFault)
weekday_name_fault item = if stands_in (byte "#") item then Some (sharp_fault item) else letter_fault Weekdays (byte "l") item

-- what is wrong with an item that names a day but for its number; none if it does not
abbrev pub named_fault : ScheduleField → List ℕ → Option (ℕ × ScheduleFault)
named_fault Day item = day_name_fault item
named_fault Weekday item = weekday_name_fault item
named_fault others item = None

-- whether an item of a field names a day
abbrev pub names_days : ScheduleField → List ℕ → Bool
names_days Day item = names_by_place item
names_days Weekday item = names_by_weekday item
names_days others item = false

-- whether an item of a field can be read: it names a day, or it lists numbers
unfoldable pub is_item : ScheduleField → List ℕ → Bool
is_item field item = names_days field item || is_some (item_lists (names_of_field field) (least_of_field field) (greatest_of_field field) item 0)

-- what is wrong with a placed item of a field, and where
unfoldable pub fault_in : ScheduleField → ℕ × List ℕ → ℕ × ScheduleFault
fault_in field item =
    let fault = fault_or (named_fault field item.1) (field_item_fault (names_of_field field) (least_of_field field) (greatest_of_field field) item.1) in
    (item.0 + fault.0, fault.1)

-- of items with their places, what is wrong with the first that cannot be read, or with the last, and where
abbrev pub first_fault : ScheduleField → List (ℕ × List ℕ) → ℕ × ScheduleFault
first_fault field [] = (0, Empty)
first_fault field (item ∷ []) = fault_in field item
first_fault field (item ∷ next ∷ more) = if is_item field item.1 then first_fault field (next ∷ more) else fault_in field item

-- what is wrong with a placed field, and where
unfoldable pub field_fault : ScheduleField → ℕ × List ℕ → ℕ × ScheduleFault
field_fault field word = first_fault field (placed_items word.0 word.1)

-- the error of a field, a place, and what is wrong there
abbrev pub schedule_error_at : Option ScheduleField → ℕ × ScheduleFault → ScheduleError
schedule_error_at field fault = record { field = field; byte = fault.0; fault = fault.1 }

-- whether a word begins with `@`
abbrev pub begins_with_at : List ℕ → Bool
begins_with_at [] = false
begins_with_at (first ∷ rest) = first == byte "@"

-- what is wrong with a text of one word: it is no nickname, or has too few fields
abbrev pub one_word_fault : ℕ → ℕ × List ℕ → ℕ × ScheduleFault
one_word_fault end word = if begins_with_at word.1 then (word.0, UnknownNickname) else (end, TooFewFields)

-- what is wrong with the number of words that are not five: none, too few or too many
abbrev pub count_fault : ℕ → List (ℕ × List ℕ) → ℕ × ScheduleFault
count_fault end [] = (end, Empty)
count_fault end (word ∷ []) = one_word_fault end word
count_fault end (a ∷ b ∷ c ∷ d ∷ e ∷ sixth ∷ more) = (sixth.0, TooManyFields)
count_fault end others = (end, TooFewFields)

-- what stands in front in place of a field: an interval (`@every`, of Go's cron libraries), the start of a machine (`@reboot`, of cronie) or a time
-- zone. None otherwise
unfoldable pub front_fault : List ℕ → Option ScheduleFault
front_fault word =
    if str_eq_ignore_ascii_case word (codes "@every") then Some Interval
    else if str_eq_ignore_ascii_case word (codes "@reboot") then Some Reboot
    else if begins_alike (codes "TZ=") word || begins_alike (codes "CRON_TZ=") word then Some TimeZone
    else None

-- what is wrong with the first of some words, or else with their number
unfoldable pub front_or : List (ℕ × List ℕ) → ℕ × ScheduleFault → ℕ × ScheduleFault
front_or [] count = count
front_or (word ∷ more) count = told_or word.0 (front_fault word.1) count

-- what is wrong with words that are not five
abbrev pub words_fault : ℕ → List (ℕ × List ℕ) → ℕ × ScheduleFault
words_fault end words = front_or words (count_fault end words)

-- the error of a field among words, and that of words of which none is such a field
abbrev pub error_of : ℕ → List (ℕ × List ℕ) → Option ScheduleField → ScheduleError
error_of end words None = schedule_error_at None (words_fault end words)
error_of end words (Some field) = schedule_error_at (Some field) (field_fault field (first_word (drop (place_of_field field) words)))

-- the error of a text that is no schedule: the field, its place, and what is wrong
unfoldable pub schedule_error : List ℕ → ScheduleError
schedule_error text = error_of (length text) (placed_words 0 text) (wrong_field text)

-- the error of a text that stands so many bytes behind the beginning of the whole
abbrev pub error_behind : ℕ → ScheduleError → ScheduleError
error_behind n e = record { field = e.field; byte = n + e.byte; fault = e.fault }

-- what a reading with errors answers
pub record IsScheduleRead (text : List ℕ) (result : Result Schedule ScheduleError) : Type 0 where
  pub read : IfOk result (λ s. IsScheduleText text s.sets)
  pub every : (s : FieldSets) → IsScheduleText text s → result ≡ Ok (record { sets = s })
  pub found : IsErr result ↔ ((s : FieldSets) → ¬ IsScheduleText text s)
  pub error : IfErr result (λ e. e ≡ schedule_error text)
  pub field : IfErr result (λ e. wrong_field text ≡ e.field)
  pub byte : IfErr result (λ e. e.byte ≤ length text)

-- known values: of two fields that cannot be read the first, and none of four
wrong_field-day : wrong_field (codes "* * 32 * 8") ≡ Some Day
unfolding wrong_field text_words days_list names_by_place from_end_of is_last_workday_text nearest_workday_of field_lists item_lists step_of item_span range_of number_between spelled_number digits_of number_of_name natural_of
wrong_field-day = refl

wrong_field-four : wrong_field (codes "* * * 13") ≡ None
unfolding wrong_field text_words
wrong_field-four = refl

-- the 60 of a list, a range backwards, steps of 0 and behind a number, and a name behind one of a day, by their places in the text
schedule_error-sixty : schedule_error (codes " 5,60 * * * *") ≡ schedule_error_at (Some Minute) (3, OutOfRange)
unfolding schedule_error wrong_field text_words placed_words placed_items field_fault fault_in is_item field_item_fault span_fault field_number_fault day_name_fault weekday_name_fault days_list names_by_place names_by_weekday from_end_of is_last_workday_text nearest_workday_of last_weekday_of nth_weekday_of weekdays_list field_lists item_lists step_of item_span range_of number_between spelled_number digits_of number_of_name month_of_letters weekday_of_letters natural_of
schedule_error-sixty = refl

schedule_error-turned : schedule_error (codes "* * * feb-jan *") ≡ schedule_error_at (Some Month) (10, RangeTurnedRound)
unfolding schedule_error wrong_field text_words placed_words placed_items field_fault fault_in is_item field_item_fault span_fault field_number_fault day_name_fault weekday_name_fault days_list names_by_place names_by_weekday from_end_of is_last_workday_text nearest_workday_of last_weekday_of nth_weekday_of weekdays_list field_lists item_lists step_of item_span range_of number_between spelled_number digits_of number_of_name month_of_letters weekday_of_letters natural_of
schedule_error-turned = refl

schedule_error-step_of_0 : schedule_error (codes "* */0 * * *") ≡ schedule_error_at (Some Hour) (4, StepOfZero)
unfolding schedule_error wrong_field text_words placed_words placed_items field_fault fault_in is_item field_item_fault span_fault field_number_fault day_name_fault weekday_name_fault days_list names_by_place names_by_weekday from_end_of is_last_workday_text nearest_workday_of last_weekday_of nth_weekday_of weekdays_list field_lists item_lists step_of item_span range_of number_between spelled_number digits_of number_of_name month_of_letters weekday_of_letters natural_of
schedule_error-step_of_0 = refl

schedule_error-step_of_number : schedule_error (codes "5/2 * * * *") ≡ schedule_error_at (Some Minute) (1, StepOfNumber)
unfolding schedule_error wrong_field text_words placed_words placed_items field_fault fault_in is_item field_item_fault span_fault field_number_fault day_name_fault weekday_name_fault days_list names_by_place names_by_weekday from_end_of is_last_workday_text nearest_workday_of last_weekday_of nth_weekday_of weekdays_list field_lists item_lists step_of item_span range_of number_between spelled_number digits_of number_of_name month_of_letters weekday_of_letters natural_of
schedule_error-step_of_number = refl

schedule_error-named : schedule_error (codes "* * L,x * *") ≡ schedule_error_at (Some Day) (6, UnknownName)
unfolding schedule_error wrong_field text_words placed_words placed_items field_fault fault_in is_item field_item_fault span_fault field_number_fault day_name_fault weekday_name_fault days_list names_by_place names_by_weekday from_end_of is_last_workday_text nearest_workday_of last_weekday_of nth_weekday_of weekdays_list field_lists item_lists step_of item_span range_of number_between spelled_number digits_of number_of_name month_of_letters weekday_of_letters natural_of
schedule_error-named = refl

schedule_error-nothing : schedule_error (codes "* * * * 1,") ≡ schedule_error_at (Some Weekday) (10, Empty)
unfolding schedule_error wrong_field text_words placed_words placed_items field_fault fault_in is_item field_item_fault span_fault field_number_fault day_name_fault weekday_name_fault days_list names_by_place names_by_weekday from_end_of is_last_workday_text nearest_workday_of last_weekday_of nth_weekday_of weekdays_list field_lists item_lists step_of item_span range_of number_between spelled_number digits_of number_of_name month_of_letters weekday_of_letters natural_of
schedule_error-nothing = refl

-- a sixth word, too few, and a word that is no nickname
schedule_error-six : schedule_error (codes "* * * * * *") ≡ schedule_error_at None (10, TooManyFields)
unfolding schedule_error wrong_field text_words placed_words front_or front_fault
schedule_error-six = refl

schedule_error-four : schedule_error (codes " * * * *") ≡ schedule_error_at None (8, TooFewFields)
unfolding schedule_error wrong_field text_words placed_words front_or front_fault
schedule_error-four = refl

schedule_error-nickname : schedule_error (codes " @Dayly") ≡ schedule_error_at None (1, UnknownNickname)
unfolding schedule_error wrong_field text_words placed_words front_or front_fault
schedule_error-nickname = refl

-- numbers of days that are named: past 31 and past the fifth, none before the last, and a weekday past 7
schedule_error-past_workday : schedule_error (codes "* * L,32W * *") ≡ schedule_error_at (Some Day) (6, OutOfRange)
unfolding schedule_error wrong_field text_words placed_words placed_items field_fault fault_in is_item field_item_fault span_fault field_number_fault day_name_fault weekday_name_fault days_list names_by_place names_by_weekday from_end_of is_last_workday_text nearest_workday_of last_weekday_of nth_weekday_of weekdays_list field_lists item_lists step_of item_span range_of number_between spelled_number digits_of number_of_name month_of_letters weekday_of_letters natural_of
schedule_error-past_workday = refl

schedule_error-past_fifth : schedule_error (codes "* * * * fri#6") ≡ schedule_error_at (Some Weekday) (12, OutOfRange)
unfolding schedule_error wrong_field text_words placed_words placed_items field_fault fault_in is_item field_item_fault span_fault field_number_fault day_name_fault weekday_name_fault days_list names_by_place names_by_weekday from_end_of is_last_workday_text nearest_workday_of last_weekday_of nth_weekday_of weekdays_list field_lists item_lists step_of item_span range_of number_between spelled_number digits_of number_of_name month_of_letters weekday_of_letters natural_of
schedule_error-past_fifth = refl

schedule_error-before_last : schedule_error (codes "* * L-31 * *") ≡ schedule_error_at (Some Day) (6, OutOfRange)
unfolding schedule_error wrong_field text_words placed_words placed_items field_fault fault_in is_item field_item_fault span_fault field_number_fault day_name_fault weekday_name_fault days_list names_by_place names_by_weekday from_end_of is_last_workday_text nearest_workday_of last_weekday_of nth_weekday_of weekdays_list field_lists item_lists step_of item_span range_of number_between spelled_number digits_of number_of_name month_of_letters weekday_of_letters natural_of
schedule_error-before_last = refl

schedule_error-past_weekday : schedule_error (codes "* * * * 8L") ≡ schedule_error_at (Some Weekday) (8, OutOfRange)
unfolding schedule_error wrong_field text_words placed_words placed_items field_fault fault_in is_item field_item_fault span_fault field_number_fault day_name_fault weekday_name_fault days_list names_by_place names_by_weekday from_end_of is_last_workday_text nearest_workday_of last_weekday_of nth_weekday_of weekdays_list field_lists item_lists step_of item_span range_of number_between spelled_number digits_of number_of_name month_of_letters weekday_of_letters natural_of
schedule_error-past_weekday = refl

-- a name in full, and a step of four digits
schedule_error-in_full : schedule_error (codes "* * * * 1,monday") ≡ schedule_error_at (Some Weekday) (10, LongName)
unfolding schedule_error wrong_field text_words placed_words placed_items field_fault fault_in is_item field_item_fault span_fault field_number_fault day_name_fault weekday_name_fault days_list names_by_place names_by_weekday from_end_of is_last_workday_text nearest_workday_of last_weekday_of nth_weekday_of weekdays_list field_lists item_lists step_of item_span range_of number_between spelled_number digits_of number_of_name month_of_letters weekday_of_letters natural_of
schedule_error-in_full = refl

schedule_error-long_step : schedule_error (codes "*/1000 * * * *") ≡ schedule_error_at (Some Minute) (2, OutOfRange)
unfolding schedule_error wrong_field text_words placed_words placed_items field_fault fault_in is_item field_item_fault span_fault field_number_fault day_name_fault weekday_name_fault days_list names_by_place names_by_weekday from_end_of is_last_workday_text nearest_workday_of last_weekday_of nth_weekday_of weekdays_list field_lists item_lists step_of item_span range_of number_between spelled_number digits_of number_of_name month_of_letters weekday_of_letters natural_of
schedule_error-long_step = refl

-- an interval, the start of a machine and a time zone in front
schedule_error-interval : schedule_error (codes " @Every 5m") ≡ schedule_error_at None (1, Interval)
unfolding schedule_error wrong_field text_words placed_words front_or front_fault
schedule_error-interval = refl

schedule_error-reboot : schedule_error (codes " @Reboot") ≡ schedule_error_at None (1, Reboot)
unfolding schedule_error wrong_field text_words placed_words front_or front_fault
schedule_error-reboot = refl

schedule_error-zone : schedule_error (codes "TZ=UTC 0 0 * * *") ≡ schedule_error_at None (0, TimeZone)
unfolding schedule_error wrong_field text_words placed_words front_or front_fault
schedule_error-zone = refl

schedule_error-cron_zone : schedule_error (codes "CRON_TZ=UTC @daily") ≡ schedule_error_at None (0, TimeZone)
unfolding schedule_error wrong_field text_words placed_words front_or front_fault
schedule_error-cron_zone = refl

-- each field ends with its greatest number and begins with its least
schedule_error-past_minute : schedule_error (codes "59,60 * * * *") ≡ schedule_error_at (Some Minute) (3, OutOfRange)
unfolding schedule_error wrong_field text_words placed_words placed_items field_fault fault_in is_item field_item_fault span_fault field_number_fault day_name_fault weekday_name_fault days_list names_by_place names_by_weekday from_end_of is_last_workday_text nearest_workday_of last_weekday_of nth_weekday_of weekdays_list field_lists item_lists step_of item_span range_of number_between spelled_number digits_of number_of_name month_of_letters weekday_of_letters natural_of
schedule_error-past_minute = refl

schedule_error-past_hour : schedule_error (codes "* 23,24 * * *") ≡ schedule_error_at (Some Hour) (5, OutOfRange)
unfolding schedule_error wrong_field text_words placed_words placed_items field_fault fault_in is_item field_item_fault span_fault field_number_fault day_name_fault weekday_name_fault days_list names_by_place names_by_weekday from_end_of is_last_workday_text nearest_workday_of last_weekday_of nth_weekday_of weekdays_list field_lists item_lists step_of item_span range_of number_between spelled_number digits_of number_of_name month_of_letters weekday_of_letters natural_of
schedule_error-past_hour = refl

schedule_error-past_day : schedule_error (codes "* * 31,32 * *") ≡ schedule_error_at (Some Day) (7, OutOfRange)
unfolding schedule_error wrong_field text_words placed_words placed_items field_fault fault_in is_item field_item_fault span_fault field_number_fault day_name_fault weekday_name_fault days_list names_by_place names_by_weekday from_end_of is_last_workday_text nearest_workday_of last_weekday_of nth_weekday_of weekdays_list field_lists item_lists step_of item_span range_of number_between spelled_number digits_of number_of_name month_of_letters weekday_of_letters natural_of
schedule_error-past_day = refl

schedule_error-past_month : schedule_error (codes "* * * 12,13 *") ≡ schedule_error_at (Some Month) (9, OutOfRange)
unfolding schedule_error wrong_field text_words placed_words placed_items field_fault fault_in is_item field_item_fault span_fault field_number_fault day_name_fault weekday_name_fault days_list names_by_place names_by_weekday from_end_of is_last_workday_text nearest_workday_of last_weekday_of nth_weekday_of weekdays_list field_lists item_lists step_of item_span range_of number_between spelled_number digits_of number_of_name month_of_letters weekday_of_letters natural_of
schedule_error-past_month = refl

schedule_error-past_saturday : schedule_error (codes "* * * * 7,8") ≡ schedule_error_at (Some Weekday) (10, OutOfRange)
unfolding schedule_error wrong_field text_words placed_words placed_items field_fault fault_in is_item field_item_fault span_fault field_number_fault day_name_fault weekday_name_fault days_list names_by_place names_by_weekday from_end_of is_last_workday_text nearest_workday_of last_weekday_of nth_weekday_of weekdays_list field_lists item_lists step_of item_span range_of number_between spelled_number digits_of number_of_name month_of_letters weekday_of_letters natural_of
schedule_error-past_saturday = refl

schedule_error-before_day : schedule_error (codes "* * 0,32 * *") ≡ schedule_error_at (Some Day) (4, OutOfRange)
unfolding schedule_error wrong_field text_words placed_words placed_items field_fault fault_in is_item field_item_fault span_fault field_number_fault day_name_fault weekday_name_fault days_list names_by_place names_by_weekday from_end_of is_last_workday_text nearest_workday_of last_weekday_of nth_weekday_of weekdays_list field_lists item_lists step_of item_span range_of number_between spelled_number digits_of number_of_name month_of_letters weekday_of_letters natural_of
schedule_error-before_day = refl

schedule_error-before_month : schedule_error (codes "* * * 0,13 *") ≡ schedule_error_at (Some Month) (6, OutOfRange)
unfolding schedule_error wrong_field text_words placed_words placed_items field_fault fault_in is_item field_item_fault span_fault field_number_fault day_name_fault weekday_name_fault days_list names_by_place names_by_weekday from_end_of is_last_workday_text nearest_workday_of last_weekday_of nth_weekday_of weekdays_list field_lists item_lists step_of item_span range_of number_between spelled_number digits_of number_of_name month_of_letters weekday_of_letters natural_of
schedule_error-before_month = refl

-- the first workday and the first weekday are the 1st, and a sign is no number
schedule_error-no_workday : schedule_error (codes "* * 0W * *") ≡ schedule_error_at (Some Day) (4, OutOfRange)
unfolding schedule_error wrong_field text_words placed_words placed_items field_fault fault_in is_item field_item_fault span_fault field_number_fault day_name_fault weekday_name_fault days_list names_by_place names_by_weekday from_end_of is_last_workday_text nearest_workday_of last_weekday_of nth_weekday_of weekdays_list field_lists item_lists step_of item_span range_of number_between spelled_number digits_of number_of_name month_of_letters weekday_of_letters natural_of
schedule_error-no_workday = refl

schedule_error-no_weekday : schedule_error (codes "* * * * 5#0") ≡ schedule_error_at (Some Weekday) (10, OutOfRange)
unfolding schedule_error wrong_field text_words placed_words placed_items field_fault fault_in is_item field_item_fault span_fault field_number_fault day_name_fault weekday_name_fault days_list names_by_place names_by_weekday from_end_of is_last_workday_text nearest_workday_of last_weekday_of nth_weekday_of weekdays_list field_lists item_lists step_of item_span range_of number_between spelled_number digits_of number_of_name month_of_letters weekday_of_letters natural_of
schedule_error-no_weekday = refl

schedule_error-sign : schedule_error (codes "? * * * *") ≡ schedule_error_at (Some Minute) (0, NotANumber)
unfolding schedule_error wrong_field text_words placed_words placed_items field_fault fault_in is_item field_item_fault span_fault field_number_fault day_name_fault weekday_name_fault days_list names_by_place names_by_weekday from_end_of is_last_workday_text nearest_workday_of last_weekday_of nth_weekday_of weekdays_list field_lists item_lists step_of item_span range_of number_between spelled_number digits_of number_of_name month_of_letters weekday_of_letters natural_of
schedule_error-sign = refl

-- the first of the fields that cannot be read
wrong_field-first : map wrong_field (codes "60 24 32 13 8" ∷ codes "0 24 32 13 8" ∷ codes "0 0 32 13 8" ∷ codes "0 0 1 13 8" ∷ codes "0 0 1 1 8" ∷ codes "0 0 1 1 0" ∷ [])
    ≡ Some Minute ∷ Some Hour ∷ Some Day ∷ Some Month ∷ Some Weekday ∷ None ∷ []
unfolding wrong_field text_words days_list names_by_place names_by_weekday from_end_of is_last_workday_text nearest_workday_of last_weekday_of nth_weekday_of weekdays_list field_lists item_lists step_of item_span range_of number_between spelled_number digits_of number_of_name month_of_letters weekday_of_letters natural_of
wrong_field-first = refl

-- months begin with 1 and have names, which minutes and hours do not; and days that are named can be read
wrong_field-others : map wrong_field (codes "0 0 1 0 0" ∷ codes "jan 0 1 1 0" ∷ codes "0 mon 1 1 0" ∷ codes "0 0 L jan 5L" ∷ [])
    ≡ Some Month ∷ Some Minute ∷ Some Hour ∷ None ∷ []
unfolding wrong_field text_words days_list names_by_place names_by_weekday from_end_of is_last_workday_text nearest_workday_of last_weekday_of nth_weekday_of weekdays_list field_lists item_lists step_of item_span range_of number_between spelled_number digits_of number_of_name month_of_letters weekday_of_letters natural_of
wrong_field-others = refl

-- 0 is a minute, an hour and a weekday
schedule_error-zeros : map schedule_error (codes "0,60 * * * *" ∷ codes "* 0,24 * * *" ∷ codes "* * * * 0,8" ∷ [])
    ≡ schedule_error_at (Some Minute) (2, OutOfRange) ∷ schedule_error_at (Some Hour) (4, OutOfRange) ∷ schedule_error_at (Some Weekday) (10, OutOfRange) ∷ []
unfolding schedule_error wrong_field text_words placed_words placed_items field_fault fault_in is_item field_item_fault span_fault field_number_fault day_name_fault weekday_name_fault days_list names_by_place names_by_weekday from_end_of is_last_workday_text nearest_workday_of last_weekday_of nth_weekday_of weekdays_list field_lists item_lists step_of item_span range_of number_between spelled_number digits_of number_of_name month_of_letters weekday_of_letters natural_of
schedule_error-zeros = refl

-- the first item is wrong if its number is past the last, and the second if the first has the least number or names a day
schedule_error-first_items : map schedule_error (codes "60,x * * * *" ∷ codes "* 24,x * * *" ∷ codes "* * 32,x * *" ∷ codes "* * * 13,x *" ∷ codes "* * * * 8,x" ∷ [])
    ≡ schedule_error_at (Some Minute) (0, OutOfRange) ∷ schedule_error_at (Some Hour) (2, OutOfRange) ∷ schedule_error_at (Some Day) (4, OutOfRange) ∷ schedule_error_at (Some Month) (6, OutOfRange) ∷ schedule_error_at (Some Weekday) (8, OutOfRange) ∷ []
unfolding schedule_error wrong_field text_words placed_words placed_items field_fault fault_in is_item field_item_fault span_fault field_number_fault day_name_fault weekday_name_fault days_list names_by_place names_by_weekday from_end_of is_last_workday_text nearest_workday_of last_weekday_of nth_weekday_of weekdays_list field_lists item_lists step_of item_span range_of number_between spelled_number digits_of number_of_name month_of_letters weekday_of_letters natural_of
schedule_error-first_items = refl

schedule_error-second_items : map schedule_error (codes "* * 1,x * *" ∷ codes "* * * 1,x *" ∷ codes "* * * * 5L,x" ∷ [])
    ≡ schedule_error_at (Some Day) (6, UnknownName) ∷ schedule_error_at (Some Month) (8, UnknownName) ∷ schedule_error_at (Some Weekday) (11, UnknownName) ∷ []
unfolding schedule_error wrong_field text_words placed_words placed_items field_fault fault_in is_item field_item_fault span_fault field_number_fault day_name_fault weekday_name_fault days_list names_by_place names_by_weekday from_end_of is_last_workday_text nearest_workday_of last_weekday_of nth_weekday_of weekdays_list field_lists item_lists step_of item_span range_of number_between spelled_number digits_of number_of_name month_of_letters weekday_of_letters natural_of
schedule_error-second_items = refl

-- no field reads the names of another, nor days that another names
schedule_error-names_of_others : map schedule_error (codes "jan,60 * * * *" ∷ codes "* mon,24 * * *" ∷ codes "* * jan,32 * *" ∷ codes "* * * mon,13 *" ∷ codes "* * * * jan,8" ∷ [])
    ≡ schedule_error_at (Some Minute) (0, UnknownName) ∷ schedule_error_at (Some Hour) (2, UnknownName) ∷ schedule_error_at (Some Day) (4, UnknownName) ∷ schedule_error_at (Some Month) (6, UnknownName) ∷ schedule_error_at (Some Weekday) (8, UnknownName) ∷ []
unfolding schedule_error wrong_field text_words placed_words placed_items field_fault fault_in is_item field_item_fault span_fault field_number_fault day_name_fault weekday_name_fault days_list names_by_place names_by_weekday from_end_of is_last_workday_text nearest_workday_of last_weekday_of nth_weekday_of weekdays_list field_lists item_lists step_of item_span range_of number_between spelled_number digits_of number_of_name month_of_letters weekday_of_letters natural_of
schedule_error-names_of_others = refl

schedule_error-days_of_others : map schedule_error (codes "L,60 * * * *" ∷ codes "* * 5L,32 * *" ∷ codes "* * * L,13 *" ∷ codes "* * * * LW,8" ∷ [])
    ≡ schedule_error_at (Some Minute) (0, UnknownName) ∷ schedule_error_at (Some Day) (4, NotANumber) ∷ schedule_error_at (Some Month) (6, UnknownName) ∷ schedule_error_at (Some Weekday) (8, UnknownName) ∷ []
unfolding schedule_error wrong_field text_words placed_words placed_items field_fault fault_in is_item field_item_fault span_fault field_number_fault day_name_fault weekday_name_fault days_list names_by_place names_by_weekday from_end_of is_last_workday_text nearest_workday_of last_weekday_of nth_weekday_of weekdays_list field_lists item_lists step_of item_span range_of number_between spelled_number digits_of number_of_name month_of_letters weekday_of_letters natural_of
schedule_error-days_of_others = refl

-- what is wrong on either side of `-`, `/` and `#`
schedule_error-ranges : map schedule_error (codes "5-60 * * * *" ∷ codes "5- * * * *" ∷ codes "60-61 * * * *" ∷ codes "1-2-3 * * * *" ∷ [])
    ≡ schedule_error_at (Some Minute) (2, OutOfRange) ∷ schedule_error_at (Some Minute) (2, Empty) ∷ schedule_error_at (Some Minute) (0, OutOfRange) ∷ schedule_error_at (Some Minute) (2, NotANumber) ∷ []
unfolding schedule_error wrong_field text_words placed_words placed_items field_fault fault_in is_item field_item_fault span_fault field_number_fault day_name_fault weekday_name_fault days_list names_by_place names_by_weekday from_end_of is_last_workday_text nearest_workday_of last_weekday_of nth_weekday_of weekdays_list field_lists item_lists step_of item_span range_of number_between spelled_number digits_of number_of_name month_of_letters weekday_of_letters natural_of
schedule_error-ranges = refl

schedule_error-steps : map schedule_error (codes "*/x * * * *" ∷ codes "*/ * * * *" ∷ codes "60/5 * * * *" ∷ codes "* * * * 8#2" ∷ [])
    ≡ schedule_error_at (Some Minute) (2, UnknownName) ∷ schedule_error_at (Some Minute) (2, Empty) ∷ schedule_error_at (Some Minute) (0, OutOfRange) ∷ schedule_error_at (Some Weekday) (8, OutOfRange) ∷ []
unfolding schedule_error wrong_field text_words placed_words placed_items field_fault fault_in is_item field_item_fault span_fault field_number_fault day_name_fault weekday_name_fault days_list names_by_place names_by_weekday from_end_of is_last_workday_text nearest_workday_of last_weekday_of nth_weekday_of weekdays_list field_lists item_lists step_of item_span range_of number_between spelled_number digits_of number_of_name month_of_letters weekday_of_letters natural_of
schedule_error-steps = refl

-- a step of three zeros, a name in full before `#`, and `L-` in a field without days; an error has its field and its place
schedule_error-more_names : map schedule_error (codes "*/000 * * * *" ∷ codes "* * * * monday#2" ∷ codes "L-1 * * * *" ∷ [])
    ≡ record { field = Some Minute; byte = 2; fault = StepOfZero } ∷ record { field = Some Weekday; byte = 8; fault = LongName } ∷ record { field = Some Minute; byte = 0; fault = UnknownName } ∷ []
unfolding schedule_error wrong_field text_words placed_words placed_items field_fault fault_in is_item field_item_fault span_fault field_number_fault day_name_fault weekday_name_fault days_list names_by_place names_by_weekday from_end_of is_last_workday_text nearest_workday_of last_weekday_of nth_weekday_of weekdays_list field_lists item_lists step_of item_span range_of number_between spelled_number digits_of number_of_name month_of_letters weekday_of_letters natural_of
schedule_error-more_names = refl

-- one word and none, and a nickname before a word
schedule_error-words : map schedule_error (codes "5" ∷ codes "  " ∷ codes "@daily 5" ∷ [])
    ≡ schedule_error_at None (1, TooFewFields) ∷ schedule_error_at None (2, Empty) ∷ schedule_error_at None (8, TooFewFields) ∷ []
unfolding schedule_error wrong_field text_words placed_words front_or front_fault
schedule_error-words = refl
