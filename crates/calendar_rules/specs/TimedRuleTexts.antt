-- The texts of rules over date-times (RFC 5545, section 3.3.10), as `FREQ=DAILY;BYHOUR=9,17;UNTIL=20241231T230000Z`. `IsTimedRuleText` says it.
-- What stands in quotation marks is from that section.
use Rattle.std.specs.Prelude.{◌≡◌, ℕ, Bool, ◌&&◌, ◌||◌, true, false, List, [], ◌∷◌, ◌++◌, drop, if◌then◌else◌, Option, Some, None, codes, pos, refl}
use Rattle.std.specs.Option.{option_and_then, option_map}
use Rattle.std.specs.Str.{byte, str_eq_ignore_ascii_case}
use Rattle.chrono_datetime.specs.Days.{date_of_ymd, days_before_year, days_of_months_in, days_of_years}
use Rattle.chrono_datetime.specs.Moment.{Moment, moment}
use Rattle.chrono_datetime.specs.Time.{time_at}
use Rattle.chrono_sets.specs.FiniteSets.{FiniteSet, no_numbers, numbers, with_number}
use Rattle.chrono_text.specs.Numbers.{digits_of, if_within, natural_of}
use Rattle.chrono_text.specs.Lists.{begins_alike, pieces, through}
use Rattle.chrono_rules.specs.RuleParts.{lacks_positions, lacks_weeks}
use Rattle.chrono_rules.specs.RuleTexts.{IsRuleText, date_of, lacks_numbers, parts, rule_body, said, values_in}
use Rattle.chrono_rules.specs.declared.rule.End.{End}
use Rattle.chrono_rules.specs.declared.rule.End.TheVariants.{Never, Count, Until}
use Rattle.chrono_rules.specs.declared.rule.Frequency.TheVariants.{Daily}
use Rattle.chrono_rules.specs.declared.rule.Rule.{Rule}
use Rattle.zoned_rules.specs.LocalTimes.{each_day, lacks_times, without_end}
use Rattle.zoned_rules.specs.declared.bound.Bound.{Bound}
use Rattle.zoned_rules.specs.declared.bound.Bound.TheVariants.{Never as Endless, Count as Counted, Until as Ended}
use Rattle.zoned_rules.specs.declared.clock_steps.ClockSteps.{ClockSteps}
use Rattle.zoned_rules.specs.declared.clock_steps.ClockUnit.{ClockUnit}
use Rattle.zoned_rules.specs.declared.clock_steps.ClockUnit.TheVariants.{Day, Hour, Minute, Second}
use Rattle.calendar_text.specs.CalendarTimes.{clock_of, moment_of, time_of}
use Rattle.calendar_text.specs.declared.calendar_time.CalendarTime.{CalendarTime}
use Rattle.calendar_text.specs.declared.calendar_time.CalendarTime.TheVariants.{Date, Local, Utc}
use Rattle.calendar_rules.specs.declared.clock_part.ClockPart.{ClockPart}
use Rattle.calendar_rules.specs.declared.clock_part.ClockPart.TheVariants.{ByHour, ByMinute, BySecond}
use Rattle.calendar_rules.specs.declared.timed_rule.TimedRule.{TimedRule}

-- ---- FREQ

-- what a FREQ of hours, minutes or seconds counts, and days for each other word
unfoldable pub unit_of : List ℕ → ClockUnit
unit_of word =
    if str_eq_ignore_ascii_case word (codes "HOURLY") then Hour
    else if str_eq_ignore_ascii_case word (codes "MINUTELY") then Minute
    else if str_eq_ignore_ascii_case word (codes "SECONDLY") then Second
    else Day

-- ---- BYHOUR, BYMINUTE and BYSECOND

-- the name of a part, with the sign behind it
unfoldable pub clock_part_key : ClockPart → List ℕ
clock_part_key ByHour = codes "BYHOUR="
clock_part_key ByMinute = codes "BYMINUTE="
clock_part_key BySecond = codes "BYSECOND="

-- "valid values are 0 to 60" for seconds, "0 to 59" for minutes and "0 to 23" for hours
unfoldable pub greatest_number : ClockPart → ℕ
greatest_number ByHour = 23
greatest_number ByMinute = 59
greatest_number BySecond = 60

-- the numbers and the one of at most two digits that a text writes
unfoldable pub with_number_text : ClockPart → FiniteSet → List ℕ → Option FiniteSet
with_number_text part set text = option_map (with_number set) (option_and_then (if_within 0 (greatest_number part)) (digits_of 2 text))

-- the numbers that a text lists between commas
unfoldable pub number_list_of : ClockPart → List ℕ → Option FiniteSet
number_list_of part text = through (with_number_text part) no_numbers (pieces (byte ",") text)

-- ---- the parts that a rule of days has too

-- a part of times of day, or UNTIL: where the start has a time of day, that has one too
abbrev pub is_time_part : List ℕ → Bool
is_time_part p =
    begins_alike (codes "BYHOUR=") p || (begins_alike (codes "BYMINUTE=") p || (begins_alike (codes "BYSECOND=") p || begins_alike (codes "UNTIL=") p))

-- FREQ counts hours, minutes or seconds
abbrev pub is_unit : ClockUnit → Bool
is_unit Day = false
is_unit Hour = true
is_unit Minute = true
is_unit Second = true

abbrev pub is_clock_part : List ℕ → Bool
is_clock_part p = begins_alike (codes "FREQ=") p && is_unit (unit_of (drop 5 p))

-- a part as a rule of days may have it. FREQ=YEARLY goes with each part with which HOURLY goes, and with some more
abbrev pub part_of_days : List ℕ → List ℕ
part_of_days p = if is_clock_part p then codes "FREQ=YEARLY" else p

-- the parts without those of times, each with a semicolon behind it
abbrev pub parts_of_days : List (List ℕ) → List ℕ
parts_of_days [] = []
parts_of_days (p ∷ ps) = if is_time_part p then parts_of_days ps else part_of_days p ++ (byte ";" ∷ parts_of_days ps)

abbrev pub text_of_days : List ℕ → List ℕ
text_of_days text = parts_of_days (parts text)

-- ---- COUNT and UNTIL

abbrev pub in_utc : CalendarTime → Option Moment
in_utc (Date d) = None
in_utc (Local m) = None
in_utc (Utc m) = Some m

-- "if the DTSTART property is specified as a date with UTC time or a date with local time and time zone reference, then the UNTIL rule part MUST be
-- specified as a date with UTC time"
unfoldable pub until_of : List ℕ → Option Moment
until_of text = option_and_then in_utc (time_of text)

-- where a rule ends, by the COUNT of its days and by the values of its UNTIL parts: both "MUST NOT occur in the same" rule
unfoldable pub bound_of : End → List (List ℕ) → Option Bound
bound_of Never untils = said (λ text. option_map Ended (until_of text)) (Some Endless) untils
bound_of (Count n) [] = Some (Counted n)
bound_of (Count n) (u ∷ untils) = None
bound_of (Until d) untils = None

-- ---- what the parts make

-- the rule of days: with HOURLY, MINUTELY and SECONDLY it only limits the days
abbrev pub days_by : ClockUnit → Rule → Rule
days_by Day r = without_end r
days_by Hour r = record r { frequency = Daily; interval = 1; end = Never }
days_by Minute r = record r { frequency = Daily; interval = 1; end = Never }
days_by Second r = record r { frequency = Daily; interval = 1; end = Never }

abbrev pub steps_by : ClockUnit → Rule → ClockSteps
steps_by Day r = each_day
steps_by Hour r = record { unit = Hour; interval = r.interval }
steps_by Minute r = record { unit = Minute; interval = r.interval }
steps_by Second r = record { unit = Second; interval = r.interval }

-- 3.3.10: BYDAY has no number and BYWEEKNO is not there, but with YEARLY and MONTHLY. BYSETPOS counts days here, and not times
abbrev pub fits_clock : ClockUnit → Rule → Bool → Bool
fits_clock Day r timeless = lacks_positions r || timeless
fits_clock Hour r timeless = lacks_positions r && (lacks_weeks r && lacks_numbers r)
fits_clock Minute r timeless = lacks_positions r && (lacks_weeks r && lacks_numbers r)
fits_clock Second r timeless = lacks_positions r && (lacks_weeks r && lacks_numbers r)

-- the text writes the rule. Its parts stand in any order, each at most once
pub record IsTimedRuleText (text : List ℕ) (r : TimedRule) : Type 0 where
  pub unit : ClockUnit
  pub frequency : said (λ word. Some (unit_of word)) None (values_in text (codes "FREQ=")) ≡ Some unit
  pub hours : said (number_list_of ByHour) (Some no_numbers) (values_in text (codes "BYHOUR=")) ≡ Some r.times.hours
  pub minutes : said (number_list_of ByMinute) (Some no_numbers) (values_in text (codes "BYMINUTE=")) ≡ Some r.times.minutes
  pub seconds : said (number_list_of BySecond) (Some no_numbers) (values_in text (codes "BYSECOND=")) ≡ Some r.times.seconds
  -- the rule of days that the other parts write
  pub others : Rule
  pub written : IsRuleText (rule_body (text_of_days text)) others
  pub days : r.days ≡ days_by unit others
  pub steps : r.steps ≡ steps_by unit others
  pub bound : bound_of others.end (values_in text (codes "UNTIL=")) ≡ Some r.bound
  pub fitting : fits_clock unit others (lacks_times r.times) ≡ true

-- known values
text_of_days-hourly : text_of_days (codes "freq=hourly;BYHOUR=9;INTERVAL=2;UNTIL=20240101T000000Z") ≡ codes "FREQ=YEARLY;INTERVAL=2;"
unfolding unit_of
text_of_days-hourly = refl

text_of_days-daily : text_of_days (codes "BYMINUTE=0;FREQ=DAILY") ≡ codes "FREQ=DAILY;"
unfolding unit_of
text_of_days-daily = refl

number_list_of-hours : number_list_of ByHour (codes "9,017") ≡ None
unfolding number_list_of with_number_text greatest_number digits_of natural_of
number_list_of-hours = refl

number_list_of-ends : number_list_of ByHour (codes "0,23") ≡ Some (numbers (0 ∷ 23 ∷ []))
unfolding number_list_of with_number_text greatest_number digits_of natural_of
number_list_of-ends = refl

number_list_of-hour_past : number_list_of ByHour (codes "24") ≡ None
unfolding number_list_of with_number_text greatest_number digits_of natural_of
number_list_of-hour_past = refl

number_list_of-minute_past : number_list_of ByMinute (codes "60") ≡ None
unfolding number_list_of with_number_text greatest_number digits_of natural_of
number_list_of-minute_past = refl

number_list_of-leap_second : number_list_of BySecond (codes "60") ≡ Some (numbers (60 ∷ []))
unfolding number_list_of with_number_text greatest_number digits_of natural_of
number_list_of-leap_second = refl

-- UNTIL is a time of UTC, and neither a local time nor a date
until_of-utc : until_of (codes "19970902T090000Z") ≡ Some (moment (pos 729_269) (time_at 9 0 0 0))
unfolding until_of time_of moment_of clock_of date_of date_of_ymd days_before_year days_of_years days_of_months_in digits_of natural_of
until_of-utc = refl

until_of-local : until_of (codes "19970902T090000") ≡ None
unfolding until_of time_of moment_of clock_of date_of date_of_ymd days_before_year days_of_years days_of_months_in digits_of natural_of
until_of-local = refl

until_of-date : until_of (codes "19970902") ≡ None
unfolding until_of time_of date_of date_of_ymd days_before_year days_of_years days_of_months_in digits_of natural_of
until_of-date = refl
