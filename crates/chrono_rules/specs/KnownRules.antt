-- Words for rules whose instances are known. Weekdays count from 0 for Monday.
use Rattle.std.specs.Prelude.{ℕ, List, [], ◌∷◌, ℤ, pos}
use Rattle.chrono_datetime.specs.Moment.{Moment}
use Rattle.chrono_datetime.specs.declared.Weekday.{Weekday}
use Rattle.chrono_sets.specs.FiniteSets.{no_numbers, numbers}
use Rattle.chrono_rules.specs.NumberLists.{with_nth_of}
use Rattle.chrono_rules.specs.RecurrenceSets.{RecurrenceSet}
use Rattle.chrono_rules.specs.RuleParts.{no_weekdays, plain}
use Rattle.chrono_rules.specs.declared.rule.End.TheVariants.{Count, Until}
use Rattle.chrono_rules.specs.declared.rule.Frequency.{Frequency}
use Rattle.chrono_rules.specs.declared.rule.Frequency.TheVariants.{Daily, Monthly, Weekly, Yearly}
use Rattle.chrono_rules.specs.declared.rule.Rule.{Rule}
use Rattle.chrono_rules.specs.declared.weekday_places.WeekdayPlaces.{WeekdayPlaces}

-- BYDAY with weekdays without a number, as TU,SU
abbrev pub each_weekday : List ℕ → WeekdayPlaces
each_weekday days = record { every = numbers days; front = no_weekdays.front; back = no_weekdays.back }

-- BYDAY with one weekday and its number, as 1FR
abbrev pub nth_weekday : ℕ → ℕ → WeekdayPlaces
nth_weekday w n = record { every = no_numbers; front = with_nth_of no_weekdays.front w n; back = no_weekdays.back }

-- BYDAY with one weekday and its number from the end, as -1FR
abbrev pub nth_weekday_from_end : ℕ → ℕ → WeekdayPlaces
nth_weekday_from_end w n = record { every = no_numbers; front = no_weekdays.front; back = with_nth_of no_weekdays.back w n }

-- FREQ=WEEKLY;INTERVAL=2;COUNT=4;BYDAY=TU,SU with WKST
abbrev pub fortnightly : Weekday → Rule
fortnightly week_start = record (plain Weekly) { interval = 2; end = Count 4; weekdays = each_weekday (1 ∷ 6 ∷ []); week_start = week_start }

-- FREQ=DAILY;INTERVAL=10;COUNT=5
abbrev pub daily : Rule
daily = record (plain Daily) { interval = 10; end = Count 5 }

-- FREQ=YEARLY with WKST, BYWEEKNO from the front and from the end, and BYDAY
abbrev pub by_weeks : Weekday → List ℕ → List ℕ → List ℕ → Rule
by_weeks week_start front back days = record (plain Yearly) { weekdays = each_weekday days; weeks = numbers front; weeks_from_end = numbers back; week_start = week_start }

-- FREQ=YEARLY with INTERVAL, and BYYEARDAY from the front and from the end
abbrev pub by_year_days : ℕ → List ℕ → List ℕ → Rule
by_year_days years front back = record (plain Yearly) { interval = years; year_days = numbers front; year_days_from_end = numbers back }

-- a FREQ with BYMONTH and BYDAY
abbrev pub by_weekdays : Frequency → List ℕ → WeekdayPlaces → Rule
by_weekdays frequency months days = record (plain frequency) { months = numbers months; weekdays = days }

-- a FREQ with BYMONTH, and BYMONTHDAY from the front and from the end
abbrev pub by_month_days : Frequency → List ℕ → List ℕ → List ℕ → Rule
by_month_days frequency months front back = record (plain frequency) { months = numbers months; month_days = numbers front; month_days_from_end = numbers back }

-- FREQ=MONTHLY with INTERVAL, and BYMONTHDAY from the front
abbrev pub by_months : ℕ → List ℕ → Rule
by_months months days = record (plain Monthly) { interval = months; month_days = numbers days }

-- FREQ=MONTHLY;BYDAY=MO,1FR
abbrev pub monday_or_first_friday : Rule
monday_or_first_friday = record (plain Monthly) { weekdays = record { every = numbers (0 ∷ []); front = with_nth_of no_weekdays.front 4 1; back = no_weekdays.back } }

-- a FREQ with WKST, BYDAY, and BYSETPOS from the front and from the end
abbrev pub by_positions : Frequency → Weekday → List ℕ → List ℕ → List ℕ → Rule
by_positions frequency week_start days front back = record (plain frequency) { weekdays = each_weekday days; positions = numbers front; positions_from_end = numbers back; week_start = week_start }

-- FREQ=YEARLY;BYDAY=MO with INTERVAL, and BYWEEKNO and BYSETPOS from the front
abbrev pub by_week_years : ℕ → List ℕ → List ℕ → Rule
by_week_years years weeks places = record (plain Yearly) { interval = years; weekdays = each_weekday (0 ∷ []); weeks = numbers weeks; positions = numbers places }

-- FREQ=YEARLY with BYWEEKNO, BYMONTHDAY and BYYEARDAY from the front
abbrev pub by_week_days : List ℕ → List ℕ → List ℕ → Rule
by_week_days weeks month_days year_days = record (plain Yearly) { month_days = numbers month_days; year_days = numbers year_days; weeks = numbers weeks }

-- a yearly rule with the greatest number of each part
abbrev pub greatest_numbers : Rule
greatest_numbers = record (plain Yearly) { interval = 4_294_967_295; end = Count 4_294_967_295; months = numbers (12 ∷ []); month_days = numbers (31 ∷ []); month_days_from_end = numbers (31 ∷ []); weekdays = each_weekday (6 ∷ []); year_days = numbers (366 ∷ []); year_days_from_end = numbers (366 ∷ []); weeks = numbers (53 ∷ []); weeks_from_end = numbers (53 ∷ []); positions = numbers (366 ∷ []); positions_from_end = numbers (366 ∷ []) }

-- FREQ=DAILY with INTERVAL
abbrev pub every_days : ℕ → Rule
every_days days = record (plain Daily) { interval = days }

-- FREQ=DAILY with UNTIL
abbrev pub daily_until : ℤ → Rule
daily_until last = record (plain Daily) { end = Until last }

-- `daily` from 2 September 1997 with the two days behind its start as dates beside its instances, and the second of these and the second instance as exceptions
abbrev pub tenths : RecurrenceSet
tenths = record { rule = daily; start = pos 729_269; dates = pos 729_270 ∷ pos 729_271 ∷ []; exceptions = pos 729_271 ∷ pos 729_279 ∷ [] }

-- the day n at midnight
abbrev pub at_midnight : ℤ → Moment
at_midnight n = record { date = n; time = record { second = 0; fraction = 0 } }

-- the day n at one o'clock and some nanoseconds
abbrev pub at_one : ℤ → ℕ → Moment
at_one n nanoseconds = record { date = n; time = record { second = 3600; fraction = nanoseconds } }

-- every other day from four days before the calendar's last, with the next day beside them, and without the one behind that
abbrev pub last_days : RecurrenceSet
last_days = record { rule = every_days 2; start = pos 95_745_395; dates = pos 95_745_396 ∷ []; exceptions = pos 95_745_397 ∷ [] }
