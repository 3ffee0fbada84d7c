-- Rules of RFC 5545's examples (3.8.5.3), by what they list. Weekdays count from 0 for Monday.
use Rattle.std.specs.Prelude.{[], ◌∷◌, pos}
use Rattle.chrono_datetime.specs.declared.Weekday.TheVariants.{Sun}
use Rattle.chrono_sets.specs.FiniteSets.{no_numbers, numbers}
use Rattle.chrono_rules.specs.KnownRules.{each_weekday, nth_weekday, nth_weekday_from_end}
use Rattle.chrono_rules.specs.NumberLists.{with_nth_of}
use Rattle.chrono_rules.specs.RuleParts.{no_weekdays, plain}
use Rattle.chrono_rules.specs.declared.rule.End.TheVariants.{Count, Until}
use Rattle.chrono_rules.specs.declared.rule.Frequency.TheVariants.{Daily, Weekly, Monthly, Yearly}
use Rattle.chrono_rules.specs.declared.rule.Rule.{Rule}

-- every other day
abbrev pub every_other_day : Rule
every_other_day = record (plain Daily) { interval = 2 }

-- each day until 24 December 1997
abbrev pub until_christmas : Rule
until_christmas = record (plain Daily) { end = Until (pos 729_382) }

-- Tuesdays and Thursdays of every other week, eight times, with weeks that begin on Sunday
abbrev pub every_other_week : Rule
every_other_week = record (plain Weekly) { interval = 2; end = Count 8; weekdays = each_weekday (1 ∷ 3 ∷ []); week_start = Sun }

-- the first Friday of the month, ten times
abbrev pub first_friday : Rule
first_friday = record (plain Monthly) { end = Count 10; weekdays = nth_weekday 4 1 }

-- the first and the last Sunday of every other month, ten times
abbrev pub both_sundays : Rule
both_sundays = record (plain Monthly) { interval = 2; end = Count 10; weekdays = record { every = no_numbers; front = with_nth_of no_weekdays.front 6 1; back = with_nth_of no_weekdays.back 6 1 } }

-- the last Monday but one of the month, six times
abbrev pub last_monday_but_one : Rule
last_monday_but_one = record (plain Monthly) { end = Count 6; weekdays = nth_weekday_from_end 0 2 }

-- the third day from the month's end
abbrev pub third_to_last : Rule
third_to_last = record (plain Monthly) { month_days_from_end = numbers (3 ∷ []) }

-- the first and the last day of the month, ten times
abbrev pub first_and_last : Rule
first_and_last = record (plain Monthly) { end = Count 10; month_days = numbers (1 ∷ []); month_days_from_end = numbers (1 ∷ []) }

-- the days of June and July in each year, ten times
abbrev pub june_and_july : Rule
june_and_july = record (plain Yearly) { end = Count 10; months = numbers (6 ∷ 7 ∷ []) }

-- the 1st, 100th and 200th day of every third year, ten times
abbrev pub days_of_the_year : Rule
days_of_the_year = record (plain Yearly) { interval = 3; end = Count 10; year_days = numbers (1 ∷ 100 ∷ 200 ∷ []) }

-- the Monday of week 20 of each year
abbrev pub monday_of_week_20 : Rule
monday_of_week_20 = record (plain Yearly) { weekdays = each_weekday (0 ∷ []); weeks = numbers (20 ∷ []) }

-- the second-to-last of the days from Monday to Friday of the month
abbrev pub last_workday_but_one : Rule
last_workday_but_one = record (plain Monthly) { weekdays = each_weekday (0 ∷ 1 ∷ 2 ∷ 3 ∷ 4 ∷ []); positions_from_end = numbers (2 ∷ []) }

-- the Tuesday behind the first Monday of November in every fourth year
abbrev pub election_day : Rule
election_day = record (plain Yearly) { interval = 4; months = numbers (11 ∷ []); month_days = numbers (2 ∷ 3 ∷ 4 ∷ 5 ∷ 6 ∷ 7 ∷ 8 ∷ []); weekdays = each_weekday (1 ∷ []) }
