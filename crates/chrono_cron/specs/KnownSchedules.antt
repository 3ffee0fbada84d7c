-- Words for moments at which a schedule is known to be due or not.
use Rattle.std.specs.Prelude.{ℕ, zero, suc, ◌+◌, ◌*◌, Bool, true, false, List, [], ◌∷◌, map, ℤ}
use Rattle.chrono_datetime.specs.Moment.{Moment, moment}
use Rattle.chrono_datetime.specs.Time.{time_at}
use Rattle.chrono_sets.specs.FiniteSets.{numbers}
use Rattle.chrono_cron.specs.declared.field_sets.FieldSets.{FieldSets}
use Rattle.chrono_cron.specs.declared.search.due_moments.Dues.{Dues}
use Rattle.chrono_cron.specs.Due.{no_month_days}
use Rattle.chrono_cron.specs.KnownMonthDays.{days_named}

-- so many numbers in a row, of which n is the first
abbrev pub in_a_row : ℕ → ℕ → List ℕ
in_a_row zero n = []
in_a_row (suc count) n = n ∷ in_a_row count (n + 1)

-- the days of a month, from the 1st to the 31st
abbrev pub every_day : List ℕ
every_day = in_a_row 31 1

-- the odd ones of them
abbrev pub odd_days : List ℕ
odd_days = map (λ k. 2 * k + 1) (in_a_row 16 0)

-- the months, from January on
abbrev pub every_month : List ℕ
every_month = in_a_row 12 1

-- the weekdays, from Sunday on
abbrev pub every_weekday : List ℕ
every_weekday = in_a_row 7 0

-- what five fields list, with no days that are named
abbrev pub fields : List ℕ → List ℕ → List ℕ → List ℕ → List ℕ → Bool → FieldSets
fields minutes hours days months weekdays either =
    record { minutes = numbers minutes; hours = numbers hours; days = numbers days; months = numbers months; weekdays = numbers weekdays; month_days = no_month_days; either = either; follows_clock = false }

-- the same sets, and the schedule follows the clock
abbrev pub following : FieldSets → FieldSets
following s =
    record { minutes = s.minutes; hours = s.hours; days = s.days; months = s.months; weekdays = s.weekdays; month_days = s.month_days; either = s.either; follows_clock = true }

-- midnight in each month, on days that are named, where either field will do
abbrev pub fields_with : List ℕ → List ℕ → Bool → List ℕ → List ℕ → FieldSets
fields_with ends nearest last lasts nths =
    record { minutes = numbers (0 ∷ []); hours = numbers (0 ∷ []); days = numbers []; months = numbers every_month; weekdays = numbers []; month_days = days_named ends nearest last lasts nths; either = true; follows_clock = false }

-- midnight in each month, on days before the end of the month that have one of the weekdays
abbrev pub last_days_on : List ℕ → List ℕ → FieldSets
last_days_on ends weekdays =
    record { minutes = numbers (0 ∷ []); hours = numbers (0 ∷ []); days = numbers []; months = numbers every_month; weekdays = numbers weekdays; month_days = days_named ends [] false [] []; either = false; follows_clock = false }

-- the moment of a day at an hour, a minute, a second and a fraction of it in nanoseconds
abbrev pub known_moment : ℤ → ℕ → ℕ → ℕ → ℕ → Moment
known_moment n hour minute second fraction = moment n (time_at hour minute second fraction)

-- `* * * * *`
abbrev pub each_minute : FieldSets
each_minute = following (fields (in_a_row 60 0) (in_a_row 24 0) every_day every_month every_weekday false)

-- the same but for the minutes, of which it has none
abbrev pub no_minute : FieldSets
no_minute = fields [] (in_a_row 24 0) every_day every_month every_weekday false

-- an iterator that goes on after a moment
abbrev pub dues_of : FieldSets → Moment → Dues
dues_of sets m = record { schedule = record { sets = sets }; last = m }
