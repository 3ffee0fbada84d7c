-- When a schedule is due: on which days, at which minutes of a day, at which moments. `is_due` near the end says it in one line.
--
-- The fields, and how the two fields of days go together, are those of crontab(5), the manual page of Vixie's cron 3.0pl1. It says:
-- "If both fields are restricted (ie, aren't *), the command will be run when either field matches the current time."
-- The page does not say whether `*/2` is restricted. Here no field is that begins with `*`, which is our choice, and that of the code of Vixie's
-- cron and of cronie.
--
-- crontab(5) has no `L`, `W` and `#`. They follow the dialect of the cron triggers of Quartz. Beside each stands their meaning there, in our words.
-- What Quartz leaves open is marked as our choice. Quartz counts weekdays from 1 for Sunday. Here they count from 0 for Sunday, as in crontab(5).
use Rattle.std.specs.Prelude.{◌≡◌, ℕ, ◌+◌, ◌-◌, ◌*◌, ◌/◌, ◌%◌, ◌==◌, nat_le, nat_lt, Bool, false, ◌&&◌, ◌||◌, if◌then◌else◌, ℤ}
use Rattle.chrono_datetime.specs.Days.{day_of, month_of}
use Rattle.chrono_datetime.specs.Moment.{Moment, IsBefore, IsMoment}
use Rattle.chrono_datetime.specs.MonthMoves.{month_length_of}
use Rattle.chrono_datetime.specs.PassedOver.{PassedNumbers}
use Rattle.chrono_datetime.specs.Weekday.{days_from_sunday}
use Rattle.chrono_datetime.specs.Weeks.{weekday_of}
use Rattle.chrono_sets.specs.FiniteSets.{FiniteSet, has, no_numbers}
use Rattle.chrono_cron.specs.declared.field_sets.FieldSets.{FieldSets}
use Rattle.chrono_cron.specs.declared.named_days.MonthDays.{MonthDays}

-- no days that are named
abbrev pub no_month_days : MonthDays
no_month_days = record { from_end = no_numbers; nearest_workdays = no_numbers; last_workday = false; last_weekdays = no_numbers; nth_weekdays = no_numbers }

-- In what follows a day is told by three numbers. They are its place p in its month, from 1; how many days of the month follow it; and its weekday
-- w, from 0 for Sunday.

-- a workday is a day from Monday to Friday; the documentation of Quartz says weekday
abbrev pub is_monday_to_friday : ℕ → Bool
is_monday_to_friday w = nat_le 1 w && nat_le w 5

-- `LW` of Quartz, the last workday of the month: the next workday is in the next month. It comes three days after a Friday, and one day after
-- another workday
unfoldable pub is_last_workday : ℕ → ℕ → Bool
is_last_workday follow w = is_monday_to_friday w && nat_lt follow (if w == 5 then 3 else 1)

-- `kW` of Quartz, where its k-th day is on a weekend: the nearest workday of the same month. A Friday stands for the Saturday after it. It stands for
-- the Sunday too if that ends the month, since the Monday after it is in the next month
unfoldable pub is_friday_for : FiniteSet → ℕ → ℕ → ℕ → Bool
is_friday_for set p follow w = w == 5 && ((nat_le 1 follow && has set (p + 1)) || (follow == 2 && has set (p + 2)))

-- `kW` of Quartz, the other way: a Monday stands for the Sunday before it. It stands for the Saturday too if that begins the month
unfoldable pub is_monday_for : FiniteSet → ℕ → ℕ → Bool
is_monday_for set p w = w == 1 && ((nat_le 2 p && has set (p - 1)) || (p == 3 && has set 1))

-- `kW` of Quartz for a k of the set: the k-th day itself if it is a workday, and otherwise the nearest workday of the month. A month without a
-- k-th day has none, which is our choice
unfoldable pub is_nearest_workday : FiniteSet → ℕ → ℕ → ℕ → Bool
is_nearest_workday set p follow w = (is_monday_to_friday w && has set p) || (is_friday_for set p follow w || is_monday_for set p w)

-- one of the days of the first field of days: `L` of Quartz, the last day of the month, and `L-k`, the day that k others follow; `LW`; and `kW`.
-- Quartz's manual calls L-3 "the third-to-last day", but its code takes the day that three others follow, the 28th of January; so do we
unfoldable pub is_named_by_place : MonthDays → ℕ → ℕ → ℕ → Bool
is_named_by_place m p follow w =
    has m.from_end follow || ((m.last_workday && is_last_workday follow w) || is_nearest_workday m.nearest_workdays p follow w)

-- `dL` of Quartz, the last day of the month with the weekday d. Fewer than seven days of the month follow it
abbrev pub is_last_of_its_weekday : MonthDays → ℕ → ℕ → Bool
is_last_of_its_weekday m follow w = has m.last_weekdays w && nat_lt follow 7

-- `d#k` of Quartz, the k-th day of the month with the weekday d. The first such day is one of the days 1 to 7, the second one of 8 to 14, and so on:
-- k - 1 whole weeks come before. The set has `d#k` as the number 7 * (k - 1) + d. A month without a fifth such day has none
abbrev pub is_nth_of_its_weekday : MonthDays → ℕ → ℕ → Bool
is_nth_of_its_weekday m p w = let weeks_before = (p - 1) / 7 in has m.nth_weekdays (7 * weeks_before + w)

-- one of the days of the second field of days: `dL` and `d#k`
unfoldable pub is_named_by_weekday : MonthDays → ℕ → ℕ → ℕ → Bool
is_named_by_weekday m p follow w = is_last_of_its_weekday m follow w || is_nth_of_its_weekday m p w

-- either of two tests will do, or both have to
abbrev pub either_or_both : Bool → Bool → Bool → Bool
either_or_both either a b = if either then a || b else a && b

-- the two fields of days: the day's number is listed or its place named, or its weekday is listed or named; either will do, or both have to be so
unfoldable pub is_listed_day : FieldSets → ℤ → Bool
is_listed_day s n =
    let p = day_of n in
    let follow = month_length_of n - p in
    let w = days_from_sunday (weekday_of n) in
    let by_day = has s.days p || is_named_by_place s.month_days p follow w in
    let by_weekday = has s.weekdays w || is_named_by_weekday s.month_days p follow w in
    either_or_both s.either by_day by_weekday

-- the day is one of the schedule's: its month is listed, and so is it
unfoldable pub is_day : FieldSets → ℤ → Bool
is_day s n = has s.months (month_of n) && is_listed_day s n

-- minute k of a day, from 0 at midnight, is one of the schedule's: its hour and its minute past the hour are listed
unfoldable pub is_minute : FieldSets → ℕ → Bool
is_minute s k = has s.hours (k / 60) && has s.minutes (k % 60)

-- the moment is the beginning of a minute
abbrev pub begins_minute : Moment → Bool
begins_minute m = m.time.second % 60 == 0 && m.time.fraction == 0

-- the schedule is due at the moment: it is the beginning of a minute of the schedule's, on a day of the schedule's
unfoldable pub is_due : FieldSets → Moment → Bool
is_due s m = is_day s m.date && (is_minute s (m.time.second / 60) && begins_minute m)

-- on the day n, the schedule is due at none of the minutes from one up to before another
abbrev pub NotDueOn : FieldSets → ℤ → ℕ → ℕ → Type 0
NotDueOn s n from end = PassedNumbers (λ k. is_day s n && is_minute s k) from end

-- the schedule is due at no moment between two
abbrev pub NotDueBetween : FieldSets → Moment → Moment → Type 0
NotDueBetween s start end = (m : Moment) → IsMoment m → IsBefore start m → IsBefore m end → is_due s m ≡ false

-- at no moment after one
abbrev pub NotDueAfter : FieldSets → Moment → Type 0
NotDueAfter s start = (m : Moment) → IsMoment m → IsBefore start m → is_due s m ≡ false

-- at no moment before one
abbrev pub NotDueBefore : FieldSets → Moment → Type 0
NotDueBefore s end = (m : Moment) → IsMoment m → IsBefore m end → is_due s m ≡ false

-- at no moment at all
abbrev pub IsNeverDue : FieldSets → Type 0
IsNeverDue s = (m : Moment) → IsMoment m → is_due s m ≡ false

-- two schedules are due at the same moments
abbrev pub MeanTheSame : FieldSets → FieldSets → Type 0
MeanTheSame s t = (m : Moment) → IsMoment m → is_due s m ≡ is_due t m
