-- The text that is written for a schedule.
use Rattle.std.specs.Prelude.{ℕ, zero, suc, ◌+◌, ◌/◌, ◌%◌, ◌==◌, nat_le, Bool, true, false, not, ◌&&◌, ◌||◌, if◌then◌else◌, List, [], ◌∷◌, ◌++◌, map, codes}
use Rattle.chrono_text.specs.Lists.{list_text}
use Rattle.chrono_text.specs.Text.{number_text}
use Rattle.chrono_sets.specs.FiniteSets.{FiniteSet, has}
use Rattle.chrono_cron.specs.declared.field_sets.FieldSets.{FieldSets}
use Rattle.chrono_cron.specs.declared.text.schedule_writer.DayName.{DayName}
use Rattle.chrono_cron.specs.declared.text.schedule_writer.DayName.TheVariants.{FromEnd, NearestWorkday, LastWeekday, NthWeekday}

-- a range by its first and its last number, or the one number alone
abbrev pub range_text : ℕ × ℕ → List ℕ
range_text range = if range.0 == range.1 then number_text range.0 else number_text range.0 ++ codes "-" ++ number_text range.1

-- ranges of greater numbers, and n in front: that makes the first of them longer, if it begins right behind n
abbrev pub put_in_front : ℕ → List (ℕ × ℕ) → List (ℕ × ℕ)
put_in_front n [] = (n, n) ∷ []
put_in_front n (range ∷ ranges) = if range.0 == n + 1 then (n, range.1) ∷ ranges else (n, n) ∷ range ∷ ranges

-- of so many numbers from n on, the members, in ranges that are as long as can be
unfoldable pub ranges_from : FiniteSet → ℕ → ℕ → List (ℕ × ℕ)
ranges_from set zero n = []
ranges_from set (suc count) n = if has set n then put_in_front n (ranges_from set count (n + 1)) else ranges_from set count (n + 1)

-- whether one of the ranges lists k
abbrev pub one_lists : List (ℕ × ℕ) → ℕ → Bool
one_lists [] k = false
one_lists (range ∷ ranges) k = (nat_le range.0 k && nat_le k range.1) || one_lists ranges k

-- whether all of so many numbers from n on are members
unfoldable pub are_all : FiniteSet → ℕ → ℕ → Bool
are_all set zero n = true
are_all set (suc count) n = has set n && are_all set count (n + 1)

-- how days are named by a number: L and L-k, kW, dL, and d#k
abbrev pub name_text : DayName → ℕ → List ℕ
name_text FromEnd k = if k == 0 then codes "L" else codes "L-" ++ number_text k
name_text NearestWorkday k = number_text k ++ codes "W"
name_text LastWeekday d = number_text d ++ codes "L"
name_text NthWeekday k = number_text (k % 7) ++ codes "#" ++ number_text (k / 7 + 1)

-- of so many numbers from n on, the members as such names
unfoldable pub names_from : DayName → FiniteSet → ℕ → ℕ → List (List ℕ)
names_from naming set zero n = []
names_from naming set (suc count) n =
    if has set n then name_text naming n ∷ names_from naming set count (n + 1) else names_from naming set count (n + 1)

-- the items that list numbers, of a field of so many from `low` on. A field that has to begin with `*` is that alone if it lists all; if not, a step
-- past the field's end lists `low` alone
unfoldable pub number_items : Bool → FiniteSet → ℕ → ℕ → List (List ℕ)
number_items starred set count low =
    if starred then (if are_all set count low then codes "*" ∷ [] else (codes "*/" ++ number_text count) ∷ map range_text (ranges_from set count low))
    else map range_text (ranges_from set count low)

-- the minutes, the hours or the months, with a `*` in front or without
unfoldable pub plain_text : Bool → FiniteSet → ℕ → ℕ → List ℕ
plain_text starred set count low = list_text (number_items starred set count low)

-- where a schedule follows the clock, each field of minutes or hours that lists all its numbers begins with `*`. If neither does, then that of
-- hours does if it lists 0, and else that of minutes if it lists 0
unfoldable pub is_starred_by_hour : FieldSets → Bool
is_starred_by_hour s = s.follows_clock && (are_all s.hours 24 0 || (not (are_all s.minutes 60 0) && has s.hours 0))

-- whether the field of minutes is written with a `*` in front
unfoldable pub is_starred_by_minute : FieldSets → Bool
is_starred_by_minute s =
    s.follows_clock && (are_all s.minutes 60 0 || (not (are_all s.hours 24 0) && (not (has s.hours 0) && has s.minutes 0)))

-- where a day has to match both of its fields, each that lists all its numbers begins with `*`. If neither does, then that
-- of days does if it lists the 1st, and else that of weekdays if it lists Sunday
unfoldable pub is_starred_by_day : FieldSets → Bool
is_starred_by_day s = not s.either && (are_all s.days 31 1 || (not (are_all s.weekdays 7 0) && has s.days 1))

-- whether the field of weekdays is written with a `*` in front
unfoldable pub is_starred_by_weekday : FieldSets → Bool
is_starred_by_weekday s = not s.either && (are_all s.weekdays 7 0 || (not (are_all s.days 31 1) && (not (has s.days 1) && has s.weekdays 0)))

-- the days: the numbers that are listed, L and L-k, LW, and kW
unfoldable pub day_field_items : FieldSets → List (List ℕ)
day_field_items s =
    number_items (is_starred_by_day s) s.days 31 1 ++ names_from FromEnd s.month_days.from_end 31 0
    ++ (if s.month_days.last_workday then codes "LW" ∷ [] else []) ++ names_from NearestWorkday s.month_days.nearest_workdays 31 1

-- the weekdays: the numbers that are listed, from 0 for Sunday, dL, and d#k
unfoldable pub weekday_field_items : FieldSets → List (List ℕ)
weekday_field_items s =
    number_items (is_starred_by_weekday s) s.weekdays 7 0 ++ names_from LastWeekday s.month_days.last_weekdays 7 0
    ++ names_from NthWeekday s.month_days.nth_weekdays 35 0

-- the five fields with a space between each two
unfoldable pub schedule_text : FieldSets → List ℕ
schedule_text s =
    plain_text (is_starred_by_minute s) s.minutes 60 0 ++ codes " " ++ plain_text (is_starred_by_hour s) s.hours 24 0
    ++ codes " " ++ list_text (day_field_items s) ++ codes " " ++ plain_text (are_all s.months 12 1) s.months 12 1
    ++ codes " " ++ list_text (weekday_field_items s)
