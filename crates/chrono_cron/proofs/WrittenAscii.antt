-- Every byte of a schedule's text is ASCII.
use Rattle.std.proofs.Common.{ℕ, zero, suc, ◌+◌, ◌/◌, ◌%◌, ◌<◌, ◌≤◌, ◌==◌, Bool, List, [], ◌∷◌, ◌++◌, if◌then◌else◌, arith}
use Rattle.std.specs.Prelude.{map, codes}
use Rattle.std.specs.Str.{IsAscii}
use Rattle.std.proofs.lemmas.Str.{IsAscii-append}
use Rattle.std.proofs.lemmas.Str.Ascii.{IsAscii-cons}
use Rattle.chrono_text.specs.Lists.{list_text}
use Rattle.chrono_text.specs.Text.{number_text}
use Rattle.chrono_sets.specs.FiniteSets.{FiniteSet, has}
use Rattle.chrono_cron.specs.declared.field_sets.FieldSets.{FieldSets}
use Rattle.chrono_cron.specs.declared.text.schedule_writer.DayName.{DayName}
use Rattle.chrono_cron.specs.declared.text.schedule_writer.DayName.TheVariants.{FromEnd, NearestWorkday, LastWeekday, NthWeekday}
use Rattle.chrono_cron.specs.WrittenTexts.{are_all, day_field_items, is_starred_by_day, is_starred_by_hour, is_starred_by_minute, is_starred_by_weekday, name_text, names_from, number_items, plain_text, range_text, ranges_from, schedule_text, weekday_field_items}
use Rattle.chrono_cron.proofs.WrittenFields.{AreRanges, ranges_are}
use Rattle.chrono_text.proofs.AsciiTexts.{IsAscii-if, IsAscii-one, AreAscii, AreAscii-if, AreAscii-append, IsAscii-joined, IsAscii-number_text}

range_ascii : (range : ℕ × ℕ) → range.0 < 100 → range.1 < 100 → IsAscii (range_text range)
range_ascii range first last =
    let begun = IsAscii-number_text range.0 first in
    IsAscii-if (range.0 == range.1) (number_text range.0) (number_text range.0 ++ codes "-" ++ number_text range.1) (λ _. begun)
    (λ _. IsAscii-append (number_text range.0 ++ codes "-") (number_text range.1) (IsAscii-append (number_text range.0) (codes "-") begun (IsAscii-one 45 (omega arith))) (IsAscii-number_text range.1 last))

ranges_ascii : (low : ℕ) (ranges : List (ℕ × ℕ)) → AreRanges low 60 ranges → AreAscii (map range_text ranges)
ranges_ascii low [] are = tt
ranges_ascii low (range ∷ ranges) (from, order, to, others) = (range_ascii range (omega (arith, order, to)) (omega (arith, to)), ranges_ascii low ranges others)

name_ascii : (naming : DayName) (n : ℕ) → n < 60 → IsAscii (name_text naming n)
name_ascii FromEnd n small =
    IsAscii-if (n == 0) (codes "L") (codes "L-" ++ number_text n) (λ _. IsAscii-one 76 (omega arith))
    (λ _. IsAscii-append (codes "L-") (number_text n) (IsAscii-cons 76 (45 ∷ []) (omega arith) (IsAscii-one 45 (omega arith))) (IsAscii-number_text n (omega (arith, small))))
name_ascii NearestWorkday n small = IsAscii-append (number_text n) (codes "W") (IsAscii-number_text n (omega (arith, small))) (IsAscii-one 87 (omega arith))
name_ascii LastWeekday n small = IsAscii-append (number_text n) (codes "L") (IsAscii-number_text n (omega (arith, small))) (IsAscii-one 76 (omega arith))
name_ascii NthWeekday n small =
    IsAscii-append (number_text (n % 7) ++ codes "#") (number_text (n / 7 + 1))
    (IsAscii-append (number_text (n % 7)) (codes "#") (IsAscii-number_text (n % 7) (omega arith)) (IsAscii-one 35 (omega arith))) (IsAscii-number_text (n / 7 + 1) (omega (arith, small)))

names_ascii : (naming : DayName) (set : FiniteSet) (count n : ℕ) → n + count ≤ 60 → AreAscii (names_from naming set count n)
unfolding names_from
names_ascii naming set zero n le = tt
names_ascii naming set (suc count) n le =
    let rest = names_ascii naming set count (n + 1) (omega (arith, le)) in
    AreAscii-if (has set n) (name_text naming n ∷ names_from naming set count (n + 1)) (names_from naming set count (n + 1)) (name_ascii naming n (omega (arith, le)), rest) rest

numbers_ascii : (starred : Bool) (set : FiniteSet) (count low : ℕ) → low + count ≤ 60 → AreAscii (number_items starred set count low)
unfolding number_items
numbers_ascii starred set count low le =
    let ranges = ranges_ascii low (ranges_from set count low) (ranges_are set count low 60 le) in
    let step = IsAscii-append (codes "*/") (number_text count) (IsAscii-cons 42 (47 ∷ []) (omega arith) (IsAscii-one 47 (omega arith))) (IsAscii-number_text count (omega (arith, le))) in
    let stepped = (codes "*/" ++ number_text count) ∷ map range_text (ranges_from set count low) in
    AreAscii-if starred (if are_all set count low then codes "*" ∷ [] else stepped) (map range_text (ranges_from set count low))
    (AreAscii-if (are_all set count low) (codes "*" ∷ []) stepped (IsAscii-one 42 (omega arith), tt) (step, ranges)) ranges

list_ascii : (items : List (List ℕ)) → AreAscii items → IsAscii (list_text items)
list_ascii items are = IsAscii-joined 44 items (omega arith) are

plain_ascii : (starred : Bool) (set : FiniteSet) (count low : ℕ) → low + count ≤ 60 → IsAscii (plain_text starred set count low)
unfolding plain_text
plain_ascii starred set count low le = list_ascii (number_items starred set count low) (numbers_ascii starred set count low le)

days_ascii : (s : FieldSets) → IsAscii (list_text (day_field_items s))
unfolding day_field_items
days_ascii s =
    let numbers = number_items (is_starred_by_day s) s.days 31 1 in
    let ends = names_from FromEnd s.month_days.from_end 31 0 in
    let last = if s.month_days.last_workday then codes "LW" ∷ [] else [] in
    let nearest = names_from NearestWorkday s.month_days.nearest_workdays 31 1 in
    let named = AreAscii-if s.month_days.last_workday (codes "LW" ∷ []) [] (IsAscii-cons 76 (87 ∷ []) (omega arith) (IsAscii-one 87 (omega arith)), tt) tt in
    list_ascii (numbers ++ ends ++ last ++ nearest)
    (AreAscii-append (numbers ++ ends ++ last) nearest
    (AreAscii-append (numbers ++ ends) last (AreAscii-append numbers ends (numbers_ascii (is_starred_by_day s) s.days 31 1 (omega arith)) (names_ascii FromEnd s.month_days.from_end 31 0 (omega arith))) named)
    (names_ascii NearestWorkday s.month_days.nearest_workdays 31 1 (omega arith)))

weekdays_ascii : (s : FieldSets) → IsAscii (list_text (weekday_field_items s))
unfolding weekday_field_items
weekdays_ascii s =
    let numbers = number_items (is_starred_by_weekday s) s.weekdays 7 0 in
    let lasts = names_from LastWeekday s.month_days.last_weekdays 7 0 in
    let nths = names_from NthWeekday s.month_days.nth_weekdays 35 0 in
    list_ascii (numbers ++ lasts ++ nths)
    (AreAscii-append (numbers ++ lasts) nths
    (AreAscii-append numbers lasts (numbers_ascii (is_starred_by_weekday s) s.weekdays 7 0 (omega arith)) (names_ascii LastWeekday s.month_days.last_weekdays 7 0 (omega arith)))
    (names_ascii NthWeekday s.month_days.nth_weekdays 35 0 (omega arith)))

spaced : (front field : List ℕ) → IsAscii front → IsAscii field → IsAscii (front ++ codes " " ++ field)
spaced front field h k = IsAscii-append (front ++ codes " ") field (IsAscii-append front (codes " ") h (IsAscii-one 32 (omega arith))) k

pub schedule_ascii : (s : FieldSets) → IsAscii (schedule_text s)
unfolding schedule_text
schedule_ascii s =
    let minutes = plain_text (is_starred_by_minute s) s.minutes 60 0 in
    let hours = plain_text (is_starred_by_hour s) s.hours 24 0 in
    let days = list_text (day_field_items s) in
    let months = plain_text (are_all s.months 12 1) s.months 12 1 in
    let two = spaced minutes hours (plain_ascii (is_starred_by_minute s) s.minutes 60 0 (omega arith)) (plain_ascii (is_starred_by_hour s) s.hours 24 0 (omega arith)) in
    let three = spaced (minutes ++ codes " " ++ hours) days two (days_ascii s) in
    let four = spaced (minutes ++ codes " " ++ hours ++ codes " " ++ days) months three (plain_ascii (are_all s.months 12 1) s.months 12 1 (omega arith)) in
    spaced (minutes ++ codes " " ++ hours ++ codes " " ++ days ++ codes " " ++ months) (list_text (weekday_field_items s)) four (weekdays_ascii s)
