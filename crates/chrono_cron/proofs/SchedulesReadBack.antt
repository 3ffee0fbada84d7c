-- A schedule that is written is read back.
use Rattle.std.proofs.Common.{◌≡◌, ℕ, ◌+◌, ◌==◌, Bool, true, false, not, ◌&&◌, ◌||◌, if◌then◌else◌, List, [], ◌∷◌, ◌++◌, Option, Some, inl, inr, refl, sym, ap, ap₂, ◌∙◌, arith, append_assoc, append-nil}
use Rattle.std.specs.Prelude.{codes, map, nat_lt, slice_index}
use Rattle.std.specs.List.{filter, list_all, list_any, slice_split}
use Rattle.std.specs.Option.{option_and_then, option_map}
use Rattle.std.proofs.lemmas.Bool.{and_parts, false≢true, not-true}
use Rattle.chrono_text.proofs.ListLemmas.{all_of, split_at, split_none}
use Rattle.chrono_text.specs.Lists.{is_blank, is_some_text, list_text}
use Rattle.chrono_text.specs.Text.{number_text}
use Rattle.chrono_sets.specs.FiniteSets.{FiniteSet, has}
use Rattle.chrono_cron.specs.declared.text.number_names.Names.TheVariants.{Numbers, Weekdays}
use Rattle.chrono_cron.specs.declared.field_sets.FieldSets.{FieldSets}
use Rattle.chrono_cron.specs.declared.text.schedule_writer.DayName.TheVariants.{FromEnd, NearestWorkday, LastWeekday, NthWeekday}
use Rattle.chrono_cron.specs.FieldTexts.{items_list}
use Rattle.chrono_cron.specs.ScheduleTexts.{AreListed, AreNamedDays, IsScheduleText, an_item_is, begins_with_star, days_list, fields_of, from_end_of, is_number, last_weekday_of, last_workday_of, nearest_workday_of, nth_weekday_of, spelled_out, weekdays_list, text_words, names_by_place, names_by_weekday}
use Rattle.chrono_cron.specs.WritableSchedules.{IsWritable}
use Rattle.chrono_cron.specs.WrittenTexts.{are_all, day_field_items, is_starred_by_day, is_starred_by_hour, is_starred_by_minute, is_starred_by_weekday, name_text, number_items, plain_text, range_text, ranges_from, schedule_text, weekday_field_items}
use Rattle.chrono_cron.proofs.FieldsReadBack.{IsWord, all_has, field_is_word, field_items, given, is_item, lists_some, pass_all, ranges_pass}
use Rattle.chrono_cron.proofs.DayFieldsReadBack.{filter_all, names_tested, pass_from}
use Rattle.chrono_cron.proofs.NamedDaysReadBack.{day_items_are, day_names, day_numbers, days_are_items, days_listed, ends, ends_named, last_named, last_workdays, nearest_named, other_days, workdays}
use Rattle.chrono_cron.proofs.TimesReadBack.{follows_is, hour_first, hours_back, hours_items, hours_some, hours_word, minute_first, minutes_back, minutes_items, minutes_some, minutes_word, month_first, months_back, months_word}
use Rattle.chrono_cron.proofs.WeekdaysReadBack.{lasts, lasts_named, nths, nths_named, other_weekdays, weekday_items_are, weekday_numbers, weekdays_are_items, weekdays_listed}
use Rattle.chrono_cron.proofs.WrittenFields.{numbers_all, numbers_stepped, numbers_unstarred, ranges_are}

-- ---- which field begins with `*`

starred_lists_first : (e all other one : Bool) → (all ≡ true → one ≡ true) → (not e && (all || (not other && one))) ≡ true → one ≡ true
starred_lists_first true all other one follows is = absurd (false≢true is)
starred_lists_first false true other one follows is = follows refl
starred_lists_first false false true one follows is = absurd (false≢true is)
starred_lists_first false false false one follows is = is

starred_lists_sunday : (e all other one zero : Bool) → (other ≡ true → zero ≡ true) → (not e && (other || (not all && (not one && zero)))) ≡ true → zero ≡ true
starred_lists_sunday true all other one zero follows is = absurd (false≢true is)
starred_lists_sunday false all true one zero follows is = follows refl
starred_lists_sunday false true false one zero follows is = absurd (false≢true is)
starred_lists_sunday false false false true zero follows is = absurd (false≢true is)
starred_lists_sunday false false false false zero follows is = is

neither_starred : (e all other one zero : Bool) → (e ≡ false → (one || zero) ≡ true)
    → (not (not e && (all || (not other && one))) && not (not e && (other || (not all && (not one && zero))))) ≡ e
neither_starred true all other one zero some = refl
neither_starred false true other one zero some = refl
neither_starred false false true one zero some = refl
neither_starred false false false true zero some = refl
neither_starred false false false false true some = refl
neither_starred false false false false false some = absurd (false≢true (some refl))

day_first : (s : FieldSets) → is_starred_by_day s ≡ true → has s.days 1 ≡ true
unfolding is_starred_by_day
day_first s is = starred_lists_first s.either (are_all s.days 31 1) (are_all s.weekdays 7 0) (has s.days 1) (λ all. all_has s.days 31 1 1 all (omega arith) (omega arith)) is

sunday_first : (s : FieldSets) → is_starred_by_weekday s ≡ true → has s.weekdays 0 ≡ true
unfolding is_starred_by_weekday
sunday_first s is =
    starred_lists_sunday s.either (are_all s.days 31 1) (are_all s.weekdays 7 0) (has s.days 1) (has s.weekdays 0) (λ all. all_has s.weekdays 7 0 0 all (omega arith) (omega arith)) is

either_is : (s : FieldSets) → IsWritable s → (not (is_starred_by_day s) && not (is_starred_by_weekday s)) ≡ s.either
unfolding is_starred_by_day is_starred_by_weekday
either_is s told = neither_starred s.either (are_all s.days 31 1) (are_all s.weekdays 7 0) (has s.days 1) (has s.weekdays 0) told.starred

abbrev no_star : List ℕ → Bool
no_star item = not (slice_index item 0 == 42)

begins_first : (item : List ℕ) (items : List (List ℕ)) → is_item item ≡ true → begins_with_star (list_text (item ∷ items)) ≡ (slice_index item 0 == 42)
unfolding begins_with_star
begins_first [] items is = absurd (false≢true is)
begins_first (x ∷ item) [] is = refl
begins_first (x ∷ item) (next ∷ items) is = refl

begins_starred : (set : FiniteSet) (count low : ℕ) (starred all : Bool) (others : List (List ℕ)) → starred ≡ true → are_all set count low ≡ all → is_item (codes "*/" ++ number_text count) ≡ true
    → begins_with_star (list_text (number_items starred set count low ++ others)) ≡ true
begins_starred set count low starred true others s a is =
    sym (ap (λ items. begins_with_star (list_text (items ++ others))) (numbers_all starred set count low s a)) ∙ begins_first (codes "*") others refl
begins_starred set count low starred false others s a is =
    sym (ap (λ items. begins_with_star (list_text (items ++ others))) (numbers_stepped starred set count low s a))
    ∙ begins_first (codes "*/" ++ number_text count) (map range_text (ranges_from set count low) ++ others) is

begins_unstarred : (items : List (List ℕ)) → (items ≡ [] → ⊥) → list_all is_item items ≡ true → list_all no_star items ≡ true → begins_with_star (list_text items) ≡ false
begins_unstarred [] some are lack = absurd (some refl)
begins_unstarred (item ∷ items) some are lack =
    begins_first item items (and_parts (is_item item) (list_all is_item items) are).0
    ∙ not-true (slice_index item 0 == 42) (and_parts (no_star item) (list_all no_star items) lack).0

ranges_lack_star : (set : FiniteSet) (count low : ℕ) (starred : Bool) → starred ≡ false → pass_all (λ r. no_star (range_text r)) low (low + count) ≡ true → list_all no_star (number_items starred set count low) ≡ true
ranges_lack_star set count low starred is pass =
    sym (ap (list_all no_star) (numbers_unstarred starred set count low is))
    ∙ ranges_pass no_star low low (low + count) (ranges_from set count low) pass (omega arith) (ranges_are set count low (low + count) (omega arith))

days_lack_star : pass_all (λ r. no_star (range_text r)) 1 32 ≡ true
days_lack_star = refl

weekdays_lack_star : pass_all (λ r. no_star (range_text r)) 0 7 ≡ true
weekdays_lack_star = refl

ends_lack_star : pass_from (λ k. no_star (name_text FromEnd k)) 0 31 ≡ true
ends_lack_star = refl

workdays_lack_star : pass_from (λ k. no_star (name_text NearestWorkday k)) 1 32 ≡ true
workdays_lack_star = refl

lasts_lack_star : pass_from (λ k. no_star (name_text LastWeekday k)) 0 7 ≡ true
lasts_lack_star = refl

nths_lack_star : pass_from (λ k. no_star (name_text NthWeekday k)) 0 35 ≡ true
nths_lack_star = refl

last_lacks_star : (named : Bool) → list_all no_star (if named then codes "LW" ∷ [] else []) ≡ true
last_lacks_star true = refl
last_lacks_star false = refl

begins_day : (s : FieldSets) (starred : Bool) → is_starred_by_day s ≡ starred → (day_field_items s ≡ [] → ⊥) → begins_with_star (list_text (day_field_items s)) ≡ starred
begins_day s true is some =
    ap (λ items. begins_with_star (list_text items)) (day_items_are s) ∙ begins_starred s.days 31 1 (is_starred_by_day s) (are_all s.days 31 1) (day_names s) is refl refl
begins_day s false is some =
    begins_unstarred (day_field_items s) some (days_are_items s)
    (ap (list_all no_star) (day_items_are s)
    ∙ all_of no_star (day_numbers s) (day_names s) (ranges_lack_star s.days 31 1 (is_starred_by_day s) is days_lack_star)
    (all_of no_star (ends s) (last_workdays s.month_days.last_workday ++ workdays s) (names_tested no_star FromEnd s.month_days.from_end 31 0 ends_lack_star)
    (all_of no_star (last_workdays s.month_days.last_workday) (workdays s) (last_lacks_star s.month_days.last_workday)
    (names_tested no_star NearestWorkday s.month_days.nearest_workdays 31 1 workdays_lack_star))))

begins_weekday : (s : FieldSets) (starred : Bool) → is_starred_by_weekday s ≡ starred → (weekday_field_items s ≡ [] → ⊥) → begins_with_star (list_text (weekday_field_items s)) ≡ starred
begins_weekday s true is some =
    ap (λ items. begins_with_star (list_text items)) (weekday_items_are s)
    ∙ begins_starred s.weekdays 7 0 (is_starred_by_weekday s) (are_all s.weekdays 7 0) (lasts s ++ nths s) is refl refl
begins_weekday s false is some =
    begins_unstarred (weekday_field_items s) some (weekdays_are_items s)
    (ap (list_all no_star) (weekday_items_are s)
    ∙ all_of no_star (weekday_numbers s) (lasts s ++ nths s) (ranges_lack_star s.weekdays 7 0 (is_starred_by_weekday s) is weekdays_lack_star)
    (all_of no_star (lasts s) (nths s) (names_tested no_star LastWeekday s.month_days.last_weekdays 7 0 lasts_lack_star)
    (names_tested no_star NthWeekday s.month_days.nth_weekdays 35 0 nths_lack_star)))

minutes_lack_star : pass_all (λ r. no_star (range_text r)) 0 60 ≡ true
minutes_lack_star = refl

hours_lack_star : pass_all (λ r. no_star (range_text r)) 0 24 ≡ true
hours_lack_star = refl

begins_minute : (s : FieldSets) (starred : Bool) → is_starred_by_minute s ≡ starred → (number_items (is_starred_by_minute s) s.minutes 60 0 ≡ [] → ⊥)
    → begins_with_star (plain_text (is_starred_by_minute s) s.minutes 60 0) ≡ starred
unfolding plain_text
begins_minute s true is some =
    ap (λ items. begins_with_star (list_text items)) (sym (append-nil (number_items (is_starred_by_minute s) s.minutes 60 0)))
    ∙ begins_starred s.minutes 60 0 (is_starred_by_minute s) (are_all s.minutes 60 0) [] is refl refl
begins_minute s false is some =
    begins_unstarred (number_items (is_starred_by_minute s) s.minutes 60 0) some (minutes_items (is_starred_by_minute s) s.minutes)
    (ranges_lack_star s.minutes 60 0 (is_starred_by_minute s) is minutes_lack_star)

begins_hour : (s : FieldSets) (starred : Bool) → is_starred_by_hour s ≡ starred → (number_items (is_starred_by_hour s) s.hours 24 0 ≡ [] → ⊥)
    → begins_with_star (plain_text (is_starred_by_hour s) s.hours 24 0) ≡ starred
unfolding plain_text
begins_hour s true is some =
    ap (λ items. begins_with_star (list_text items)) (sym (append-nil (number_items (is_starred_by_hour s) s.hours 24 0)))
    ∙ begins_starred s.hours 24 0 (is_starred_by_hour s) (are_all s.hours 24 0) [] is refl refl
begins_hour s false is some =
    begins_unstarred (number_items (is_starred_by_hour s) s.hours 24 0) some (hours_items (is_starred_by_hour s) s.hours)
    (ranges_lack_star s.hours 24 0 (is_starred_by_hour s) is hours_lack_star)

-- ---- neither field of days is empty

any_some : (p : List ℕ → Bool) (items : List (List ℕ)) → list_any p items ≡ true → items ≡ [] → ⊥
any_some p items is none = false≢true (sym (ap (list_any p) none) ∙ is)

filter_some : (p : List ℕ → Bool) (items others : List (List ℕ)) → filter p items ≡ others → (others ≡ [] → ⊥) → items ≡ [] → ⊥
filter_some p items others are some none = some (sym are ∙ ap (filter p) none)

some_days : (s : FieldSets) → IsWritable s → day_field_items s ≡ [] → ⊥
some_days s told = elim told.a_day [
  | inl (k, is) ↦
      filter_some (λ item. not (names_by_place item)) (day_field_items s) (number_items (is_starred_by_day s) s.days 31 1) (other_days s)
      (lists_some Numbers 1 31 k (number_items (is_starred_by_day s) s.days 31 1) (days_listed s (day_first s) told.days k ∙ ap Some is))
  | inr (inl (k, is)) ↦ any_some (λ item. is_number k (from_end_of item)) (day_field_items s) (ends_named s told.from_end k ∙ is)
  | inr (inr (inl is)) ↦ any_some (λ item. is_number 0 (last_workday_of item)) (day_field_items s) (last_named s ∙ is)
  | inr (inr (inr (k, is))) ↦ any_some (λ item. is_number k (nearest_workday_of item)) (day_field_items s) (nearest_named s told.nearest_workdays k ∙ is)
]

abbrev week_given : ℕ → Option Bool → Option Bool → Option Bool
week_given k seven here = option_and_then (λ h. option_map (λ t. nat_lt k 7 && (h || (k == 0 && t))) seven) here

never : (a b : Bool) → (a && (false || (b && false))) ≡ false
never true true = refl
never true false = refl
never false b = refl

some_weekdays : (s : FieldSets) → IsWritable s → weekday_field_items s ≡ [] → ⊥
some_weekdays s told = elim told.a_weekday [
  | inl (k, is) ↦
      filter_some (λ item. not (names_by_weekday item)) (weekday_field_items s) (number_items (is_starred_by_weekday s) s.weekdays 7 0) (other_weekdays s)
      (λ none.
      false≢true (sym (never (nat_lt k 7) (k == 0)) ∙ sym (ap (λ items. given (week_given k (items_list Weekdays 0 7 items 7) (items_list Weekdays 0 7 items k))) none)
      ∙ ap given (weekdays_listed s (sunday_first s) told.weekdays k) ∙ is))
  | inr (inl (k, is)) ↦ any_some (λ item. is_number k (last_weekday_of item)) (weekday_field_items s) (lasts_named s told.last_weekdays k ∙ is)
  | inr (inr (k, is)) ↦ any_some (λ item. is_number k (nth_weekday_of item)) (weekday_field_items s) (nths_named s told.nth_weekdays k ∙ is)
]

-- ---- five words

five_words : (a b c d e : List ℕ) → IsWord a → IsWord b → IsWord c → IsWord d → IsWord e
    → text_words (a ++ 32 ∷ (b ++ 32 ∷ (c ++ 32 ∷ (d ++ 32 ∷ e)))) ≡ a ∷ b ∷ c ∷ d ∷ e ∷ []
unfolding text_words
five_words a b c d e (some_a, lack_a) (some_b, lack_b) (some_c, lack_c) (some_d, lack_d) (some_e, lack_e) =
    ap (filter is_some_text)
    (split_at is_blank a 32 (b ++ 32 ∷ (c ++ 32 ∷ (d ++ 32 ∷ e))) lack_a refl
    ∙ ap (λ w. a ∷ w) (split_at is_blank b 32 (c ++ 32 ∷ (d ++ 32 ∷ e)) lack_b refl
    ∙ ap (λ w. b ∷ w) (split_at is_blank c 32 (d ++ 32 ∷ e) lack_c refl
    ∙ ap (λ w. c ∷ w) (split_at is_blank d 32 e lack_d refl ∙ ap (λ w. d ∷ w) (split_none is_blank e lack_e)))))
    ∙ filter_all is_some_text (a ∷ b ∷ c ∷ d ∷ e ∷ [])
    (ap₂ (λ x y. x && y) some_a (ap₂ (λ x y. x && y) some_b (ap₂ (λ x y. x && y) some_c (ap₂ (λ x y. x && y) some_d (ap₂ (λ x y. x && y) some_e refl)))))

fields_back : (s : FieldSets) → IsWritable s
    → fields_of (schedule_text s) ≡ plain_text (is_starred_by_minute s) s.minutes 60 0 ∷ plain_text (is_starred_by_hour s) s.hours 24 0 ∷ list_text (day_field_items s) ∷ plain_text (are_all s.months 12 1) s.months 12 1 ∷ list_text (weekday_field_items s) ∷ []
unfolding fields_of schedule_text
fields_back s told =
    let nested : schedule_text s
    ≡ plain_text (is_starred_by_minute s) s.minutes 60 0 ++ 32 ∷ (plain_text (is_starred_by_hour s) s.hours 24 0 ++ 32 ∷ (list_text (day_field_items s) ++ 32 ∷ (plain_text (are_all s.months 12 1) s.months 12 1 ++ 32 ∷ list_text (weekday_field_items s)))) =
    simp append_assoc refl in
    ap (λ text. spelled_out (text_words text)) nested
    ∙ ap spelled_out (five_words (plain_text (is_starred_by_minute s) s.minutes 60 0) (plain_text (is_starred_by_hour s) s.hours 24 0) (list_text (day_field_items s)) (plain_text (are_all s.months 12 1) s.months 12 1) (list_text (weekday_field_items s))
    (minutes_word (is_starred_by_minute s) s.minutes (minute_first s) told.minutes told.a_minute) (hours_word (is_starred_by_hour s) s.hours (hour_first s) told.hours told.an_hour) (field_is_word (day_field_items s) (some_days s told) (days_are_items s))
    (months_word (are_all s.months 12 1) s.months (month_first s) told.months told.a_month) (field_is_word (weekday_field_items s) (some_weekdays s told) (weekdays_are_items s)))

-- ---- the schedule

day_field : (s : FieldSets) → IsWritable s → slice_split (λ x. x == 44) (list_text (day_field_items s)) ≡ day_field_items s
day_field s told = field_items (day_field_items s) (some_days s told) (days_are_items s)

weekday_field : (s : FieldSets) → IsWritable s → slice_split (λ x. x == 44) (list_text (weekday_field_items s)) ≡ weekday_field_items s
weekday_field s told = field_items (weekday_field_items s) (some_weekdays s told) (weekdays_are_items s)

days_back : (s : FieldSets) → IsWritable s → AreListed s.days (days_list (list_text (day_field_items s)))
unfolding days_list
days_back s told = λ k.
    ap (λ items. items_list Numbers 1 31 (filter (λ item. not (names_by_place item)) items) k) (day_field s told) ∙ ap (λ items. items_list Numbers 1 31 items k) (other_days s)
    ∙ days_listed s (day_first s) told.days k

weekdays_back : (s : FieldSets) → IsWritable s → AreListed s.weekdays (weekdays_list (list_text (weekday_field_items s)))
unfolding weekdays_list
weekdays_back s told = λ k.
    ap (λ items. week_given k (items_list Weekdays 0 7 (filter (λ item. not (names_by_weekday item)) items) 7) (items_list Weekdays 0 7 (filter (λ item. not (names_by_weekday item)) items) k)) (weekday_field s told)
    ∙ ap (λ items. week_given k (items_list Weekdays 0 7 items 7) (items_list Weekdays 0 7 items k)) (other_weekdays s)
    ∙ weekdays_listed s (sunday_first s) told.weekdays k

named_back : (s : FieldSets) → IsWritable s → AreNamedDays (list_text (day_field_items s)) (list_text (weekday_field_items s)) s.month_days
unfolding an_item_is
named_back s told = record {
  from_end = λ k. ap (list_any (λ item. is_number k (from_end_of item))) (day_field s told) ∙ ends_named s told.from_end k;
  nearest_workdays = λ k. ap (list_any (λ item. is_number k (nearest_workday_of item))) (day_field s told) ∙ nearest_named s told.nearest_workdays k;
  last_workday = ap (list_any (λ item. is_number 0 (last_workday_of item))) (day_field s told) ∙ last_named s;
  last_weekdays = λ k. ap (list_any (λ item. is_number k (last_weekday_of item))) (weekday_field s told) ∙ lasts_named s told.last_weekdays k;
  nth_weekdays = λ k. ap (list_any (λ item. is_number k (nth_weekday_of item))) (weekday_field s told) ∙ nths_named s told.nth_weekdays k;
}

pub schedule_back : (s : FieldSets) → IsWritable s → IsScheduleText (schedule_text s) s
schedule_back s told = record {
  minute = plain_text (is_starred_by_minute s) s.minutes 60 0;
  hour = plain_text (is_starred_by_hour s) s.hours 24 0;
  day = list_text (day_field_items s);
  month = plain_text (are_all s.months 12 1) s.months 12 1;
  weekday = list_text (weekday_field_items s);
  written = fields_back s told;
  minutes = minutes_back (is_starred_by_minute s) s.minutes (minute_first s) told.minutes told.a_minute;
  hours = hours_back (is_starred_by_hour s) s.hours (hour_first s) told.hours told.an_hour;
  days = days_back s told;
  months = months_back (are_all s.months 12 1) s.months (month_first s) told.months told.a_month;
  weekdays = weekdays_back s told;
  month_days = named_back s told;
  either = ap₂ (λ a b. not a && not b) (begins_day s (is_starred_by_day s) refl (some_days s told)) (begins_weekday s (is_starred_by_weekday s) refl (some_weekdays s told)) ∙ either_is s told;
  follows_clock =
      ap₂ (λ a b. a || b) (begins_minute s (is_starred_by_minute s) refl (minutes_some (is_starred_by_minute s) s.minutes (minute_first s) told.minutes told.a_minute))
      (begins_hour s (is_starred_by_hour s) refl (hours_some (is_starred_by_hour s) s.hours (hour_first s) told.hours told.an_hour)) ∙ follows_is s told;
}
