-- The fields of minutes, hours and months that are written are read back, with a `*` in front or without.
use Rattle.std.proofs.Common.{◌≡◌, ℕ, ◌+◌, Bool, true, false, not, ◌&&◌, ◌||◌, List, [], Some, refl, sym, ap, ap₂, ◌∙◌, arith, append-nil}
use Rattle.std.specs.Prelude.{codes}
use Rattle.std.specs.List.{list_all, slice_split}
use Rattle.std.proofs.lemmas.Bool.{false≢true}
use Rattle.chrono_text.specs.Lists.{list_text}
use Rattle.chrono_text.specs.Numbers.{digits_of, natural_of}
use Rattle.chrono_text.specs.Text.{number_text}
use Rattle.chrono_datetime.specs.Names.{month_of_letters, weekday_of_letters}
use Rattle.chrono_sets.specs.FiniteSets.{FiniteSet, has}
use Rattle.chrono_cron.specs.declared.field_sets.FieldSets.{FieldSets}
use Rattle.chrono_cron.specs.declared.text.number_names.Names.{Names}
use Rattle.chrono_cron.specs.declared.text.number_names.Names.TheVariants.{Numbers, Months}
use Rattle.chrono_cron.specs.FieldTexts.{field_lists, item_lists, items_list, number_between, number_of_name, item_span, range_of, spelled_number, step_of}
use Rattle.chrono_cron.specs.ScheduleTexts.{AreListed}
use Rattle.chrono_cron.specs.WritableSchedules.{IsWritable, LieBetween, Member}
use Rattle.chrono_cron.specs.WrittenTexts.{are_all, is_starred_by_hour, is_starred_by_minute, number_items, plain_text, range_text}
use Rattle.chrono_cron.proofs.FieldsReadBack.{IsWord, StarReads, all_has, are_read, field_back, field_is_word, hours_read, hours_star, is_item, lists_some, minutes_read, minutes_star, months_read, months_star, pass_all, star_has}
use Rattle.chrono_cron.proofs.DayFieldsReadBack.{StepReads, numbers_list, numbers_listed, numbers_pass, stepped_has}

minutes_step : StepReads Numbers 0 59 60
unfolding item_lists step_of range_of number_between spelled_number digits_of number_of_name natural_of
minutes_step k = refl

hours_step : StepReads Numbers 0 23 24
unfolding item_lists step_of range_of number_between spelled_number digits_of number_of_name natural_of
hours_step k = refl

months_step : StepReads Months 1 12 12
unfolding item_lists step_of range_of number_between spelled_number digits_of number_of_name month_of_letters weekday_of_letters natural_of
months_step k = refl

minutes-items : pass_all (λ r. is_item (range_text r)) 0 60 ≡ true
minutes-items = refl

hours-items : pass_all (λ r. is_item (range_text r)) 0 24 ≡ true
hours-items = refl

months-items : pass_all (λ r. is_item (range_text r)) 1 13 ≡ true
months-items = refl

-- with a `*` in front the first number is listed
abbrev pub ListsFirst : Bool → FiniteSet → ℕ → Type 0
ListsFirst starred set low = starred ≡ true → has set low ≡ true

plain_value : (set : FiniteSet) (low count high k : ℕ) (starred all : Bool) → ListsFirst starred set low → are_all set count low ≡ all → low + count ≡ high + 1 → LieBetween set low (low + count)
    → numbers_list set low count high k starred all ≡ has set k
plain_value set low count high k true true first is ends lie = star_has set low count high k lie is ends
plain_value set low count high k true false first is ends lie = stepped_has set low high count k (first refl) (λ le. omega (arith, le, ends))
plain_value set low count high k false all first is ends lie = refl

plain_reads : (names : Names) (set : FiniteSet) (low count high : ℕ) (starred : Bool) → are_read names low high (low + count) ≡ true → StarReads names low high → StepReads names low high count
    → low + count ≡ high + 1 → ListsFirst starred set low → LieBetween set low (low + count) → (k : ℕ) → items_list names low high (number_items starred set count low) k ≡ Some (has set k)
plain_reads names set low count high starred read star step ends first lie k =
    numbers_listed names set low count high starred starred (are_all set count low) refl refl read star step lie k
    ∙ ap Some (plain_value set low count high k starred (are_all set count low) first refl ends lie)

plain_back : (names : Names) (set : FiniteSet) (low count high : ℕ) (starred : Bool) → are_read names low high (low + count) ≡ true → StarReads names low high → StepReads names low high count
    → low + count ≡ high + 1 → list_all is_item (number_items starred set count low) ≡ true → ListsFirst starred set low → LieBetween set low (low + count) → Member set
    → AreListed set (field_lists names low high (plain_text starred set count low))
unfolding field_lists plain_text
plain_back names set low count high starred read star step ends items first lie (m, member) = λ k.
    let lists = plain_reads names set low count high starred read star step ends first lie in
    ap (λ items. items_list names low high items k) (field_back names low high m (number_items starred set count low) items (lists m ∙ ap Some member)) ∙ lists k

pub minutes_items : (starred : Bool) (set : FiniteSet) → list_all is_item (number_items starred set 60 0) ≡ true
minutes_items starred set = numbers_pass is_item set 60 0 starred refl refl minutes-items

pub hours_items : (starred : Bool) (set : FiniteSet) → list_all is_item (number_items starred set 24 0) ≡ true
hours_items starred set = numbers_pass is_item set 24 0 starred refl refl hours-items

months_items : (starred : Bool) (set : FiniteSet) → list_all is_item (number_items starred set 12 1) ≡ true
months_items starred set = numbers_pass is_item set 12 1 starred refl refl months-items

pub minutes_back : (starred : Bool) (set : FiniteSet) → ListsFirst starred set 0 → LieBetween set 0 60 → Member set → AreListed set (field_lists Numbers 0 59 (plain_text starred set 60 0))
minutes_back starred set first lie some = plain_back Numbers set 0 60 59 starred minutes_read minutes_star minutes_step refl (minutes_items starred set) first lie some

pub hours_back : (starred : Bool) (set : FiniteSet) → ListsFirst starred set 0 → LieBetween set 0 24 → Member set → AreListed set (field_lists Numbers 0 23 (plain_text starred set 24 0))
hours_back starred set first lie some = plain_back Numbers set 0 24 23 starred hours_read hours_star hours_step refl (hours_items starred set) first lie some

pub months_back : (starred : Bool) (set : FiniteSet) → ListsFirst starred set 1 → LieBetween set 1 13 → Member set → AreListed set (field_lists Months 1 12 (plain_text starred set 12 1))
months_back starred set first lie some = plain_back Months set 1 12 12 starred months_read months_star months_step refl (months_items starred set) first lie some

-- ---- fields as words

-- the items of a field that lists some number
plain_some : (names : Names) (set : FiniteSet) (low count high : ℕ) (starred : Bool) → are_read names low high (low + count) ≡ true → StarReads names low high → StepReads names low high count
    → low + count ≡ high + 1 → ListsFirst starred set low → LieBetween set low (low + count) → Member set → number_items starred set count low ≡ [] → ⊥
plain_some names set low count high starred read star step ends first lie (m, member) =
    lists_some names low high m (number_items starred set count low) (plain_reads names set low count high starred read star step ends first lie m ∙ ap Some member)

pub minutes_some : (starred : Bool) (set : FiniteSet) → ListsFirst starred set 0 → LieBetween set 0 60 → Member set → number_items starred set 60 0 ≡ [] → ⊥
minutes_some starred set first lie some = plain_some Numbers set 0 60 59 starred minutes_read minutes_star minutes_step refl first lie some

pub hours_some : (starred : Bool) (set : FiniteSet) → ListsFirst starred set 0 → LieBetween set 0 24 → Member set → number_items starred set 24 0 ≡ [] → ⊥
hours_some starred set first lie some = plain_some Numbers set 0 24 23 starred hours_read hours_star hours_step refl first lie some

pub minutes_word : (starred : Bool) (set : FiniteSet) → ListsFirst starred set 0 → LieBetween set 0 60 → Member set → IsWord (plain_text starred set 60 0)
unfolding plain_text
minutes_word starred set first lie some = field_is_word (number_items starred set 60 0) (minutes_some starred set first lie some) (minutes_items starred set)

pub hours_word : (starred : Bool) (set : FiniteSet) → ListsFirst starred set 0 → LieBetween set 0 24 → Member set → IsWord (plain_text starred set 24 0)
unfolding plain_text
hours_word starred set first lie some = field_is_word (number_items starred set 24 0) (hours_some starred set first lie some) (hours_items starred set)

pub months_word : (starred : Bool) (set : FiniteSet) → ListsFirst starred set 1 → LieBetween set 1 13 → Member set → IsWord (plain_text starred set 12 1)
unfolding plain_text
months_word starred set first lie some =
    field_is_word (number_items starred set 12 1) (plain_some Months set 1 12 12 starred months_read months_star months_step refl first lie some) (months_items starred set)

-- ---- which field begins with `*`

hour_lists_first : (f all other one : Bool) → (all ≡ true → one ≡ true) → (f && (all || (not other && one))) ≡ true → one ≡ true
hour_lists_first false all other one follows is = absurd (false≢true is)
hour_lists_first true true other one follows is = follows refl
hour_lists_first true false true one follows is = absurd (false≢true is)
hour_lists_first true false false one follows is = is

minute_lists_first : (f all other zero one : Bool) → (all ≡ true → one ≡ true) → (f && (all || (not other && (not zero && one)))) ≡ true → one ≡ true
minute_lists_first false all other zero one follows is = absurd (false≢true is)
minute_lists_first true true other zero one follows is = follows refl
minute_lists_first true false true zero one follows is = absurd (false≢true is)
minute_lists_first true false false true one follows is = absurd (false≢true is)
minute_lists_first true false false false one follows is = is

one_starred_time : (f minutes hours zero first : Bool) → (f ≡ true → (zero || first) ≡ true)
    → ((f && (minutes || (not hours && (not zero && first)))) || (f && (hours || (not minutes && zero)))) ≡ f
one_starred_time false minutes hours zero first some = refl
one_starred_time true true hours zero first some = refl
one_starred_time true false true zero first some = refl
one_starred_time true false false true first some = refl
one_starred_time true false false false true some = refl
one_starred_time true false false false false some = absurd (false≢true (some refl))

pub hour_first : (s : FieldSets) → ListsFirst (is_starred_by_hour s) s.hours 0
unfolding is_starred_by_hour
hour_first s is =
    hour_lists_first s.follows_clock (are_all s.hours 24 0) (are_all s.minutes 60 0) (has s.hours 0) (λ all. all_has s.hours 24 0 0 all (omega arith) (omega arith)) is

pub minute_first : (s : FieldSets) → ListsFirst (is_starred_by_minute s) s.minutes 0
unfolding is_starred_by_minute
minute_first s is =
    minute_lists_first s.follows_clock (are_all s.minutes 60 0) (are_all s.hours 24 0) (has s.hours 0) (has s.minutes 0) (λ all. all_has s.minutes 60 0 0 all (omega arith) (omega arith)) is

pub month_first : (s : FieldSets) → ListsFirst (are_all s.months 12 1) s.months 1
month_first s all = all_has s.months 12 1 1 all (omega arith) (omega arith)

pub follows_is : (s : FieldSets) → IsWritable s → (is_starred_by_minute s || is_starred_by_hour s) ≡ s.follows_clock
unfolding is_starred_by_minute is_starred_by_hour
follows_is s told = one_starred_time s.follows_clock (are_all s.minutes 60 0) (are_all s.hours 24 0) (has s.hours 0) (has s.minutes 0) told.timed
