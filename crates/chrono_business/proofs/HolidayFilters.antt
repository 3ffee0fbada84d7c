-- Days of which those on the weekend are left out.
use Rattle.std.proofs.Common.{◌≡◌, ℕ, zero, suc, ◌+◌, ◌<◌, ◌≤◌, ◌≢◌, Bool, true, false, cond, List, [], ◌∷◌, ◌++◌, length, take, filter, sym, ap, ◌∙◌, arith, ℤ, ◌<ℤ◌}
use Rattle.std.specs.Prelude.{slice_index_or, slice_set}
use Rattle.std.specs.List.{All, SameFrom}
use Rattle.std.proofs.lemmas.List.{append-nil, get_or-set_other, take_more, take_more_set}
use Rattle.std.proofs.lemmas.List.Elements.{All-filter, filter-append, filter_passes}
use Rattle.chrono_datetime.specs.Days.{IsDate}
use Rattle.chrono_datetime.specs.WeekdaySet.{DaySet}
use Rattle.chrono_datetime.specs.RisingDates.{AreRising}
use Rattle.chrono_business.specs.OpenDays.{AreHolidays, is_workday}
use Rattle.chrono_business.proofs.Early.{rising_behind}

-- ---- one day after another

filter-next : (p : ℤ → Bool) (xs : List ℤ) (i : ℕ) (x : ℤ) → i < length xs → slice_index_or xs i x ≡ x → filter p (take (i + 1) xs) ≡ filter p (take i xs) ++ cond (p x) (x ∷ []) []
filter-next p xs i x within is =
    ap (filter p) (take_more xs i x within)
    ∙ (filter-append p (take i xs) (slice_index_or xs i x ∷ []) ∙ ap (λ (y : ℤ). filter p (take i xs) ++ cond (p y) (y ∷ []) []) is)

-- what is read at a place is what stood there
pub read-old : (old cur : List ℤ) (place : ℕ) (x : ℤ) → SameFrom old cur place → x ≡ slice_index_or cur place x → slice_index_or old place x ≡ x
read-old old cur place x ahead is = sym (is ∙ ahead place x (omega arith))

pub kept-next : (p : ℤ → Bool) (old cur : List ℤ) (count place : ℕ) (x : ℤ) → count ≤ place → place < length old → length cur ≡ length old → slice_index_or old place x ≡ x → take count cur ≡ filter p (take place old) → p x ≡ true → take (count + 1) (slice_set cur count x) ≡ filter p (take (place + 1) old)
kept-next p old cur count place x low within long is left passes =
    take_more_set cur count x (omega (arith, low, within, long))
    ∙ (ap (λ (l : List ℤ). l ++ x ∷ []) left
    ∙ sym (filter-next p old place x within is ∙ ap (λ b. filter p (take place old) ++ cond b (x ∷ []) []) passes))

pub out-next : (p : ℤ → Bool) (old cur : List ℤ) (count place : ℕ) (x : ℤ) → place < length old → slice_index_or old place x ≡ x → take count cur ≡ filter p (take place old) → p x ≡ false → take count cur ≡ filter p (take (place + 1) old)
out-next p old cur count place x within is left fails =
    left
    ∙ sym (filter-next p old place x within is ∙ (ap (λ b. filter p (take place old) ++ cond b (x ∷ []) []) fails ∙ append-nil (filter p (take place old))))

pub ahead-set : (old cur : List ℤ) (count place : ℕ) (x : ℤ) → count ≤ place → SameFrom old cur place → SameFrom old (slice_set cur count x) (place + 1)
ahead-set old cur count place x low ahead = λ k d high.
    let other : k ≢ count = omega (arith, low, high) in
    rw get_or-set_other (ahead k d (omega (arith, high)))

pub ahead-more : (old cur : List ℤ) (place : ℕ) → SameFrom old cur place → SameFrom old cur (place + 1)
ahead-more old cur place ahead = λ k d high. ahead k d (omega (arith, high))

-- ---- what is left of days that rise

rising_cons : (x : ℤ) (xs : List ℤ) → All (λ y. x <ℤ y) xs → AreRising xs → AreRising (x ∷ xs)
rising_cons x xs first rising zero zero d order within = absurd (omega arith)
rising_cons x xs first rising zero (suc j) d order within = first j d (omega arith)
rising_cons x xs first rising (suc i) zero d order within = absurd (omega arith)
rising_cons x xs first rising (suc i) (suc j) d order within = rising i j d (omega arith) (omega arith)

rising-if : (p : ℤ → Bool) (b : Bool) (x : ℤ) (xs : List ℤ) → All (λ y. x <ℤ y) (filter p xs) → AreRising (filter p xs) → AreRising (cond b (x ∷ filter p xs) (filter p xs))
rising-if p true x xs first rising = rising_cons x (filter p xs) first rising
rising-if p false x xs first rising = rising

rising-filter : (p : ℤ → Bool) (xs : List ℤ) → AreRising xs → AreRising (filter p xs)
rising-filter p [] rising = λ i j d order within. absurd (omega arith)
rising-filter p (x ∷ xs) rising =
    rising-if p (p x) x xs (All-filter p (λ y. x <ℤ y) xs (λ k d within. rising 0 (suc k) d (omega arith) (omega arith))) (rising-filter p xs (rising_behind x xs rising))

pub filter-holidays : (weekend : DaySet) (xs : List ℤ) → All IsDate xs → AreRising xs → AreHolidays weekend (filter (is_workday weekend) xs)
filter-holidays weekend xs dates rising = record {
  dates = All-filter (is_workday weekend) IsDate xs dates;
  rising = rising-filter (is_workday weekend) xs rising;
  workdays = filter_passes (is_workday weekend) xs;
}
