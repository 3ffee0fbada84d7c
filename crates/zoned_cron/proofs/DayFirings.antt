-- Each planned minute of a day that the clock shows whole has an instant of its own.
use Rattle.std.proofs.Common.{◌≡◌, inl, inr, true, false, Bool, cond, ℕ, zero, suc, ◌+◌, ◌*◌, ◌/◌, ◌%◌, ◌==◌, ◌&&◌, ◌<◌, ◌≤◌, ℤ, ◌+ℤ◌, List, [], ◌∷◌, map, arith, ap, refl, ◌∙◌, sym, subst}
use Rattle.std.proofs.lemmas.Bool.{and_parts, true≢false}
use Rattle.std.proofs.lemmas.Bool.Decides.{leb_tells, nat_tests}
use Rattle.std.proofs.lemmas.Int.{ints}
use Rattle.std.proofs.lemmas.List.Elements.{Contains-append_left, Contains-append_right, Contains-push}
use Rattle.std.specs.List.{Contains, filter, range_with_len}
use Rattle.chrono_datetime.specs.Moment.{IsMoment, Moment, moment}
use Rattle.chrono_datetime.specs.Time.{TimeOfDay}
use Rattle.chrono_instant.specs.Instants.{epoch_second}
use Rattle.chrono_instant.specs.Offsets.{IsOffset}
use Rattle.chrono_zoned.specs.Zones.{IsOnly, Shows}
use Rattle.chrono_cron.specs.declared.field_sets.FieldSets.{FieldSets}
use Rattle.chrono_cron.specs.Due.{is_day, is_due, is_minute}
use Rattle.zoned_cron.specs.Fires.{IsGap, Takes, once_each}
use Rattle.zoned_cron.specs.DayFirings.{AreDifferent, FireOnceEach, IsNoneOf, ShowsMinutes, minute_of_day, planned_minutes}
use Rattle.zoned_cron.proofs.Instants.{in_gap}
use Rattle.zoned_cron.proofs.Laws.{one_firing}

-- where the clock shows what is planned, it fires at an instant that shows it
shown_there : (ahead : ℤ → ℤ) (l u : ℤ) → ¬ IsGap ahead l → Takes once_each ahead l u → Shows ahead l u
shown_there ahead l u shown (inl h) = h.0
shown_there ahead l u shown (inr h) = absurd (shown (in_gap ahead l u h))

-- two minutes of the day that fire at one instant are one
apart : (ahead : ℤ → ℤ) (n : ℤ) (j k : ℕ) (u v : ℤ) → ShowsMinutes ahead n → j < k → k < 1_440 → Takes once_each ahead (epoch_second (minute_of_day n j)) u → Takes once_each ahead (epoch_second (minute_of_day n k)) v → ¬ (v ≡ u)
apart ahead n j k u v shown lt most first second same =
    let here : (u +ℤ ahead u) ≡ epoch_second (minute_of_day n j) = shown_there ahead (epoch_second (minute_of_day n j)) u (shown j (omega (arith, lt, most))) first in
    let there : (v +ℤ ahead v) ≡ epoch_second (minute_of_day n k) = shown_there ahead (epoch_second (minute_of_day n k)) v (shown k most) second in
    let both : (v +ℤ ahead v) ≡ (u +ℤ ahead u) = ap (λ (x : ℤ). x +ℤ ahead x) same in
    absurd (omega (arith, ints, here, there, both, lt))

-- in what follows f gives the instant of each minute
abbrev Firing : (ℤ → ℤ) → ℤ → (ℕ → ℤ) → Type 0
Firing ahead n f = (k : ℕ) → IsOnly (Takes once_each ahead (epoch_second (minute_of_day n k))) (f k)

fire_each : (ahead : ℤ → ℤ) (n : ℤ) (f : ℕ → ℤ) → Firing ahead n f → (ks : List ℕ) → FireOnceEach ahead n ks (map f ks)
fire_each ahead n f fires [] = tt
fire_each ahead n f fires (k ∷ ks) = (fires k, fire_each ahead n f fires ks)

kept_none : (f : ℕ → ℤ) (test : Bool) (a : ℕ) (ks : List ℕ) (u : ℤ) → ¬ (f a ≡ u) → IsNoneOf (map f ks) u → IsNoneOf (map f (cond test (a ∷ ks) ks)) u
kept_none f true a ks u other rest = (other, rest)
kept_none f false a ks u other rest = rest

kept_different : (f : ℕ → ℤ) (test : Bool) (a : ℕ) (ks : List ℕ) → IsNoneOf (map f ks) (f a) → AreDifferent (map f ks) → AreDifferent (map f (cond test (a ∷ ks) ks))
kept_different f true a ks none rest = (none, rest)
kept_different f false a ks none rest = rest

none_of : (ahead : ℤ → ℤ) (n : ℤ) (f : ℕ → ℤ) → Firing ahead n f → ShowsMinutes ahead n → (test : ℕ → Bool) (j a m : ℕ) → j < a → a + m ≤ 1_440 → IsNoneOf (map f (filter test (range_with_len a m))) (f j)
none_of ahead n f fires shown test j a zero lt most = tt
none_of ahead n f fires shown test j a (suc m) lt most =
    let rest = none_of ahead n f fires shown test j (a + 1) m (omega (arith, lt)) (omega (arith, most)) in
    kept_none f (test a) a (filter test (range_with_len (a + 1) m)) (f j)
    (apart ahead n j a (f j) (f a) shown lt (omega (arith, most)) ((fires j (f j)).1 refl) ((fires a (f a)).1 refl)) rest

different : (ahead : ℤ → ℤ) (n : ℤ) (f : ℕ → ℤ) → Firing ahead n f → ShowsMinutes ahead n → (test : ℕ → Bool) (a m : ℕ) → a + m ≤ 1_440 → AreDifferent (map f (filter test (range_with_len a m)))
different ahead n f fires shown test a zero most = tt
different ahead n f fires shown test a (suc m) most =
    kept_different f (test a) a (filter test (range_with_len (a + 1) m))
    (none_of ahead n f fires shown test a (a + 1) m (omega arith) (omega (arith, most)))
    (different ahead n f fires shown test (a + 1) m (omega (arith, most)))

pub day_fires : (s : FieldSets) (ahead : ℤ → ℤ) → ((u : ℤ) → IsOffset (ahead u)) → (n : ℤ) → ShowsMinutes ahead n → (fired : List ℤ) × FireOnceEach ahead n (planned_minutes s n) fired × AreDifferent fired
unfolding planned_minutes
day_fires s ahead offsets n shown =
    let f : ℕ → ℤ = λ k. (one_firing ahead offsets (epoch_second (minute_of_day n k))).0 in
    let fires : Firing ahead n f = λ k. (one_firing ahead offsets (epoch_second (minute_of_day n k))).1 in (
      map f (planned_minutes s n),
      fire_each ahead n f fires (planned_minutes s n),
      different ahead n f fires shown (λ k. is_due s (minute_of_day n k)) 0 1_440 (omega arith),
    )

-- ---- and a schedule is due at the beginning of minutes alone

whole_minute : (s : FieldSets) (m : Moment) → IsMoment m → is_due s m ≡ true → (k : ℕ) × (k < 1_440) × (m ≡ minute_of_day m.date k)
unfolding is_due
whole_minute s m is due =
    let parts = and_parts (is_day s m.date) (is_minute s (m.time.second / 60) && (m.time.second % 60 == 0 && m.time.fraction == 0)) due in
    let begins = and_parts (is_minute s (m.time.second / 60)) (m.time.second % 60 == 0 && m.time.fraction == 0) parts.1 in
    let both = and_parts (m.time.second % 60 == 0) (m.time.fraction == 0) begins.1 in
    let whole : m.time.second % 60 ≡ 0 = grind (arith, nat_tests, both.0) in
    let none : m.time.fraction ≡ 0 = grind (arith, nat_tests, both.1) in
    let second : m.time.second ≡ 60 * (m.time.second / 60) = omega (arith, whole) in
    let time : ℕ → ℕ → TimeOfDay = λ a b. record { second = a; fraction = b } in
    let in_day = is.time.second in (
      m.time.second / 60,
      omega (arith, in_day),
      ap (λ a. moment m.date (time a m.time.fraction)) second ∙ ap (λ b. moment m.date (time (60 * (m.time.second / 60)) b)) none,
    )

first_kept : (test : Bool) (a : ℕ) (ks : List ℕ) → test ≡ true → Contains (cond test (a ∷ ks) ks) a
first_kept true a ks h = Contains-append_left (a ∷ []) ks a (Contains-push [] a)
first_kept false a ks h = absurd (true≢false (sym h))

rest_kept : (test : Bool) (a : ℕ) (ks : List ℕ) (x : ℕ) → Contains ks x → Contains (cond test (a ∷ ks) ks) x
rest_kept true a ks x h = Contains-append_right (a ∷ []) ks x h
rest_kept false a ks x h = h

filter_keeps : (test : ℕ → Bool) (a m k : ℕ) → a ≤ k → k < a + m → test k ≡ true → Contains (filter test (range_with_len a m)) k
filter_keeps test a zero k low high h = absurd (omega (arith, low, high))
filter_keeps test a (suc m) k low high h = elim (leb_tells (a + 1) k) [
  | inl later ↦ rest_kept (test a) a (filter test (range_with_len (a + 1) m)) k (filter_keeps test (a + 1) m k later.1 (omega (arith, high)) h)
  | inr same ↦
      let is : a ≡ k = omega (arith, low, same.1) in
      subst (λ x. Contains (filter test (range_with_len a (suc m))) x) is (first_kept (test a) a (filter test (range_with_len (a + 1) m)) (ap test is ∙ h))
]

pub begins_minutes : (s : FieldSets) (m : Moment) → IsMoment m → is_due s m ≡ true → (k : ℕ) × (m ≡ minute_of_day m.date k) × Contains (planned_minutes s m.date) k
unfolding planned_minutes
begins_minutes s m is due =
    let begun = whole_minute s m is due in
    (begun.0, begun.2, filter_keeps (λ k. is_due s (minute_of_day m.date k)) 0 1_440 begun.0 (omega arith) begun.1 (subst (λ x. is_due s x ≡ true) begun.2 due))
