-- The number of a day in a year.
use Rattle.std.proofs.Common.{◌≡◌, ℕ, zero, suc, ◌+◌, ◌-◌, ◌≤◌, ℤ, Bool, true, false, cond, ◌&&◌, ◌==◌, nat_le, get_or, slice_get, List, [], ◌∷◌, Option, Some, None, IsSome, ◌⊎◌, inl, inr, ⊎_elim, refl, sym, ap, ◌∙◌, arith}
use Rattle.std.proofs.lemmas.Bool.{cond_both, eqb-true, eqb-false}
use Rattle.std.proofs.lemmas.Bool.Decides.{nat_tests}
use Rattle.std.proofs.lemmas.Option.{cond_some, same_Some}
use Rattle.std.specs.Cmp.Derive.{both_true}
use Rattle.std.specs.Int.{IsInRange}
use Rattle.std.specs.Option.{option_map, option_or}
use Rattle.chrono_units.specs.Years.{IsYear, is_year}
use Rattle.chrono_units.specs.declared.weekday.Weekday.{Weekday}
use Rattle.chrono_calendar.specs.Days.{date_of_yo, day_number_of_yo, day_number_of_ymd, is_ordinal_name}
use Rattle.chrono_calendar.specs.Weeks.{date_of_nth_weekday, days_with_weekday}
use Rattle.chrono_calendar.proofs.Dates.{is_year-test}
use Rattle.chrono_calendar.proofs.GivenWeekdays.{first_four, given_nth_weekday}
use Rattle.zone_rule.specs.Changes.{day_in_year, nth_or_last}
use Rattle.zone_rule.specs.RuleDays.{date_of_week, ordinal_of_julian}
use Rattle.zone_rule.specs.declared.rule_day.RuleDay.TheVariants.{Week, Julian, FromZero}

pub date_of_yo-number : (e y : ℤ) (o : ℕ) → Some e ≡ date_of_yo y o → e ≡ day_number_of_yo y o
unfolding date_of_yo
date_of_yo-number e y o h = sym ((cond_some (is_year y && is_ordinal_name y o) (day_number_of_yo y o) e (sym h)).1)

pub day_in_year-julian : (y : ℤ) (n : ℕ) → day_in_year y (Julian n) ≡ day_number_of_yo y (ordinal_of_julian y n)
unfolding day_in_year
day_in_year-julian y n = refl

pub day_in_year-from_zero : (y : ℤ) (n : ℕ) → day_in_year y (FromZero n) ≡ day_number_of_yo y (n + 1)
unfolding day_in_year
day_in_year-from_zero y n = refl

pub ordinal_of_julian-bounds : (y : ℤ) (n : ℕ) → (n ≤ ordinal_of_julian y n) × (ordinal_of_julian y n ≤ n + 1)
ordinal_of_julian-bounds y n = (grind (arith, nat_tests), grind (arith, nat_tests))

-- ---- the n-th weekday of a month

tested_some : (b : Bool) (o : Option ℤ) (e : ℤ) → cond b o None ≡ Some e → o ≡ Some e
tested_some true o e h = h
tested_some false o e h = absurd cc

tested_none : (b : Bool) (o : Option ℤ) → b ≡ true → cond b o None ≡ None → o ≡ None
tested_none true o t h = h
tested_none false o t h = absurd cc

mapped_some : (f : ℕ → ℤ) (xs : List ℕ) (i z : ℕ) (e : ℤ) → option_map f (slice_get xs i) ≡ Some e → e ≡ f (get_or xs i z)
mapped_some f [] i z e h = absurd cc
mapped_some f (x ∷ xs) zero z e h = sym (same_Some (f x) e h)
mapped_some f (x ∷ xs) (suc i) z e h = mapped_some f xs i z e h

mapped_none : (f : ℕ → ℤ) (xs : List ℕ) (i z : ℕ) → option_map f (slice_get xs i) ≡ None → get_or xs i z ≡ z
mapped_none f [] i z h = refl
mapped_none f (x ∷ xs) zero z h = absurd cc
mapped_none f (x ∷ xs) (suc i) z h = mapped_none f xs i z h

nth_weekday-number : (e y : ℤ) (m n z : ℕ) (d : Weekday) → date_of_nth_weekday y m d n ≡ Some e → e ≡ day_number_of_ymd y m (get_or (days_with_weekday y m d) (n - 1) z)
unfolding date_of_nth_weekday
nth_weekday-number e y m n z d h =
    mapped_some (λ k. day_number_of_ymd y m k) (days_with_weekday y m d) (n - 1) z e
    (tested_some (is_year y && (nat_le 1 m && nat_le m 12) && nat_le 1 n) (option_map (λ k. day_number_of_ymd y m k) (slice_get (days_with_weekday y m d) (n - 1))) e h)

nth_weekday-none : (y : ℤ) (m n z : ℕ) (d : Weekday) → IsYear y → IsInRange 1 12 m → 1 ≤ n → date_of_nth_weekday y m d n ≡ None → get_or (days_with_weekday y m d) (n - 1) z ≡ z
unfolding date_of_nth_weekday
nth_weekday-none y m n z d year month first h =
    let months : (nat_le 1 m && nat_le m 12) ≡ true = grind (arith, nat_tests, month.0, month.1) in
    let some : nat_le 1 n ≡ true = grind (arith, nat_tests, first) in
    mapped_none (λ k. day_number_of_ymd y m k) (days_with_weekday y m d) (n - 1) z
    (tested_none (is_year y && (nat_le 1 m && nat_le m 12) && nat_le 1 n) (option_map (λ k. day_number_of_ymd y m k) (slice_get (days_with_weekday y m d) (n - 1))) (both_true (both_true (is_year-test y year) months) some) h)

first_or_second : (a b : Option ℤ) (e : ℤ) → option_or a b ≡ Some e → (a ≡ Some e) ⊎ ((a ≡ None) × (b ≡ Some e))
first_or_second None b e h = inr (refl, h)
first_or_second (Some x) b e h = inl h

last_weekday-number : (e y : ℤ) (m : ℕ) (d : Weekday) → IsYear y → IsInRange 1 12 m → option_or (date_of_nth_weekday y m d 5) (date_of_nth_weekday y m d 4) ≡ Some e → e ≡ day_number_of_ymd y m (nth_or_last (days_with_weekday y m d) 5)
last_weekday-number e y m d year month h =
    let fourth : ℕ = get_or (days_with_weekday y m d) 3 0 in
    ⊎_elim
    (λ fifth. nth_weekday-number e y m 5 fourth d fifth)
    (λ two. nth_weekday-number e y m 4 0 d two.1 ∙ ap (λ k. day_number_of_ymd y m k) (sym (nth_weekday-none y m 5 fourth d year month (omega arith) two.0)))
    (first_or_second (date_of_nth_weekday y m d 5) (date_of_nth_weekday y m d 4) e h)

pub date_of_week-number : (e y : ℤ) (m n : ℕ) (d : Weekday) → IsYear y → IsInRange 1 12 m → Some e ≡ date_of_week y m n d → e ≡ day_in_year y (Week m n d)
unfolding day_in_year
date_of_week-number e y m n d year month h =
    cond_both (n == 5) (option_or (date_of_nth_weekday y m d 5) (date_of_nth_weekday y m d 4)) (date_of_nth_weekday y m d n) (λ o. o ≡ Some e → e ≡ day_number_of_ymd y m (nth_or_last (days_with_weekday y m d) n))
    (λ is found. last_weekday-number e y m d year month found ∙ ap (λ k. day_number_of_ymd y m (nth_or_last (days_with_weekday y m d) k)) (sym (eqb-true n 5 is)))
    (λ is_not found. nth_weekday-number e y m n (get_or (days_with_weekday y m d) (n - 2) 0) d found)
    (sym h)

-- each month has a last one, and four of each
nth_weekday-exists : (y : ℤ) (m n : ℕ) (d : Weekday) → IsYear y → IsInRange 1 12 m → IsInRange 1 4 n → IsSome (date_of_nth_weekday y m d n)
nth_weekday-exists y m n d year month four =
    (given_nth_weekday (date_of_nth_weekday y m d n) y m n d refl).0.1 (year, month, first_four y m n d four)

second_exists : (a b : Option ℤ) → IsSome b → IsSome (option_or a b)
second_exists None b some = some
second_exists (Some x) b some = refl

pub date_of_week-exists : (o : Option ℤ) (y : ℤ) (m n : ℕ) (d : Weekday) → IsYear y → IsInRange 1 12 m → IsInRange 1 5 n → o ≡ date_of_week y m n d → IsSome o
date_of_week-exists o y m n d year month week h =
    rw h (cond_both (n == 5) (option_or (date_of_nth_weekday y m d 5) (date_of_nth_weekday y m d 4)) (date_of_nth_weekday y m d n) (λ o. IsSome o)
    (λ is. second_exists (date_of_nth_weekday y m d 5) (date_of_nth_weekday y m d 4) (nth_weekday-exists y m 4 d year month (omega arith, omega arith)))
    (λ is_not. nth_weekday-exists y m n d year month (week.0, omega (arith, week.1, eqb-false n 5 is_not))))
