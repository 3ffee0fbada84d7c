-- Values of the tables, so that a wrong rule does not check.
use Rattle.std.proofs.Common.{◌≡◌, ℕ, true, false, List, [], ◌∷◌, map, refl}
use Rattle.chrono_calendar.specs.Days.{days_of_months_in, month_of_ordinal, day_of_ordinal}
use Rattle.chrono_internals.specs.Tables.{leap_years_before, ol_of, mdl_of, mdl_adjustment, ol_adjustment}

leap_years : map leap_years_before (0 ∷ 1 ∷ 4 ∷ 5 ∷ 100 ∷ 104 ∷ 105 ∷ 200 ∷ 300 ∷ 400 ∷ []) ≡ 0 ∷ 1 ∷ 1 ∷ 2 ∷ 25 ∷ 25 ∷ 26 ∷ 49 ∷ 73 ∷ 97 ∷ []
unfolding leap_years_before
leap_years = refl

-- the months of a leap year and of a common year
abbrev months : List ℕ
months = 1 ∷ 2 ∷ 3 ∷ 4 ∷ 5 ∷ 6 ∷ 7 ∷ 8 ∷ 9 ∷ 10 ∷ 11 ∷ 12 ∷ []

adjustments_leap : map (λ m. mdl_adjustment (mdl_of true m 28)) months ≡ 64 ∷ 66 ∷ 72 ∷ 74 ∷ 78 ∷ 80 ∷ 84 ∷ 86 ∷ 88 ∷ 92 ∷ 94 ∷ 98 ∷ []
unfolding mdl_adjustment days_of_months_in
adjustments_leap = refl

adjustments_common : map (λ m. mdl_adjustment (mdl_of false m 28)) months ≡ 64 ∷ 66 ∷ 74 ∷ 76 ∷ 80 ∷ 82 ∷ 86 ∷ 88 ∷ 90 ∷ 94 ∷ 96 ∷ 100 ∷ []
unfolding mdl_adjustment days_of_months_in
adjustments_common = refl

-- 29 February stands in a leap year alone, and there is no 31 April
no_such_day : (mdl_adjustment (mdl_of true 2 29) ≡ 66) × (mdl_adjustment (mdl_of false 2 29) ≡ 0) × (mdl_adjustment (mdl_of true 4 31) ≡ 0)
unfolding mdl_adjustment days_of_months_in
no_such_day = (refl, refl, refl)

-- the last days, and the first entries, which no day has
last_ordinals : (ol_adjustment (ol_of true 366) ≡ 98) × (ol_adjustment (ol_of false 365) ≡ 100) × (ol_adjustment 0 ≡ 0) × (ol_adjustment 1 ≡ 0)
unfolding ol_adjustment month_of_ordinal day_of_ordinal days_of_months_in
last_ordinals = (refl, refl, refl, refl)
