-- Which names of days the calendar has, told of the nearest year and month, and what stands in a column for a name.
use Rattle.std.proofs.Common.{◌≡◌, ◌∙◌, ℕ, ℤ, pos, neg_ℤ, nat_le, ◌&&◌, Bool, true, false, cond, Some, None, ap, refl, arith}
use Rattle.std.proofs.lemmas.Bool.Decides.{nat_tests}
use Rattle.std.specs.Int.{IsInRange}
use Rattle.chrono_units.specs.Years.{IsYear, is_year, month_length}
use Rattle.chrono_calendar.specs.Days.{day_number_of_ymd, is_calendar_name, date_of_ymd}
use Rattle.chrono_calendar.proofs.Dates.{is_year-fact}
use Rattle.chrono_columns.specs.Columns.{number_entry, date_entry}

pub a_month : (m : ℕ) → (nat_le 1 m && nat_le m 12) ≡ true → IsInRange 1 12 m
a_month m e = (grind (arith, nat_tests, e), grind (arith, nat_tests, e))

-- the day is asked of another month only where the year or the month is none
same_test : (a b : Bool) (length other d : ℕ) → (a ≡ true → b ≡ true → length ≡ other) → ((a && b) && (nat_le 1 d && nat_le d length)) ≡ (a && (b && (nat_le 1 d && nat_le d other)))
same_test true true length other d same = ap (λ (l : ℕ). nat_le 1 d && nat_le d l) (same refl refl)
same_test true false length other d same = refl
same_test false b length other d same = refl

pub name_test : (y near : ℤ) (m month d length : ℕ) (a b e : Bool) → a ≡ is_year y → b ≡ (nat_le 1 m && nat_le m 12) → e ≡ (nat_le 1 d && nat_le d length) → (IsYear y → near ≡ y) → (IsInRange 1 12 m → month ≡ m) → length ≡ month_length near month → ((a && b) && e) ≡ (is_year y && is_calendar_name y m d)
name_test y near m month d length a b e p q r years months long =
    rw (p, q, r) (same_test (is_year y) (nat_le 1 m && nat_le m 12) length (month_length y m) d
    (λ s t. long ∙ ap (λ z. month_length z month) (years (is_year-fact y s)) ∙ ap (λ (k : ℕ). month_length y k) (months (a_month m t))))

pub name-there : (n y : ℤ) (m d : ℕ) → true ≡ (is_year y && is_calendar_name y m d) → n ≡ day_number_of_ymd y m d → n ≡ date_entry y m d
unfolding date_entry date_of_ymd
name-there n y m d there e = e ∙ ap (λ b. number_entry (cond b (Some (day_number_of_ymd y m d)) None)) there

pub name-none : (y : ℤ) (m d : ℕ) → false ≡ (is_year y && is_calendar_name y m d) → neg_ℤ (pos 2_147_483_648) ≡ date_entry y m d
unfolding date_entry date_of_ymd
name-none y m d there = ap (λ b. number_entry (cond b (Some (day_number_of_ymd y m d)) None)) there
