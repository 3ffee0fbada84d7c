-- A set of weekdays as a number below 128, whose binary digits say of each day whether it is in the set.
use Rattle.std.specs.Prelude.{◌≡◌, ℕ, ◌<◌, ◌==◌, true}
use Rattle.std.specs.Int.{bit_at}
use Rattle.std.proofs.Common.{refl}
use Rattle.std.proofs.lemmas.Bool.{agree_below, agree_below_at, eqb-true}
use Rattle.chrono_units.specs.Weekday.{days_from_monday}
use Rattle.chrono_units.specs.WeekdaySet.{DaySet, days_where, set_number}

-- the set whose number is n
abbrev pub set_at : ℕ → DaySet
set_at n = days_where (λ d. bit_at n (days_from_monday d) == 1)

-- tried at each of the 128 numbers
numbers_agree : agree_below (λ n. set_number (set_at n) == n) (λ n. true) 128 ≡ true
unfolding set_number
numbers_agree = refl

-- the number of the set whose number is n
pub set_number-set_at : (n : ℕ) → n < 128 → set_number (set_at n) ≡ n
set_number-set_at n h = eqb-true _ _ (agree_below_at (λ n. set_number (set_at n) == n) (λ n. true) 128 n numbers_agree h)
