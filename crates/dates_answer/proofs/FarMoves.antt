-- What moves a date too far leads out of the calendar.
use Rattle.dates_answer.proofs.Ground.{◌≡◌, ◌⊎◌, inl, inr, None, arith, ℤ, pos, neg_ℤ, ◌+ℤ◌, ◌*ℤ◌, ◌≤ℤ◌, ◌<ℤ◌, rules, w64, by_lt_z, FitsSigned, IsDate, date_of_day, month_index_of, month_move, signed, date_of_day-SomeIff, year_of-range, Unit, Days, Weeks, Months, Years, unit_move}
use Rattle.chrono_calendar.proofs.MonthOrder.{month_of-range}
use Rattle.chrono_calendar.proofs.Moves.{year_of_month_index-below, year_of_month_index-above, month_move-None}

-- more of a unit than there are days
abbrev pub IsFar : ℤ → Type 0
IsFar z = (z <ℤ neg_ℤ (pos 200_000_000)) ⊎ (pos 200_000_000 <ℤ z)

-- the months of dates
pub month_index_of-range : (n : ℤ) → IsDate n → (neg_ℤ (pos 3_145_716) ≤ℤ month_index_of n) × (month_index_of n ≤ℤ pos 3_145_715)
month_index_of-range n date =
    let year = year_of-range n date in
    let month = month_of-range n in
    (omega (arith, signed, year.0, month.0), omega (arith, signed, year.1, month.1))

days_far : (n z : ℤ) → IsDate n → IsFar z → None ≡ date_of_day (n +ℤ z)
days_far n z date (inl far) = date_of_day-SomeIff None (n +ℤ z) (λ is. omega (arith, signed, date.0, date.1, far, is.0, is.1))
days_far n z date (inr far) = date_of_day-SomeIff None (n +ℤ z) (λ is. omega (arith, signed, date.0, date.1, far, is.0, is.1))

months_far : (n z : ℤ) → IsDate n → IsFar z → None ≡ month_move n z
months_far n z date (inl far) = month_move-None n z (λ is. year_of_month_index-below (month_index_of n +ℤ z) (omega (arith, signed, (month_index_of-range n date).1, far)) is)
months_far n z date (inr far) = month_move-None n z (λ is. year_of_month_index-above (month_index_of n +ℤ z) (omega (arith, signed, (month_index_of-range n date).0, far)) is)

pub unit_move_far : (unit : Unit) (n z : ℤ) → IsDate n → IsFar z → None ≡ unit_move unit n z
unfolding unit_move
unit_move_far Days n z date far = days_far n z date far
unit_move_far Weeks n z date (inl far) = days_far n (pos 7 *ℤ z) date (inl (omega (arith, signed, far)))
unit_move_far Weeks n z date (inr far) = days_far n (pos 7 *ℤ z) date (inr (omega (arith, signed, far)))
unit_move_far Months n z date far = months_far n z date far
unit_move_far Years n z date (inl far) = months_far n (pos 12 *ℤ z) date (inl (omega (arith, signed, far)))
unit_move_far Years n z date (inr far) = months_far n (pos 12 *ℤ z) date (inr (omega (arith, signed, far)))

-- a number that no machine word holds leads out of the calendar
is_far : (z : ℤ) → ¬ (FitsSigned w64 z) → IsFar z
is_far z none =
    by_lt_z z (neg_ℤ (pos 200_000_000)) (λ low. inl low) (λ above. by_lt_z (pos 200_000_000) z (λ high. inr high) (λ below. absurd (none (search (rules, above, below)))))

pub none_so_far : (unit : Unit) (n z : ℤ) → IsDate n → ¬ (FitsSigned w64 z) → None ≡ unit_move unit n z
none_so_far unit n z date none = unit_move_far unit n z date (is_far z none)
