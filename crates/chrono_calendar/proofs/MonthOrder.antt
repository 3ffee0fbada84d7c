-- The months in a row: each begins where the one before it ends, so days lie as their months do, and then as their days.
use Rattle.std.proofs.Common.{◌≡◌, ℕ, zero, suc, ◌+◌, ◌-◌, ◌≤◌, ◌⊎◌, inl, inr, min, Bool, refl, sym, ap, arith, ℤ, pos, ◌+ℤ◌, ◌≤ℤ◌, ◌<ℤ◌}
use Rattle.std.proofs.lemmas.Int.{by_lt_z}
use Rattle.std.proofs.lemmas.Bool.{cases_order}
use Rattle.std.specs.Int.{IsInRange}
use Rattle.chrono_units.specs.Years.{is_leap_year, year_length, month_length_in, month_length}
use Rattle.chrono_calendar.specs.Days.{days_of_months_in, days_of_months, days_before_year, IsOrdinalName, day_number_of_yo, year_of, ordinal_of, month_of, day_of}
use Rattle.chrono_calendar.specs.MonthMoves.{month_index, month_index_of, year_of_month_index, month_of_month_index, day_number_in_month}
use Rattle.chrono_text.proofs.Signed.{signed}
use Rattle.chrono_calendar.proofs.Years.{days_before_year-next}
use Rattle.chrono_calendar.proofs.Names.{ordinal_name_of-number, year_of-number, ordinal_of-number}
use Rattle.chrono_calendar.proofs.Months.{days_of_months_in-year, month_length_in-bounds, ordinal_within, month_of_ordinal-exists, month_of_ordinal-unique}
use borrow.Author.Differences.{up, down}

-- the length of the month with the index i
unfoldable pub length_at : ℤ → ℕ
length_at i = month_length (year_of_month_index i) (month_of_month_index i)

-- the number of the day before that month
unfoldable pub before_month : ℤ → ℤ
before_month i = days_before_year (year_of_month_index i) +ℤ pos (days_of_months (year_of_month_index i) (month_of_month_index i - 1))

-- a month has 28 to 31 days
pub length_at-bounds : (i : ℤ) → (28 ≤ length_at i) × (length_at i ≤ 31)
unfolding length_at
length_at-bounds i = month_length_in-bounds (is_leap_year (year_of_month_index i)) (month_of_month_index i)

-- the year and the month of an index are those that it was made of
pub month_index-parts : (y : ℤ) (m : ℕ) → IsInRange 1 12 m → (year_of_month_index (month_index y m) ≡ y) × (month_of_month_index (month_index y m) ≡ m)
month_index-parts y m h = (omega (arith, signed), omega (arith, signed))

pub month_of_month_index-bounds : (i : ℤ) → IsInRange 1 12 (month_of_month_index i)
month_of_month_index-bounds i = (omega (arith, signed), omega (arith, signed))

-- an index is made of its year and its month
month_index-whole : (i : ℤ) → month_index (year_of_month_index i) (month_of_month_index i) ≡ i
month_index-whole i = omega (arith, signed)

-- the days of the months before one and its own are those of the months up to it
days_of_months_in-own : (leap : Bool) (n : ℕ) → days_of_months_in leap n + month_length_in leap (suc n) ≡ days_of_months_in leap (suc n)
unfolding days_of_months_in
days_of_months_in-own leap n = refl

-- a month ends where the next one begins
pub days_of_months_in-next : (leap : Bool) (m : ℕ) → 1 ≤ m → days_of_months_in leap (m + 1 - 1) ≡ days_of_months_in leap (m - 1) + month_length_in leap m
days_of_months_in-next leap m h =
    let back : suc (m - 1) ≡ m = omega arith in
    let ahead : m + 1 - 1 ≡ m = omega arith in
    let next = rw back at (sym (days_of_months_in-own leap (m - 1))) in
    rw ahead next

year_length-months : (y : ℤ) → year_length y ≡ days_of_months y 12
year_length-months y = sym (days_of_months_in-year (is_leap_year y))

days_of_months_in-zero : (leap : Bool) → days_of_months_in leap 0 ≡ 0
unfolding days_of_months_in
days_of_months_in-zero leap = refl

-- the next month of the same year, and of the next year
before_month-in_year : (i j y : ℤ) (m : ℕ) → year_of_month_index i ≡ y → month_of_month_index i ≡ m → year_of_month_index j ≡ y → month_of_month_index j ≡ m + 1 → 1 ≤ m → before_month j ≡ before_month i +ℤ pos (length_at i)
unfolding before_month length_at
before_month-in_year i j y m a b c d h =
    let next = days_of_months_in-next (is_leap_year y) m h in
    rw (a, b, c, d) (omega (arith, signed, next))

before_month-new_year : (i j y : ℤ) → year_of_month_index i ≡ y → month_of_month_index i ≡ 12 → year_of_month_index j ≡ y +ℤ pos 1 → month_of_month_index j ≡ 1 → before_month j ≡ before_month i +ℤ pos (length_at i)
unfolding before_month length_at
before_month-new_year i j y a b c d =
    let last = days_of_months_in-own (is_leap_year y) 11 in
    let none = days_of_months_in-zero (is_leap_year (y +ℤ pos 1)) in
    let whole = year_length-months y in
    rw (a, b, c, d) (omega (arith, signed, last, none, whole, days_before_year-next y (y +ℤ pos 1) refl))

-- the next month begins where this one ends
pub before_month-next : (i j : ℤ) → j ≡ i +ℤ pos 1 → before_month j ≡ before_month i +ℤ pos (length_at i)
before_month-next i j e =
    elim (cases_order (month_of_month_index i) 12) [
      | inl same ↦ before_month-new_year i j (year_of_month_index i) refl same (omega (arith, signed)) (omega (arith, signed))
      | inr apart ↦ elim apart [
        | inl lt ↦ before_month-in_year i j (year_of_month_index i) (month_of_month_index i) refl refl (omega (arith, signed)) (omega (arith, signed)) (omega (arith, month_of_month_index-bounds i))
        | inr gt ↦ absurd (omega (arith, month_of_month_index-bounds i))
      ]
    ]

-- a later month begins after this one has ended
before_month-steps : (i j : ℤ) (k : ℕ) → j ≡ i +ℤ pos (suc k) → (before_month i +ℤ pos (length_at i)) ≤ℤ before_month j
before_month-steps i j zero e = omega (arith, signed, before_month-next i j e)
before_month-steps i j (suc k) e =
    omega (arith, signed, before_month-steps i (i +ℤ pos (suc k)) k refl, before_month-next (i +ℤ pos (suc k)) j (omega (arith, signed)))

before_month-later : (i j : ℤ) → i <ℤ j → (before_month i +ℤ pos (length_at i)) ≤ℤ before_month j
before_month-later i j h = before_month-steps i j (up j + down i - (down j + up i + 1)) (omega (arith, signed))

-- the day n lies in its month, at its day of the month
pub record IsDayAt (n i : ℤ) (d : ℕ) : Type 0 where
  pub number : n ≡ before_month i +ℤ pos d
  pub first : 1 ≤ d
  pub last : d ≤ length_at i

pub day_at-exists : (n : ℤ) → IsDayAt n (month_index_of n) (day_of n)
unfolding before_month length_at
day_at-exists n =
    let named = ordinal_name_of-number n in
    let divided = month_of_ordinal-exists (is_leap_year (year_of n)) (ordinal_of n) named.exists in
    let parts = month_index-parts (year_of n) (month_of n) divided.month in
    record {
      number = rw (parts.0, parts.1) (omega (arith, signed, named.number, divided.ordinal));
      first = divided.day.0;
      last = rw (parts.0, parts.1) divided.day.1;
    }

pub month_of-range : (n : ℤ) → IsInRange 1 12 (month_of n)
month_of-range n =
    let divided = month_of_ordinal-exists (is_leap_year (year_of n)) (ordinal_of n) (ordinal_name_of-number n).exists in
    divided.month

-- and in no other month, and at no other day of it
pub day_at-unique : (n i : ℤ) (d : ℕ) → IsDayAt n i d → (month_index_of n ≡ i) × (day_of n ≡ d)
unfolding before_month length_at
day_at-unique n i d h =
    let leap = is_leap_year (year_of_month_index i) in
    let m = month_of_month_index i in
    let o = days_of_months_in leap (m - 1) + d in
    let exists : IsOrdinalName (year_of_month_index i) o = ordinal_within leap m d (month_of_month_index-bounds i) (h.first, h.last) in
    let number : day_number_of_yo (year_of_month_index i) o ≡ n = omega (arith, signed, h.number) in
    let year = year_of-number n (year_of_month_index i) o number exists in
    let ordinal = ordinal_of-number n (year_of_month_index i) o number exists in
    let divided = month_of_ordinal-unique leap m d o (record { month = month_of_month_index-bounds i; day = (h.first, h.last); ordinal = refl }) in
    rw (year, ordinal) (rw divided.0 (month_index-whole i), divided.1)

-- days lie as their months do, and in one month as their days of the month
pub days_in_order : (n m i j : ℤ) (d p : ℕ) → IsDayAt n i d → IsDayAt m j p → n ≤ℤ m → (i <ℤ j) ⊎ ((i ≡ j) × (d ≤ p))
days_in_order n m i j d p h k le =
    by_lt_z i j (λ lt. inl lt)
    (λ ge. by_lt_z j i (λ lt. absurd (omega (arith, signed, before_month-later j i lt, h.number, h.first, k.number, k.last, le)))
    (λ ge2. let same : i ≡ j = omega (arith, signed) in inr (same, omega (arith, signed, ap before_month same, h.number, k.number, le))))

-- a day of an earlier month is earlier
pub earlier_month : (n m i j : ℤ) (d p : ℕ) → IsDayAt n i d → IsDayAt m j p → i <ℤ j → n <ℤ m
earlier_month n m i j d p h k lt = omega (arith, signed, before_month-later i j lt, h.number, h.last, k.number, k.first)

-- the day that a move to the month with the index i comes to lies there
pub day_at-moved : (i : ℤ) (d : ℕ) → 1 ≤ d → IsDayAt (day_number_in_month i d) i (min d (length_at i))
unfolding before_month length_at
day_at-moved i d h = record {
  number = omega (arith, signed);
  first = omega (arith, length_at-bounds i);
  last = omega arith;
}
