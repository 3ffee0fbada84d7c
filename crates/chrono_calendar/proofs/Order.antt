-- Days compare by their names as they do by their numbers.
use Rattle.std.proofs.Common.{◌≡◌, ℕ, ◌+◌, ◌-◌, ◌<◌, ◌≤◌, Bool, true, false, ◌||◌, nat_le, refl, sym, ap, arith, ℤ, ◌<ℤ◌, int_cmp}
use Rattle.std.proofs.lemmas.Bool.Decides.{nat_tests}
use Rattle.std.proofs.lemmas.Cmp.{ranked, int_ranked}
use Rattle.std.specs.Cmp.{int_cmp_is}
use Rattle.std.specs.Ordering.{nat_cmp, ordering_then, MatchOrdering}
use Rattle.std.specs.declared.cmp.Ordering.{Ordering}
use Rattle.std.specs.declared.cmp.Ordering.TheVariants.{Less, Equal, Greater}
use Rattle.chrono_units.specs.Years.{is_leap_year, month_length_in}
use Rattle.chrono_calendar.specs.Days.{days_before_year, days_of_months_in, year_of, ordinal_of, month_of, day_of}
use Rattle.chrono_calendar.specs.Order.{ordinal_cmp, calendar_cmp}
use Rattle.chrono_text.proofs.Signed.{signed}
use Rattle.chrono_calendar.proofs.Tests.{passes_below, passes_below-at}
use Rattle.chrono_calendar.proofs.Months.{IsMonthAndDay, month_of_ordinal-exists}
use Rattle.chrono_calendar.proofs.Names.{ordinal_name_of-number, day_number-lt_year}

-- an earlier month of a year ends before a later one begins
ends_before : Bool → ℕ → ℕ → Bool
ends_before leap m k = nat_le k m || nat_le (days_of_months_in leap m + month_length_in leap (m + 1)) (days_of_months_in leap k)

ends_before-tested : (leap : Bool) → passes_below (λ m. passes_below (λ k. ends_before leap m k) 12) 12 ≡ true
unfolding passes_below days_of_months_in ends_before
ends_before-tested true = refl
ends_before-tested false = refl

pub month_ends : (leap : Bool) (m k : ℕ) → m < k → k < 12 → days_of_months_in leap m + month_length_in leap (m + 1) ≤ days_of_months_in leap k
unfolding ends_before
month_ends leap m k h l =
    let passed = passes_below-at (λ j. ends_before leap m j) 12 (passes_below-at (λ i. passes_below (λ j. ends_before leap i j) 12) 12 (ends_before-tested leap) m (omega arith)) k l in
    grind (arith, nat_tests)

-- so an earlier month of a year means an earlier day of it
earlier_by_month : (leap : Bool) (m d o n e p : ℕ) → IsMonthAndDay leap m d o → IsMonthAndDay leap n e p → m < n → o < p
earlier_by_month leap m d o n e p h k lt =
    let back : m - 1 + 1 ≡ m = omega (arith, h.month) in
    let ends = rw back at (month_ends leap (m - 1) (n - 1) (omega (arith, h.month)) (omega (arith, k.month))) in
    omega (arith, h.day, h.ordinal, k.day, k.ordinal)

-- and within one month the days of the year lie as the days of the month
within_month : (leap : Bool) (m d o n e p : ℕ) → IsMonthAndDay leap m d o → IsMonthAndDay leap n e p → m ≡ n → (d < e → o < p) × (d ≡ e → o ≡ p)
within_month leap m d o n e p h k same =
    let starts = ap (λ i. days_of_months_in leap (i - 1)) same in
    (λ lt. omega (arith, starts, h.ordinal, k.ordinal), λ eq. omega (arith, starts, h.ordinal, k.ordinal))

-- the leap flag of a day's year may be that of another year that is the same
with_flag : (a b : Bool) (m d o : ℕ) → a ≡ b → IsMonthAndDay b m d o → IsMonthAndDay a m d o
with_flag a b m d o e h = rw e h

-- a pair is ranked by its first parts, and where these are equal by its second ones
pub ranked_then : (P Q R P' Q' R' : Type 0) (o p : Ordering) → MatchOrdering o P' Q' R' → (P' → P) → (R' → R) → (Q' → MatchOrdering p P Q R) → MatchOrdering (ordering_then o p) P Q R
ranked_then P Q R P' Q' R' Less p given f g k = f given
ranked_then P Q R P' Q' R' Equal p given f g k = k given
ranked_then P Q R P' Q' R' Greater p given f g k = g given

-- what each rank of the second parts says
pub ranked_by : (P Q R P' Q' R' : Type 0) (o : Ordering) → MatchOrdering o P' Q' R' → (P' → P) → (Q' → Q) → (R' → R) → MatchOrdering o P Q R
ranked_by P Q R P' Q' R' Less given f g k = f given
ranked_by P Q R P' Q' R' Equal given f g k = g given
ranked_by P Q R P' Q' R' Greater given f g k = k given

-- days of one year lie as their places there
same_year : (n m : ℤ) → year_of n ≡ year_of m → (ordinal_of n < ordinal_of m → n <ℤ m) × (ordinal_of n ≡ ordinal_of m → n ≡ m)
same_year n m e =
    let before = ap days_before_year e in (
      λ lt. omega (arith, signed, before, (ordinal_name_of-number n).number, (ordinal_name_of-number m).number),
      λ eq. omega (arith, signed, before, (ordinal_name_of-number n).number, (ordinal_name_of-number m).number),
    )

-- a day of an earlier year is earlier
pub earlier_year : (n m : ℤ) → year_of n <ℤ year_of m → n <ℤ m
earlier_year n m lt =
    let h = ordinal_name_of-number n in
    let k = ordinal_name_of-number m in
    omega (arith, signed, h.number, k.number, day_number-lt_year (year_of n) (year_of m) (ordinal_of n) (ordinal_of m) h.exists k.exists lt)

pub ordinal_cmp-numbers : (n m : ℤ) → ordinal_cmp n m ≡ int_cmp n m
unfolding ordinal_cmp
ordinal_cmp-numbers n m =
    int_cmp_is n m (ordering_then (int_cmp (year_of n) (year_of m)) (nat_cmp (ordinal_of n) (ordinal_of m)))
    (ranked_then _ _ _ _ _ _ (int_cmp (year_of n) (year_of m)) (nat_cmp (ordinal_of n) (ordinal_of m)) (int_ranked (year_of n) (year_of m) (int_cmp (year_of n) (year_of m)) refl) (earlier_year n m) (earlier_year m n)
    (λ e. ranked_by _ _ _ _ _ _ (nat_cmp (ordinal_of n) (ordinal_of m)) (ranked (ordinal_of n) (ordinal_of m) (nat_cmp (ordinal_of n) (ordinal_of m)) refl) (same_year n m e).0 (same_year n m e).1 (same_year m n (sym e)).0))

-- the month and the day of the month of a day, in its year
pub named_in_year : (n : ℤ) → IsMonthAndDay (is_leap_year (year_of n)) (month_of n) (day_of n) (ordinal_of n)
named_in_year n = month_of_ordinal-exists (is_leap_year (year_of n)) (ordinal_of n) (ordinal_name_of-number n).exists

-- two days of one year, each with its month and its day there
beside : (n m : ℤ) → year_of n ≡ year_of m → IsMonthAndDay (is_leap_year (year_of n)) (month_of m) (day_of m) (ordinal_of m)
beside n m e = with_flag (is_leap_year (year_of n)) (is_leap_year (year_of m)) (month_of m) (day_of m) (ordinal_of m) (ap is_leap_year e) (named_in_year m)

pub earlier_month : (n m : ℤ) → year_of n ≡ year_of m → month_of n < month_of m → n <ℤ m
earlier_month n m e lt =
    (same_year n m e).0 (earlier_by_month (is_leap_year (year_of n)) (month_of n) (day_of n) (ordinal_of n) (month_of m) (day_of m) (ordinal_of m) (named_in_year n) (beside n m e) lt)

-- days of one month lie as their places there
pub same_month : (n m : ℤ) → year_of n ≡ year_of m → month_of n ≡ month_of m → (day_of n < day_of m → n <ℤ m) × (day_of n ≡ day_of m → n ≡ m)
same_month n m e f =
    let within = within_month (is_leap_year (year_of n)) (month_of n) (day_of n) (ordinal_of n) (month_of m) (day_of m) (ordinal_of m) (named_in_year n) (beside n m e) f in
    (λ lt. (same_year n m e).0 (within.0 lt), λ eq. (same_year n m e).1 (within.1 eq))

pub calendar_cmp-numbers : (n m : ℤ) → calendar_cmp n m ≡ int_cmp n m
unfolding calendar_cmp
calendar_cmp-numbers n m =
    int_cmp_is n m (ordering_then (int_cmp (year_of n) (year_of m)) (ordering_then (nat_cmp (month_of n) (month_of m)) (nat_cmp (day_of n) (day_of m))))
    (ranked_then _ _ _ _ _ _ (int_cmp (year_of n) (year_of m)) (ordering_then (nat_cmp (month_of n) (month_of m)) (nat_cmp (day_of n) (day_of m))) (int_ranked (year_of n) (year_of m) (int_cmp (year_of n) (year_of m)) refl) (earlier_year n m) (earlier_year m n)
    (λ e. ranked_then _ _ _ _ _ _ (nat_cmp (month_of n) (month_of m)) (nat_cmp (day_of n) (day_of m)) (ranked (month_of n) (month_of m) (nat_cmp (month_of n) (month_of m)) refl) (earlier_month n m e) (earlier_month m n (sym e))
    (λ f. ranked_by _ _ _ _ _ _ (nat_cmp (day_of n) (day_of m)) (ranked (day_of n) (day_of m) (nat_cmp (day_of n) (day_of m)) refl) (same_month n m e f).0 (same_month n m e f).1 (same_month m n (sym e) (sym f)).0)))
