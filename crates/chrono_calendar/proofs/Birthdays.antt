-- The birthdays of a day: in which year each lies, and how many of them have come.
use Rattle.std.proofs.Common.{◌≡◌, ◌↔◌, ℕ, ◌+◌, ◌-◌, ◌*◌, ◌<◌, ◌≤◌, ◌||◌, inl, inr, Bool, true, false, cond, nat_le, nat_lt, min, Some, None, refl, sym, ap, ◌∙◌, arith, ℤ, pos, ◌+ℤ◌, ◌≤ℤ◌, ◌<ℤ◌, unsigned_abs, int_lt, ◌*ℤ◌}
use Rattle.std.proofs.lemmas.Bool.{cases_order, cases_lt, false≢true}
use Rattle.std.proofs.lemmas.Bool.Decides.{nat_tests}
use Rattle.std.proofs.lemmas.Int.{ints, by_lt_z}
use Rattle.std.specs.Int.{IsInRange}
use Rattle.chrono_text.proofs.AnswerLemmas.{no_one, the_one}
use Rattle.chrono_units.specs.Years.{is_leap_year, month_length_in}
use Rattle.chrono_calendar.specs.Days.{days_of_months_in, IsOrdinalName, ordinal_of_ymd, year_of, ordinal_of, month_of, day_of}
use Rattle.chrono_calendar.specs.MonthMoves.{month_index, month_index_of, month_length_of}
use Rattle.chrono_calendar.specs.Recurrence.{IsLeapDay, date_every}
use Rattle.chrono_calendar.specs.YearsBetween.{birthday, years_between}
use Rattle.chrono_text.proofs.Signed.{signed}
use Rattle.chrono_calendar.proofs.Tests.{passes_below, passes_below-at}
use Rattle.chrono_calendar.proofs.Names.{day_number-lt_year, ordinal_name_of-number}
use Rattle.chrono_calendar.proofs.NamedDates.{calendar_name-exists, day_of-small, number-calendar_name}
use Rattle.chrono_calendar.proofs.Order.{month_ends, named_in_year}
use Rattle.chrono_calendar.proofs.Months.{IsMonthAndDay, month_length_in-bounds}
use Rattle.chrono_calendar.proofs.MonthOrder.{before_month, day_at-exists, month_index-parts, month_of-range}
use Rattle.chrono_calendar.proofs.MonthMoveLaws.{month_move-parts}
use Rattle.chrono_calendar.proofs.WholeYears.{place, years_counted, years_between-None, years_between-Some}

-- ---- the place of a birthday in its year

-- no month is longer than in a leap year
length_at_most : (leap : Bool) (m : ℕ) → month_length_in leap m ≤ month_length_in true m
length_at_most true m = omega arith
length_at_most false m = grind arith

-- with so many days a month ends in its year, and no more than a day into the next month
ends_by : Bool → ℕ → ℕ → Bool
ends_by leap m k =
    nat_le k m || nat_le (days_of_months_in leap m + month_length_in true (m + 1)) (days_of_months_in leap k + 1)

ends_by-tested : (leap : Bool) → passes_below (λ m. passes_below (λ k. ends_by leap m k) 12) 12 ≡ true
unfolding passes_below days_of_months_in ends_by
ends_by-tested true = refl
ends_by-tested false = refl

longest_ends : (leap : Bool) (m k : ℕ) → m < k → k < 12 → days_of_months_in leap m + month_length_in true (m + 1) ≤ days_of_months_in leap k + 1
unfolding ends_by
longest_ends leap m k h l =
    let passed = passes_below-at (λ j. ends_by leap m j) 12 (passes_below-at (λ i. passes_below (λ j. ends_by leap i j) 12) 12 (ends_by-tested leap) m (omega arith)) k l in
    grind (arith, nat_tests)

in_year : (leap : Bool) → passes_below (λ m. nat_le (days_of_months_in leap m + month_length_in true (m + 1)) (cond leap 366 365)) 12 ≡ true
unfolding passes_below days_of_months_in
in_year true = refl
in_year false = refl

longest_in_year : (leap : Bool) (m : ℕ) → m < 12 → days_of_months_in leap m + month_length_in true (m + 1) ≤ cond leap 366 365
longest_in_year leap m h =
    let passed = passes_below-at (λ i. nat_le (days_of_months_in leap i + month_length_in true (i + 1)) (cond leap 366 365)) 12 (in_year leap) m h in
    grind (arith, nat_tests)

-- the length of the month of the day base, in any year
day_of-longest : (base : ℤ) → day_of base ≤ month_length_in true (month_of base)
day_of-longest base =
    omega (arith, (calendar_name-exists base).1, length_at_most (is_leap_year (year_of base)) (month_of base))

-- a birthday is a day of the year so many years later
abbrev ordinal_in : ℤ → ℤ → ℕ
ordinal_in base y = ordinal_of_ymd y (month_of base) (day_of base)

birthday-exists : (base y : ℤ) → IsOrdinalName y (ordinal_in base y)
birthday-exists base y =
    let name = calendar_name-exists base in
    let back : month_of base - 1 + 1 ≡ month_of base = omega (arith, name.0) in
    let ends = rw back at (longest_in_year (is_leap_year y) (month_of base - 1) (omega (arith, name.0))) in
    (omega (arith, name.1), omega (arith, ends, day_of-longest base))

-- so a day of an earlier year is before it, and one of a later year after it
before_year : (n base : ℤ) (k : ℕ) → year_of n <ℤ (year_of base +ℤ pos k) → n <ℤ birthday base k
before_year n base k lt =
    let y = year_of base +ℤ pos k in
    let named = ordinal_name_of-number n in
    omega (arith, signed, named.number, day_number-lt_year (year_of n) y (ordinal_of n) (ordinal_in base y) named.exists (birthday-exists base y) lt)

after_year : (n base : ℤ) (k : ℕ) → (year_of base +ℤ pos k) <ℤ year_of n → birthday base k <ℤ n
after_year n base k lt =
    let y = year_of base +ℤ pos k in
    let named = ordinal_name_of-number n in
    omega (arith, signed, named.number, day_number-lt_year y (year_of n) (ordinal_in base y) (ordinal_of n) (birthday-exists base y) named.exists lt)

-- ---- in that year

-- the o-th day, the day q of the month p, comes before the day d of the month m if it is named so
ordinal-before : (leap : Bool) (p q m d o : ℕ) → IsMonthAndDay leap p q o → IsInRange 1 12 m → 1 ≤ d → d < 32 → p * 32 + q < m * 32 + d → o < days_of_months_in leap (m - 1) + d
ordinal-before leap p q m d o h g first last lt =
    elim (cases_order p m) [
      | inl same ↦ omega (arith, same, h.ordinal, lt, ap (λ i. days_of_months_in leap (i - 1)) same)
      | inr apart ↦ elim apart [
        | inl less ↦
            let back : p - 1 + 1 ≡ p = omega (arith, h.month) in
            let ends = rw back at (month_ends leap (p - 1) (m - 1) (omega (arith, less, h.month)) (omega (arith, g))) in
            omega (arith, ends, h.ordinal, h.day, first)
        | inr more ↦ absurd (omega (arith, more, lt, last))
      ]
    ]

-- and else not, be it the day after the end of the month m
ordinal-after : (leap : Bool) (p q m d o : ℕ) → IsMonthAndDay leap p q o → IsInRange 1 12 m → 1 ≤ d → d ≤ month_length_in true m → m * 32 + d ≤ p * 32 + q → days_of_months_in leap (m - 1) + d ≤ o
ordinal-after leap p q m d o h g first last le =
    elim (cases_order m p) [
      | inl same ↦ omega (arith, same, h.ordinal, le, ap (λ i. days_of_months_in leap (i - 1)) same)
      | inr apart ↦ elim apart [
        | inl less ↦
            let back : m - 1 + 1 ≡ m = omega (arith, g) in
            let ends = rw back at (longest_ends leap (m - 1) (p - 1) (omega (arith, less, g)) (omega (arith, h.month))) in
            omega (arith, ends, h.ordinal, h.day, last)
        | inr more ↦ absurd (omega (arith, more, le, h.day, month_length_in-bounds leap p, first))
      ]
    ]

before_birthday : (n base : ℤ) (k : ℕ) → year_of n ≡ year_of base +ℤ pos k → place n < place base → n <ℤ birthday base k
before_birthday n base k e lt =
    let day = day_of-small base in
    let less = ordinal-before (is_leap_year (year_of n)) (month_of n) (day_of n) (month_of base) (day_of base) (ordinal_of n) (named_in_year n) (month_of-range base) day.0 day.1 lt in
    rw (← e) (omega (arith, signed, less, (ordinal_name_of-number n).number))

from_birthday : (n base : ℤ) (k : ℕ) → year_of n ≡ year_of base +ℤ pos k → place base ≤ place n → birthday base k ≤ℤ n
from_birthday n base k e le =
    let day = day_of-small base in
    let more = ordinal-after (is_leap_year (year_of n)) (month_of n) (day_of n) (month_of base) (day_of base) (ordinal_of n) (named_in_year n) (month_of-range base) day.0 (day_of-longest base) le in
    rw (← e) (omega (arith, signed, more, (ordinal_name_of-number n).number))

-- ---- how many have come

abbrev pub HasCome : ℤ → ℤ → ℕ → Type 0
HasCome n base k = (birthday base k ≤ℤ n) × (n <ℤ birthday base (k + 1))

counted-come : (n base : ℤ) (k : ℕ) (e : Bool) → nat_lt (place n) (place base) ≡ e → pos k ≡ years_counted (year_of n) (year_of base) e → HasCome n base k
counted-come n base k true t h =
    let lt : place n < place base = grind (arith, nat_tests, t) in (
      omega (arith, signed, after_year n base k (omega (arith, signed, h))),
      before_birthday n base (k + 1) (omega (arith, signed, h)) lt,
    )
counted-come n base k false t h =
    let ge : place base ≤ place n = grind (arith, nat_tests, t) in
    (from_birthday n base k (omega (arith, signed, h)) ge, before_year n base (k + 1) (omega (arith, signed, h)))

-- the year of a day between two birthdays is that of one of them
come_year : (n base : ℤ) (k : ℕ) → HasCome n base k → ((year_of base +ℤ pos k) ≤ℤ year_of n) × (year_of n ≤ℤ (year_of base +ℤ pos (k + 1)))
come_year n base k h = (
  by_lt_z (year_of n) (year_of base +ℤ pos k) (λ lt. absurd (omega (arith, signed, h.0, before_year n base k lt))) (λ ge. ge),
  by_lt_z (year_of base +ℤ pos (k + 1)) (year_of n) (λ lt. absurd (omega (arith, signed, h.1, after_year n base (k + 1) lt))) (λ ge. ge),
)

come-counted : (n base : ℤ) (k : ℕ) (e : Bool) → nat_lt (place n) (place base) ≡ e → HasCome n base k → pos k ≡ years_counted (year_of n) (year_of base) e
come-counted n base k true t h =
    let lt : place n < place base = grind (arith, nat_tests, t) in
    let year = come_year n base k h in
    by_lt_z (year_of base +ℤ pos k) (year_of n) (λ more. omega (arith, signed, more, year.1))
    (λ le. let same : year_of n ≡ year_of base +ℤ pos k = omega (arith, signed, le, year.0) in absurd (omega (arith, signed, h.0, before_birthday n base k same lt)))
come-counted n base k false t h =
    let ge : place base ≤ place n = grind (arith, nat_tests, t) in
    let year = come_year n base k h in
    by_lt_z (year_of n) (year_of base +ℤ pos (k + 1)) (λ less. omega (arith, signed, less, year.0))
    (λ le. let same : year_of n ≡ year_of base +ℤ pos (k + 1) = omega (arith, signed, le, year.1) in absurd (omega (arith, signed, h.1, from_birthday n base (k + 1) same ge)))

-- the whole years are as many as birthdays have come
pub years_between-come : (n base : ℤ) (k : ℕ) → (years_between n base ≡ Some k) ↔ HasCome n base k
years_between-come n base k =
    let earlier = nat_lt (place n) (place base) in
    let years = years_counted (year_of n) (year_of base) earlier in (
      λ h.
          by_lt_z years (pos 0) (λ lt. absurd (no_one (years_between n base) k (years_between-None n base lt) h))
          (λ ge.
          let i : ℕ = unsigned_abs years in
          let counted : pos i ≡ years = omega (arith, signed, ge) in
          let same : pos k ≡ years = ap pos (sym (the_one (years_between n base) i k (years_between-Some n base i counted) h)) ∙ counted in
          counted-come n base k earlier refl same),
      λ h. sym (years_between-Some n base k (come-counted n base k earlier refl h)),
    )

pub birthday-start : (base : ℤ) → birthday base 0 ≡ base
birthday-start base =
    let same : year_of base +ℤ pos 0 ≡ year_of base = omega (arith, signed) in
    rw same (number-calendar_name base)

-- none has come before the day itself
pub years_between-before : (n base : ℤ) → (years_between n base ≡ None) ↔ (n <ℤ base)
unfolding years_between
years_between-before n base = (
  λ h.
      by_lt_z n base (λ lt. lt)
      (λ ge. let test : int_lt n base ≡ false = grind (arith, ints, ge) in absurd (some_none _ (rw test at h))),
  λ lt. let test : int_lt n base ≡ true = grind (arith, ints, lt) in rw test refl,
)
  where
    some_none : (k : ℕ) → Some k ≡ None → ⊥
    some_none k e = cc

-- ---- and the same day by a move of whole years

moved-number : (base e : ℤ) (k : ℕ) → date_every base (pos 12) k ≡ Some e → (birthday base k +ℤ pos (day_of e) ≡ e +ℤ pos (day_of base)) × (month_of e ≡ month_of base) × (day_of e ≡ min (day_of base) (month_length_of e))
unfolding before_month
moved-number base e k h =
    let parts = month_move-parts base (pos 12 *ℤ pos k) e h in
    let y = year_of base +ℤ pos k in
    let index : month_index_of e ≡ month_index y (month_of base) = omega (arith, signed, parts.0) in
    let months = month_index-parts y (month_of base) (month_of-range base) in
    let number = rw (index, months.0, months.1) at (day_at-exists e).number in
    let month : month_of e ≡ month_of base = omega (arith, signed, index, month_of-range e, month_of-range base) in
    (omega (arith, signed, number), month, parts.1)

-- the day of the month is another only for 29 February in a common year
clipped : (kind leap : Bool) (m d : ℕ) → 1 ≤ d → d ≤ month_length_in kind m → month_length_in leap m < d → (m ≡ 2) × (d ≡ 29) × (leap ≡ false)
clipped kind true m d first fits short = absurd (omega (arith, fits, short, length_at_most kind m))
clipped true false m d first fits short = (grind arith, grind arith, refl)
clipped false false m d first fits short = absurd (omega (arith, fits, short))

pub birthday-same : (base e : ℤ) (k : ℕ) → date_every base (pos 12) k ≡ Some e → (IsLeapDay base → is_leap_year (year_of e) ≡ true) → birthday base k ≡ e
birthday-same base e k h leap =
    let moved = moved-number base e k h in
    let length : month_length_of e ≡ month_length_in (is_leap_year (year_of e)) (month_of base) = ap (month_length_in (is_leap_year (year_of e))) moved.1 in
    elim (cases_lt (month_length_of e) (day_of base)) [
      | inl short ↦
          let at = clipped (is_leap_year (year_of base)) (is_leap_year (year_of e)) (month_of base) (day_of base) (day_of-small base).0 (calendar_name-exists base).1.1 (omega (arith, short, length)) in
          absurd (false≢true (sym at.2 ∙ leap (at.0, at.1)))
      | inr fits ↦ omega (arith, signed, moved.0, moved.2, fits)
    ]

pub birthday-leap_day : (base e : ℤ) (k : ℕ) → date_every base (pos 12) k ≡ Some e → IsLeapDay base → is_leap_year (year_of e) ≡ false → birthday base k ≡ e +ℤ pos 1
birthday-leap_day base e k h leap common =
    let moved = moved-number base e k h in
    let length : month_length_of e ≡ 28 = ap (month_length_in (is_leap_year (year_of e))) (moved.1 ∙ leap.0) ∙ ap (λ b. month_length_in b 2) common in
    omega (arith, signed, moved.0, moved.2, length, leap.1)
