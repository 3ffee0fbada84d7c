-- One element more of a column, and what stands in one for a date and for none.
use Rattle.std.proofs.Common.{◌≡◌, ℕ, ◌+◌, ◌<◌, Bool, true, false, ◌&&◌, cond, if◌then◌else◌, List, length, get_or, refl, sym, ap, arith, ℤ, pos, neg_ℤ, ◌^◌, ◌+ℤ◌, ◌-ℤ◌, ◌<ℤ◌, Some, None, inl, inr}
use Rattle.std.specs.Prelude.{slice_set}
use Rattle.std.specs.Option.{option_map}
use Rattle.std.proofs.lemmas.Bool.{cases_lt}
use Rattle.std.proofs.lemmas.Option.{cond_some, none-some}
use Rattle.std.proofs.lemmas.List.{get_or-set_other, get_or-set_same}
use Rattle.chrono_calendar.specs.Days.{date_of_day, is_date}
use Rattle.chrono_calendar.proofs.Dates.{is_date-fact, is_date-test}
use Rattle.chrono_calendar.proofs.Signed.{signed}
use Rattle.chrono_calendar.proofs.NamedDates.{date_of_day-None, date_of_day-Some, none-date_of_day, some-date_of_day}
use Rattle.chrono_business.specs.OpenDays.{Closed, is_open, open_days_signed}
use Rattle.chrono_business.specs.KnownYears.{is_known}
use Rattle.chrono_business.specs.declared.known_years.KnownYears.{KnownYears}
use Rattle.numbers_c.specs.Answers.{or_none}
use Rattle.layers_c.specs.OpenDayColumns.{between_entry, least_days, from_date32_entry, open_entry, to_date32_entry}
use Rattle.layers_c.specs.OpenDayColumnsWithin.{open_within_entry}

pub element-more : {Y : Type 0} (p : ℕ → Y → Type 0) (y : Y) (out : List Y) (i : ℕ) (z : Y) → i < length out → ((k : ℕ) → k < i → p k (get_or out k y))
    → p i z → (k : ℕ) → k < i + 1 → p k (get_or (slice_set out i z) k y)
element-more p y out i z within before now k below = elim (cases_lt k i) [
  | inl less ↦ rw (get_or-set_other out i k z y (omega (arith, less))) (before k less)
  | inr more ↦ let same : k ≡ i = omega (arith, more, below) in rw (same, get_or-set_same out i z y within) now
]

-- a date passes the test, and another number does not
there : (n d : ℤ) → Some d ≡ date_of_day n → is_date n ≡ true
there n d e = is_date-test n (some-date_of_day n d e).0

not-there : (n : ℤ) → None ≡ date_of_day n → is_date n ≡ false
not-there n e = by-cases (is_date n) refl
  where
    by-cases : (b : Bool) → is_date n ≡ b → is_date n ≡ false
    by-cases true found = absurd (none-date_of_day n e (is_date-fact n found))
    by-cases false missing = missing

pub open-there : (c : Closed) (n d : ℤ) (b : Bool) → Some d ≡ date_of_day n → b ≡ is_open c d → cond b 1 0 ≡ open_entry c n
open-there c n d b e is = rw (there n d e, is, (some-date_of_day n d e).1) refl

pub open-none : (c : Closed) (n : ℤ) → None ≡ date_of_day n → 0 ≡ open_entry c n
open-none c n e = rw (not-there n e) refl

pub between-there : (c : Closed) (n m d e : ℤ) → Some d ≡ date_of_day n → Some e ≡ date_of_day m → open_days_signed c d e ≡ between_entry c n m
between-there c n m d e from to = rw (there n d from, there m e to, (some-date_of_day n d from).1, (some-date_of_day m e to).1) refl

pub between-no_from : (c : Closed) (n m : ℤ) → None ≡ date_of_day n → least_days ≡ between_entry c n m
between-no_from c n m e = rw (not-there n e) refl

pub between-no_to : (c : Closed) (n m : ℤ) → None ≡ date_of_day m → least_days ≡ between_entry c n m
between-no_to c n m e = by-cases (is_date n) (not-there m e)
  where
    by-cases : (b : Bool) → is_date m ≡ false → least_days ≡ (cond (b && is_date m) (open_days_signed c n m) least_days)
    by-cases true missing = rw missing refl
    by-cases false missing = refl

-- days since 1970
pub late_date32 : (days : ℤ) → pos 95_026_236 <ℤ days → neg_ℤ (pos (2 ^ 31)) ≡ from_date32_entry days
late_date32 days late = ap or_none (date_of_day-None (days +ℤ pos 719_163) (λ date. omega (arith, signed, date.1, late)))

pub to_date32-there : (n d : ℤ) → Some d ≡ date_of_day n → n -ℤ pos 719_163 ≡ to_date32_entry n
to_date32-there n d e = ap (λ o. or_none (option_map (λ m. m -ℤ pos 719_163) o)) (sym (date_of_day-Some n (some-date_of_day n d e).0))

-- the same where the holidays of some years are known
pub open_within-there : (years : KnownYears) (c : Closed) (n d : ℤ) (b : Bool) → Some d ≡ date_of_day n
    → Some b ≡ (if is_known years d then Some (is_open c d) else None) → cond b 1 0 ≡ open_within_entry years c n
open_within-there years c n d b e is =
    let answer = cond_some (is_known years d) (is_open c d) b (sym is) in
    rw (there n d e, ← (some-date_of_day n d e).1, answer.0, answer.1) refl

pub open_within-other : (years : KnownYears) (c : Closed) (n d : ℤ) → Some d ≡ date_of_day n
    → None ≡ (if is_known years d then Some (is_open c d) else None) → 2 ≡ open_within_entry years c n
open_within-other years c n d e is = rw (there n d e, ← (some-date_of_day n d e).1, not-known (is_known years d) is) refl
  where
    not-known : (known : Bool) → None ≡ (if known then Some (is_open c d) else None) → known ≡ false
    not-known true is = absurd (none-some (is_open c d) is)
    not-known false is = refl

pub open_within-none : (years : KnownYears) (c : Closed) (n : ℤ) → None ≡ date_of_day n → 0 ≡ open_within_entry years c n
open_within-none years c n e = rw (not-there n e) refl
