-- Between which places of a year a rule's day lies.
use Rattle.std.proofs.Common.{◌≡◌, ◌∙◌, ℕ, ◌+◌, ◌-◌, ◌*◌, ◌/◌, ◌<◌, ◌≤◌, ℤ, pos, ◌+ℤ◌, ◌≤ℤ◌, Bool, true, false, ◌==◌, Option, Some, None, IsSome, refl, sym, ap, subst, arith}
use Rattle.std.specs.Int.{IsInRange}
use Rattle.std.specs.Option.{option_or}
use Rattle.std.proofs.lemmas.Bool.{cond-false, cond_both, eqb-true, ne_eqb}
use Rattle.chrono_units.specs.Years.{IsYear, is_leap_year}
use Rattle.chrono_units.specs.declared.weekday.Weekday.{Weekday}
use Rattle.chrono_calendar.specs.Days.{days_before_year, days_of_months_in, day_number_of_ymd, day_of, month_of, year_of}
use Rattle.chrono_calendar.specs.Weeks.{date_of_last_weekday, date_of_nth_weekday}
use Rattle.chrono_calendar.proofs.GivenWeekdays.{given_nth_weekday}
use Rattle.chrono_calendar.proofs.NamedDates.{day_of-small, number-calendar_name}
use Rattle.chrono_calendar.proofs.Signed.{signed}
use Rattle.chrono_calendar.proofs.Tests.{passes_below, passes_below-at}
use Rattle.zone_rule.specs.Changes.{day_in_year}
use Rattle.zone_rule.specs.RuleDays.{date_of_week, days_later, week_place}
use Rattle.zone_rule.specs.declared.rule_day.RuleDay.TheVariants.{Week}
use Rattle.zone_rule.proofs.DaysInYears.{date_of_week-exists, date_of_week-number}
use Rattle.zone_rule.proofs.LastOfAll.{months_bound}

-- ---- the days before a month, in closed form

late_test : ℕ → Bool
late_test k = (979 * (k + 3) - 2_919) / 32 + 59 == days_of_months_in false (k + 2)

late_tested : passes_below late_test 10 ≡ true
unfolding passes_below late_test days_of_months_in
late_tested = refl

late_at : (k : ℕ) → k < 10 → (979 * (k + 3) - 2_919) / 32 + 59 ≡ days_of_months_in false (k + 2)
unfolding late_test
late_at k h = eqb-true ((979 * (k + 3) - 2_919) / 32 + 59) (days_of_months_in false (k + 2)) (passes_below-at late_test 10 late_tested k h)

pub late_month : (m : ℕ) → 2 < m → m ≤ 12 → (979 * m - 2_919) / 32 + 59 ≡ days_of_months_in false (m - 1)
late_month m first last =
    let is : m - 3 + 3 ≡ m = omega (arith, first) in
    let before : m - 3 + 2 ≡ m - 1 = omega (arith, first) in
    ap (λ (k : ℕ). (979 * k - 2_919) / 32 + 59) (sym is) ∙ late_at (m - 3) (omega (arith, first, last)) ∙ ap (days_of_months_in false) before

early_test : ℕ → Bool
early_test k = 31 * k == days_of_months_in false k

early_tested : passes_below early_test 2 ≡ true
unfolding passes_below early_test days_of_months_in
early_tested = refl

pub early_month : (m : ℕ) → 1 ≤ m → m ≤ 2 → 31 * (m - 1) ≡ days_of_months_in false (m - 1)
unfolding early_test
early_month m first last = eqb-true (31 * (m - 1)) (days_of_months_in false (m - 1)) (passes_below-at early_test 2 early_tested (m - 1) (omega (arith, first, last)))

-- ---- the places of a weekday of a month

pub week_place-last : (before n : ℕ) → n ≡ 5 → week_place (n == 5) before n ≡ before + 22
week_place-last before n is = subst (λ (k : ℕ). week_place (k == 5) before k ≡ before + 22) (sym is) refl

pub week_place-nth : (before n : ℕ) → (n ≡ 5 → ⊥) → week_place (n == 5) before n ≡ before + 7 * n - 6
week_place-nth before n not = ap (λ (b : Bool). week_place b before n) (ne_eqb n 5 not)

pub later-last : (m n : ℕ) (w : Weekday) → n ≡ 5 → days_later (Week m n w) ≡ 10
later-last m n w is = subst (λ (k : ℕ). days_later (Week m k w) ≡ 10) (sym is) refl

pub later-nth : (m n : ℕ) (w : Weekday) → (n ≡ 5 → ⊥) → days_later (Week m n w) ≡ 7
later-nth m n w not = cond-false (n == 5) 10 7 (ne_eqb n 5 not)

record LiesAt (e y : ℤ) (m least most : ℕ) : Type 0 where
  year : year_of e ≡ y
  month : month_of e ≡ m
  not_before : least ≤ day_of e
  not_behind : day_of e ≤ most

nth_lies : (e y : ℤ) (m n : ℕ) (w : Weekday) → 1 ≤ n → date_of_nth_weekday y m w n ≡ Some e → LiesAt e y m (7 * n - 6) (7 * n)
nth_lies e y m n w first is =
    let given = given_nth_weekday (Some e) y m n w (sym is) in
    record { year = given.1; month = given.2; not_before = omega (arith, first, given.4.0); not_behind = given.4.1 }

either : (a b : Option ℤ) (e : ℤ) (P : Type 0) → (a ≡ Some e → P) → (b ≡ Some e → P) → option_or a b ≡ Some e → P
either None b e P f g is = g is
either (Some x) b e P f g is = f is

last_lies : (e y : ℤ) (m : ℕ) (w : Weekday) → date_of_last_weekday y m w ≡ Some e → LiesAt e y m 22 31
last_lies e y m w is =
    let small : day_of e ≤ 31 = omega (arith, (day_of-small e).1) in
    either (date_of_nth_weekday y m w 5) (date_of_nth_weekday y m w 4) e (LiesAt e y m 22 31)
    (λ fifth. let at = nth_lies e y m 5 w (omega arith) fifth in record { year = at.year; month = at.month; not_before = omega (arith, at.not_before); not_behind = small })
    (λ fourth. let at = nth_lies e y m 4 w (omega arith) fourth in record { year = at.year; month = at.month; not_before = omega (arith, at.not_before); not_behind = small })
    is

-- the day of the year y lies between two places of a common year, a day later at most
pub record LiesBetween (y day : ℤ) (m least most : ℕ) : Type 0 where
  pub not_before : (days_before_year y +ℤ pos (days_of_months_in false (m - 1) + least)) ≤ℤ day
  pub not_behind : day ≤ℤ (days_before_year y +ℤ pos (days_of_months_in false (m - 1) + most + 1))

lies_between : (e y : ℤ) (m least most : ℕ) → IsInRange 1 12 m → LiesAt e y m least most → LiesBetween y e m least most
lies_between e y m least most month at =
    let number : day_number_of_ymd y m (day_of e) ≡ e =
    ap (λ (z : ℤ). day_number_of_ymd z m (day_of e)) (sym at.year) ∙ ap (λ (k : ℕ). day_number_of_ymd (year_of e) k (day_of e)) (sym at.month) ∙ number-calendar_name e in
    let months = months_bound (is_leap_year y) (m - 1) (omega (arith, month.0, month.1)) in
    record {
      not_before = omega (arith, signed, number, months.0, at.not_before);
      not_behind = omega (arith, signed, number, months.1, at.not_behind);
    }

week_found : (o : Option ℤ) (y : ℤ) (m n least most : ℕ) (w : Weekday) → IsYear y → IsInRange 1 12 m → o ≡ date_of_week y m n w → IsSome o → ((e : ℤ) → o ≡ Some e → LiesAt e y m least most) → LiesBetween y (day_in_year y (Week m n w)) m least most
week_found None y m n least most w year month is some lies = absurd cc
week_found (Some e) y m n least most w year month is some lies =
    subst (λ (x : ℤ). LiesBetween y x m least most) (date_of_week-number e y m n w year month is) (lies_between e y m least most month (lies e refl))

pub week_between : (y : ℤ) (m n : ℕ) (w : Weekday) → IsYear y → IsInRange 1 12 m → IsInRange 1 5 n → (n ≡ 5 → ⊥) → LiesBetween y (day_in_year y (Week m n w)) m (7 * n - 6) (7 * n)
week_between y m n w year month week first =
    week_found (date_of_week y m n w) y m n (7 * n - 6) (7 * n) w year month refl (date_of_week-exists (date_of_week y m n w) y m n w year month week refl)
    (λ e is. nth_lies e y m n w week.0
    (cond_both (n == 5) (date_of_last_weekday y m w) (date_of_nth_weekday y m w n) (λ o. o ≡ Some e → date_of_nth_weekday y m w n ≡ Some e) (λ five. absurd (first (eqb-true n 5 five))) (λ _ found. found) is))

pub last_between : (y : ℤ) (m n : ℕ) (w : Weekday) → IsYear y → IsInRange 1 12 m → n ≡ 5 → LiesBetween y (day_in_year y (Week m n w)) m 22 31
last_between y m n w year month last =
    subst (λ (k : ℕ). LiesBetween y (day_in_year y (Week m k w)) m 22 31) (sym last)
    (week_found (date_of_week y m 5 w) y m 5 22 31 w year month refl (date_of_week-exists (date_of_week y m 5 w) y m 5 w year month (omega arith, omega arith) refl)
    (λ e is. last_lies e y m w is))
