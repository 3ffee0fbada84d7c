-- The places of a period's passing days, of which BYSETPOS names some.
use Rattle.std.proofs.Common.{◌≡◌, ℕ, ◌+◌, ◌-◌, ◌<◌, ◌≤◌, Bool, true, false, cond, ◌||◌, refl, sym, ap, ◌∙◌, arith, ℤ, pos, ◌+ℤ◌, ◌-ℤ◌, ◌≤ℤ◌, ◌<ℤ◌, int_le, unsigned_abs}
use Rattle.std.proofs.lemmas.Bool.{and_right, or_parts}
use Rattle.chrono_datetime.specs.Days.{IsDate, day_of, days_before_year, is_date, month_of, ordinal_of, year_of}
use Rattle.chrono_datetime.specs.MonthMoves.{month_first_of, month_last_of, month_length_of}
use Rattle.chrono_datetime.specs.Recurrence.{count_between}
use Rattle.chrono_datetime.specs.Years.{year_length}
use Rattle.chrono_datetime.specs.Weekday.{days_since}
use Rattle.chrono_datetime.specs.Weeks.{week_first_of, weekday_of}
use Rattle.chrono_datetime.specs.declared.Weekday.{Weekday}
use Rattle.chrono_datetime.proofs.Names.{ordinal_name_of-number}
use Rattle.chrono_datetime.proofs.CountBetween.{count_between-sum}
use Rattle.chrono_datetime.proofs.MonthDays.{day_of-bounds, later_in_month}
use Rattle.chrono_datetime.proofs.NamedDates.{number-ordinal_name}
use Rattle.chrono_datetime.proofs.Signed.{signed}
use Rattle.chrono_datetime.proofs.WeekDays.{week_first_of-only, week_first_of-place}
use Rattle.chrono_sets.specs.FiniteSets.{FiniteSet, has, is_empty}
use Rattle.chrono_sets.proofs.Members.{has-none}
use Rattle.chrono_rules.specs.ByParts.{date_passes, on_year_day, passes}
use Rattle.chrono_rules.specs.Instances.{in_interval, in_positions, is_member, not_after}
use Rattle.chrono_rules.specs.RuleParts.{lacks_positions}
use Rattle.chrono_rules.specs.Periods.{period_end, period_first}
use Rattle.chrono_rules.specs.declared.rule.Frequency.{Frequency}
use Rattle.chrono_rules.specs.declared.rule.Frequency.TheVariants.{Daily, Monthly, Weekly, Yearly}
use Rattle.chrono_rules.specs.declared.rule.Rule.{Rule}
use Rattle.chrono_rules.proofs.Counts.{counted-next}
use Rattle.chrono_rules.proofs.Months.{same_length}
use Rattle.chrono_rules.proofs.Passed.{no_pass}

-- ---- days of one period

pub same_week : (n d : ℤ) (start : Weekday) → n ≤ℤ d → d <ℤ (n +ℤ (pos 7 -ℤ pos (days_since (weekday_of n) start))) → week_first_of d start ≡ week_first_of n start
same_week n d start low high =
    let m : ℤ = week_first_of n start in
    let place = week_first_of-place n m start refl in
    sym (week_first_of-only d m start place.0 (omega (arith, signed, place.1, low)) (omega (arith, signed, high)))

record StandIn (n d : ℤ) (k : ℕ) : Type 0 where
  year : year_of d ≡ year_of n
  month : month_of d ≡ month_of n
  number : d ≡ n +ℤ pos k
  day : day_of d ≡ day_of n + k

in_rest : (n d r : ℤ) → r ≡ pos (month_length_of n - day_of n) +ℤ pos 1 → n ≤ℤ d → d <ℤ (n +ℤ r) → StandIn n d (unsigned_abs (d -ℤ n))
in_rest n d r e low high =
    let k : ℕ = unsigned_abs (d -ℤ n) in
    let at : d ≡ n +ℤ pos k = omega (arith, signed, low) in
    let there = later_in_month n d k at (omega (arith, signed, e, low, high, day_of-bounds n)) in
    record { year = there.month.0; month = there.month.1; number = at; day = there.day }

pub same_month_first : (n d r : ℤ) → r ≡ pos (month_length_of n - day_of n) +ℤ pos 1 → n ≤ℤ d → d <ℤ (n +ℤ r) → month_first_of d ≡ month_first_of n
same_month_first n d r e low high =
    let it = in_rest n d r e low high in
    omega (arith, signed, it.number, it.day, day_of-bounds n, day_of-bounds d)

pub same_month_end : (n d r : ℤ) → r ≡ pos (month_length_of n - day_of n) +ℤ pos 1 → n ≤ℤ d → d <ℤ (n +ℤ r) → month_last_of d +ℤ pos 1 ≡ month_last_of n +ℤ pos 1
same_month_end n d r e low high =
    let it = in_rest n d r e low high in
    omega (arith, signed, it.number, it.day, day_of-bounds n, day_of-bounds d, same_length n d it.year it.month)

pub same_year_first : (n d r : ℤ) → r ≡ pos (month_length_of n - day_of n) +ℤ pos 1 → n ≤ℤ d → d <ℤ (n +ℤ r) → (d +ℤ pos 1) -ℤ pos (ordinal_of d) ≡ (n +ℤ pos 1) -ℤ pos (ordinal_of n)
same_year_first n d r e low high =
    let it = in_rest n d r e low high in
    omega (arith, signed, number-ordinal_name n, number-ordinal_name d, ap (λ (y : ℤ). days_before_year y) it.year)

pub same_year_end : (n d r : ℤ) → r ≡ pos (month_length_of n - day_of n) +ℤ pos 1 → n ≤ℤ d → d <ℤ (n +ℤ r) → ((d +ℤ pos 1) +ℤ pos (year_length (year_of d))) -ℤ pos (ordinal_of d) ≡ ((n +ℤ pos 1) +ℤ pos (year_length (year_of n))) -ℤ pos (ordinal_of n)
same_year_end n d r e low high =
    let it = in_rest n d r e low high in
    omega (arith, signed, same_year_first n d r e low high, ap (λ (y : ℤ). year_length y) it.year)

-- ---- a day stands in its period

pub from_period : (f : Frequency) (w : Weekday) (n : ℤ) → period_first f w n ≤ℤ n
unfolding period_first
from_period Daily w n = omega (arith, signed)
from_period Weekly w n = omega (arith, signed)
from_period Monthly w n = omega (arith, signed, day_of-bounds n)
from_period Yearly w n = omega (arith, signed, (ordinal_name_of-number n).exists)

pub to_period : (f : Frequency) (w : Weekday) (n : ℤ) → n <ℤ period_end f w n
unfolding period_end
to_period Daily w n = omega (arith, signed)
to_period Weekly w n = omega (arith, signed, (week_first_of-place n (week_first_of n w) w refl).2)
to_period Monthly w n = omega (arith, signed, day_of-bounds n)
to_period Yearly w n = omega (arith, signed, (ordinal_name_of-number n).exists)

-- ---- places that a set has

not_at : (s : FiniteSet) (b : Bool) (k place : ℕ) → is_empty s ≡ b → (b ≡ false → k ≡ place) → has s k ≡ false → has s place ≡ false
not_at s true k place is same none = has-none s place is
not_at s false k place is same none = ap (has s) (sym (same refl)) ∙ none

-- ---- a day whose places are none that BYSETPOS names

pub front_place : (p : ℤ → Bool) (first day e : ℤ) (before passed : ℕ) → first ≤ℤ day → day ≤ℤ e → before ≡ count_between p first day → passed ≡ count_between p day e → p e ≡ true → before + passed + 1 ≡ count_between p first (e +ℤ pos 1)
front_place p first day e before passed low le before-is passed-is is =
    let here : passed + 1 ≡ count_between p day (e +ℤ pos 1) = counted-next p day e (e +ℤ pos 1) passed (passed + 1) passed-is (ap (λ b. passed + cond b 1 0) (sym is)) le refl in
    omega (arith, here, before-is, count_between-sum p first day (e +ℤ pos 1) low (omega (arith, signed, le)))

back_place : (p : ℤ → Bool) (day e end : ℤ) (left passed : ℕ) → day ≤ℤ e → e ≤ℤ end → left ≡ count_between p day end → passed ≡ count_between p day e → left - passed ≡ count_between p e end
back_place p day e end left passed le high left-is passed-is = omega (arith, left-is, passed-is, count_between-sum p day e end le high)

pub before_or_at : (a b : ℤ) → a <ℤ b → a ≤ℤ b
before_or_at a b less = omega (arith, signed, less)

pub off_position : (r : Rule) (start day e : ℤ) (before left passed : ℕ) → lacks_positions r ≡ false → day ≤ℤ e → period_first r.frequency r.week_start e ≡ period_first r.frequency r.week_start day → period_end r.frequency r.week_start e ≡ period_end r.frequency r.week_start day → (is_empty r.positions ≡ false → before ≡ count_between (date_passes r start) (period_first r.frequency r.week_start day) day) → (is_empty r.positions_from_end ≡ false → left ≡ count_between (date_passes r start) day (period_end r.frequency r.week_start day)) → passed ≡ count_between (date_passes r start) day e → date_passes r start e ≡ true → (has r.positions (before + passed + 1) || has r.positions_from_end (left - passed)) ≡ false → is_member r start e ≡ false
unfolding in_positions is_member
off_position r start day e before left passed named le first end before-is left-is passed-is is none =
    let p = date_passes r start in
    let low : period_first r.frequency r.week_start day ≤ℤ day = from_period r.frequency r.week_start day in
    let high : e ≤ℤ period_end r.frequency r.week_start day = rw end at (before_or_at e _ (to_period r.frequency r.week_start e)) in
    let places = or_parts _ _ none in
    let a : has r.positions (count_between p (period_first r.frequency r.week_start e) (e +ℤ pos 1)) ≡ false =
    rw first (not_at r.positions (is_empty r.positions) (before + passed + 1) _ refl (λ some. front_place p _ day e before passed low le (before-is some) passed-is is) places.0) in
    let b : has r.positions_from_end (count_between p e (period_end r.frequency r.week_start e)) ≡ false =
    rw end (not_at r.positions_from_end (is_empty r.positions_from_end) (left - passed) _ refl (λ some. back_place p day e _ left passed le high (left-is some) passed-is) places.1) in
    let off : in_positions r start e ≡ false = rw (named, a, b) refl in
    and_right (int_le start e) _ (and_right (not_after r.end e) _ (and_right (in_interval r start e) _ (and_right (passes r start e) _ off)))

-- of a date the test for dates says what the rule says
pub date_passes-is : (r : Rule) (start e : ℤ) → IsDate e → date_passes r start e ≡ passes r start e
unfolding date_passes
date_passes-is r start e date =
    let is : is_date e ≡ true = grind (arith, signed, date.0, date.1) in
    rw is refl

-- ---- a day that does not pass, or has no place that is named

pub off_day : (r : Rule) (start day e : ℤ) (before left passed : ℕ) (b : Bool) → passes r start e ≡ b → IsDate e → lacks_positions r ≡ false → day ≤ℤ e → period_first r.frequency r.week_start e ≡ period_first r.frequency r.week_start day → period_end r.frequency r.week_start e ≡ period_end r.frequency r.week_start day → (is_empty r.positions ≡ false → before ≡ count_between (date_passes r start) (period_first r.frequency r.week_start day) day) → (is_empty r.positions_from_end ≡ false → left ≡ count_between (date_passes r start) day (period_end r.frequency r.week_start day)) → passed ≡ count_between (date_passes r start) day e → (passes r start e ≡ true → (has r.positions (before + passed + 1) || has r.positions_from_end (left - passed)) ≡ false) → is_member r start e ≡ false
off_day r start day e before left passed false out date named le first end before-is left-is passed-is none = no_pass r start e out
off_day r start day e before left passed true is date named le first end before-is left-is passed-is none =
    off_position r start day e before left passed named le first end before-is left-is passed-is (date_passes-is r start e date ∙ is) (none is)

-- a day of the same month that BYYEARDAY does not name, from either end of the year
pub off_year_day : (r : Rule) (n d : ℤ) (k back : ℕ) → n ≤ℤ d → d <ℤ (n +ℤ pos k) → k ≤ month_length_of n - day_of n + 1 → back ≡ year_length (year_of n) - ordinal_of n + 1
    → ((j : ℕ) → j < k → has r.year_days (ordinal_of n + j) ≡ false) → ((j : ℕ) → j < k → has r.year_days_from_end (back - j) ≡ false) → on_year_day r d ≡ false
unfolding on_year_day
off_year_day r n d k back low high few back-is front end =
    let j = unsigned_abs (d -ℤ n) in
    let rest = pos (month_length_of n - day_of n) +ℤ pos 1 in
    let within : d <ℤ (n +ℤ rest) = omega (arith, signed, high, few) in
    let first = same_year_first n d rest refl low within in
    let last = same_year_end n d rest refl low within in
    let here = (ordinal_name_of-number n).exists in
    let there = (ordinal_name_of-number d).exists in
    let lt : j < k = omega (arith, signed, low, high) in
    let place : ordinal_of d ≡ ordinal_of n + j = omega (arith, signed, low, first) in
    let behind : year_length (year_of d) - ordinal_of d + 1 ≡ back - j = omega (arith, signed, low, first, last, here, there, back-is) in
    let a : has r.year_days (ordinal_of d) ≡ false = ap (has r.year_days) place ∙ front j lt in
    let b : has r.year_days_from_end (year_length (year_of d) - ordinal_of d + 1) ≡ false = ap (has r.year_days_from_end) behind ∙ end j lt in
    rw (a, b) refl
