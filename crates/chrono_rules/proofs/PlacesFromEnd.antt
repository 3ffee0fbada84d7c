-- The places of a period's passing days, counted from its end.
use Rattle.std.proofs.Common.{◌≡◌, ℕ, ◌+◌, ◌-◌, ◌<◌, ◌≤◌, nat_lt, Bool, true, false, cond, ◌&&◌, refl, sym, ap, ◌∙◌, arith, ℤ, pos, ◌+ℤ◌, ◌≤ℤ◌, ◌<ℤ◌, int_le}
use Rattle.std.proofs.lemmas.Int.{by_lt_z}
use Rattle.std.proofs.lemmas.Bool.Decides.{nat_tests}
use Rattle.std.proofs.lemmas.Bool.{and_right}
use Rattle.chrono_datetime.specs.Days.{IsDate, day_of, days_before_year}
use Rattle.chrono_datetime.specs.MonthMoves.{month_length_of}
use Rattle.chrono_datetime.specs.Recurrence.{count_between}
use Rattle.chrono_datetime.specs.Years.{year_length}
use Rattle.chrono_datetime.specs.Weeks.{week_first_of}
use Rattle.chrono_datetime.specs.declared.Weekday.{Weekday}
use Rattle.chrono_datetime.proofs.CountBetween.{count_between-first, count_between-sum}
use Rattle.chrono_datetime.proofs.MonthDays.{day_of-bounds}
use Rattle.chrono_datetime.proofs.NamedDates.{number-ordinal_name}
use Rattle.chrono_datetime.proofs.Signed.{signed}
use Rattle.chrono_datetime.proofs.WeekDays.{week_first_of-only, week_first_of-place}
use Rattle.chrono_sets.specs.FiniteSets.{FiniteSet, has, is_empty}
use Rattle.chrono_sets.proofs.Members.{has-none}
use Rattle.chrono_rules.specs.ByParts.{date_passes, passes}
use Rattle.chrono_rules.specs.Instances.{in_interval, in_positions, is_member, not_after}
use Rattle.chrono_rules.specs.RuleParts.{lacks_positions}
use Rattle.chrono_rules.specs.Periods.{period_end, period_first}
use Rattle.chrono_rules.specs.declared.rule.Frequency.{Frequency}
use Rattle.chrono_rules.specs.declared.rule.Frequency.TheVariants.{Daily, Monthly, Weekly, Yearly}
use Rattle.chrono_rules.specs.declared.rule.Rule.{Rule}
use Rattle.chrono_rules.proofs.Passed.{no_pass}
use Rattle.chrono_rules.proofs.YearsOfDates.{same_year}
use Rattle.chrono_rules.proofs.PlacesInPeriods.{date_passes-is, from_period, front_place, same_month_end, same_month_first}

-- ---- all days to the end of a period have that end

pub same_first : (f : Frequency) (w : Weekday) (n d : ℤ) → n ≤ℤ d → d <ℤ period_end f w n → IsDate d → period_first f w d ≡ period_first f w n
unfolding period_first period_end
same_first Daily w n d low high date = omega (arith, signed, low, high)
same_first Weekly w n d low high date =
    let m : ℤ = week_first_of n w in
    let place = week_first_of-place n m w refl in
    sym (week_first_of-only d m w place.0 (omega (arith, signed, place.1, low)) (omega (arith, signed, high)))
same_first Monthly w n d low high date =
    same_month_first n d (pos (month_length_of n - day_of n) +ℤ pos 1) refl low (omega (arith, signed, high, day_of-bounds n))
same_first Yearly w n d low high date =
    let year = same_year n d low high date in
    omega (arith, signed, number-ordinal_name n, number-ordinal_name d, ap (λ (y : ℤ). days_before_year y) year)

pub same_end : (f : Frequency) (w : Weekday) (n d : ℤ) → n ≤ℤ d → d <ℤ period_end f w n → IsDate d → period_end f w d ≡ period_end f w n
unfolding period_end
same_end Daily w n d low high date = omega (arith, signed, low, high)
same_end Weekly w n d low high date =
    let m : ℤ = week_first_of n w in
    let place = week_first_of-place n m w refl in
    ap (λ (m : ℤ). m +ℤ pos 7) (sym (week_first_of-only d m w place.0 (omega (arith, signed, place.1, low)) (omega (arith, signed, high))))
same_end Monthly w n d low high date =
    same_month_end n d (pos (month_length_of n - day_of n) +ℤ pos 1) refl low (omega (arith, signed, high, day_of-bounds n))
same_end Yearly w n d low high date =
    let year = same_year n d low high date in
    omega (arith, signed, number-ordinal_name n, number-ordinal_name d, ap (λ (y : ℤ). days_before_year y) year, ap (λ (y : ℤ). year_length y) year)

-- ---- days behind the last place that is named from the front

front_passed : (r : Rule) (start day d : ℤ) (before last : ℕ) (b : Bool) → is_empty r.positions ≡ b → day ≤ℤ d → period_first r.frequency r.week_start d ≡ period_first r.frequency r.week_start day → (b ≡ false → before ≡ count_between (date_passes r start) (period_first r.frequency r.week_start day) day) → last ≤ before → ((k : ℕ) → last < k → has r.positions k ≡ false) → date_passes r start d ≡ true → has r.positions (count_between (date_passes r start) (period_first r.frequency r.week_start d) (d +ℤ pos 1)) ≡ false
front_passed r start day d before last true zero low first before-is full none is = has-none r.positions _ zero
front_passed r start day d before last false some low first before-is full none is =
    let p = date_passes r start in
    let here = front_place p (period_first r.frequency r.week_start day) day d before (count_between p day d) (from_period r.frequency r.week_start day) low (before-is refl) refl is in
    let count : count_between p (period_first r.frequency r.week_start d) (d +ℤ pos 1) ≡ before + count_between p day d + 1 = ap (λ (m : ℤ). count_between p m (d +ℤ pos 1)) first ∙ sym here in
    none _ (omega (arith, count, full))

pub behind_front : (r : Rule) (start day d : ℤ) (before last : ℕ) → day ≤ℤ d → d <ℤ period_end r.frequency r.week_start day → IsDate d → (is_empty r.positions ≡ false → before ≡ count_between (date_passes r start) (period_first r.frequency r.week_start day) day) → last ≤ before → ((k : ℕ) → last < k → has r.positions k ≡ false) → date_passes r start d ≡ true → has r.positions (count_between (date_passes r start) (period_first r.frequency r.week_start d) (d +ℤ pos 1)) ≡ false
behind_front r start day d before last low high date before-is full none is =
    front_passed r start day d before last (is_empty r.positions) refl low (same_first r.frequency r.week_start day d low high date) before-is full none is

-- ---- a day that has neither place

abbrev pub front_of : Rule → ℤ → ℤ → ℕ
front_of r start d = count_between (date_passes r start) (period_first r.frequency r.week_start d) (d +ℤ pos 1)

off_place : (r : Rule) (start d end : ℤ) → lacks_positions r ≡ false → has r.positions (front_of r start d) ≡ false → period_end r.frequency r.week_start d ≡ end → has r.positions_from_end (count_between (date_passes r start) d end) ≡ false → is_member r start d ≡ false
unfolding in_positions is_member
off_place r start d end named front end-is none =
    let back : has r.positions_from_end (count_between (date_passes r start) d (period_end r.frequency r.week_start d)) ≡ false = rw end-is none in
    let off : in_positions r start d ≡ false = rw (named, front, back) refl in
    and_right (int_le start d) _ (and_right (not_after r.end d) _ (and_right (in_interval r start d) _ (and_right (passes r start d) _ off)))

-- one day more in front
pub counted-back : (p : ℤ → Bool) (e a c : ℤ) (n m : ℕ) → n ≡ count_between p a c → m ≡ n + cond (p e) 1 0 → e <ℤ c → a ≡ e +ℤ pos 1 → m ≡ count_between p e c
counted-back p e a c n m n-is m-is less at = omega (arith, n-is, m-is, count_between-first p e a c less at)

-- that day, if it does not pass or has another place
not_named : (s : FiniteSet) (n m : ℕ) → m ≡ n + 1 → (nat_lt n m && has s m) ≡ false → has s m ≡ false
not_named s n m one none =
    let less : nat_lt n m ≡ true = grind (arith, nat_tests, one) in
    rw less at none

pub off_day_back : (r : Rule) (start e end : ℤ) (n m : ℕ) (b : Bool) → date_passes r start e ≡ b → IsDate e → lacks_positions r ≡ false → (b ≡ true → has r.positions (front_of r start e) ≡ false) → period_end r.frequency r.week_start e ≡ end → m ≡ count_between (date_passes r start) e end → m ≡ n + cond b 1 0 → (nat_lt n m && has r.positions_from_end m) ≡ false → is_member r start e ≡ false
off_day_back r start e end n m false out date named front end-is m-is step none = no_pass r start e (sym (date_passes-is r start e date) ∙ out)
off_day_back r start e end n m true is date named front end-is m-is step none =
    off_place r start e end named (front refl) end-is (ap (has r.positions_from_end) (sym m-is) ∙ not_named r.positions_from_end n m step none)

-- a day in front of as many as the last place that is named
pub before_places : (r : Rule) (start d a end : ℤ) (n last : ℕ) (b : Bool) → date_passes r start d ≡ b → IsDate d → lacks_positions r ≡ false → (b ≡ true → has r.positions (front_of r start d) ≡ false) → period_end r.frequency r.week_start d ≡ end → d <ℤ a → a ≤ℤ end → n ≡ count_between (date_passes r start) a end → last ≤ n → ((k : ℕ) → last < k → has r.positions_from_end k ≡ false) → is_member r start d ≡ false
before_places r start d a end n last false out date named front end-is less high n-is full none = no_pass r start d (sym (date_passes-is r start d date) ∙ out)
before_places r start d a end n last true is date named front end-is less high n-is full none =
    let p = date_passes r start in
    let next : ℤ = d +ℤ pos 1 in
    let here = count_between-first p d next end (omega (arith, signed, less, high)) refl in
    let one = ap (λ b. 0 + cond b 1 0) is in
    let rest = count_between-sum p next a end (omega (arith, signed, less)) high in
    off_place r start d end named (front refl) end-is (none _ (omega (arith, here, one, rest, n-is, full)))

-- ---- the earliest day with a named place so far

pub chosen : (b : Bool) (x later first end : ℤ) → x ≡ cond b later first → later ≤ℤ first → first ≤ℤ end → (later ≤ℤ x) × (x ≤ℤ end)
chosen true x later first end is le high = (omega (arith, signed, is), omega (arith, signed, is, le, high))
chosen false x later first end is le high = (omega (arith, signed, is, le), omega (arith, signed, is, high))

pub from_chosen : (r : Rule) (start day d e later first x : ℤ) (b : Bool) → x ≡ cond b later first → e ≡ day +ℤ later → e ≤ℤ d → d <ℤ (day +ℤ x) → (b ≡ false → is_member r start e ≡ false) → ((d : ℤ) → e <ℤ d → d <ℤ (day +ℤ first) → is_member r start d ≡ false) → is_member r start d ≡ false
from_chosen r start day d e later first x true is at low high here behind = absurd (omega (arith, signed, is, at, low, high))
from_chosen r start day d e later first x false is at low high here behind =
    by_lt_z e d
    (λ lt. behind d lt (omega (arith, signed, is, high)))
    (λ ge. let same : d ≡ e = omega (arith, signed, ge, low) in ap (is_member r start) same ∙ here refl)

-- ---- the last place of a set
