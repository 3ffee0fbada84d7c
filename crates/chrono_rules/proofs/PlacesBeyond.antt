-- Places that BYSETPOS names beyond those that a period has.
use Rattle.std.proofs.Common.{◌≡◌, ℕ, ◌≤◌, Bool, false, refl, subst, sym, arith, ℤ, pos, ◌+ℤ◌, ◌≤ℤ◌, int_le}
use Rattle.std.proofs.lemmas.Bool.{and_right}
use Rattle.chrono_datetime.specs.Recurrence.{count_between}
use Rattle.chrono_datetime.specs.Days.{month_of, year_of}
use Rattle.chrono_datetime.specs.Years.{is_leap_year}
use Rattle.chrono_datetime.specs.Weeks.{week_first_of}
use Rattle.chrono_datetime.specs.declared.Weekday.{Weekday}
use Rattle.chrono_datetime.proofs.CountBetween.{count_between-le}
use Rattle.chrono_datetime.proofs.MonthLengths.{month_length_in-bounds}
use Rattle.chrono_datetime.proofs.MonthDays.{day_of-bounds}
use Rattle.chrono_datetime.proofs.Signed.{signed}
use Rattle.chrono_datetime.proofs.WeekDays.{week_first_of-place}
use Rattle.chrono_sets.specs.FiniteSets.{has}
use Rattle.chrono_rules.specs.ByParts.{date_passes, passes}
use Rattle.chrono_rules.specs.Instances.{in_interval, in_positions, is_member, not_after}
use Rattle.chrono_rules.specs.Periods.{period_end, period_first}
use Rattle.chrono_rules.specs.RuleParts.{lacks_positions}
use Rattle.chrono_rules.specs.declared.rule.Frequency.{Frequency}
use Rattle.chrono_rules.specs.declared.rule.Frequency.TheVariants.{Daily, Monthly, Weekly}
use Rattle.chrono_rules.specs.declared.rule.Rule.{Rule}
use Rattle.chrono_rules.proofs.PlacesInPeriods.{before_or_at, from_period, to_period}

-- no period of the frequency has more days than so many
pub record HasAtMost (f : Frequency) (most : ℕ) : Type 0 where
  pub front : (w : Weekday) (n : ℤ) → (n +ℤ pos 1) ≤ℤ (period_first f w n +ℤ pos most)
  pub back : (w : Weekday) (n : ℤ) → period_end f w n ≤ℤ (n +ℤ pos most)

pub daily_places : HasAtMost Daily 1
unfolding period_first period_end
daily_places = record {
  front = λ w n. omega (arith, signed);
  back = λ w n. omega (arith, signed);
}

pub weekly_places : HasAtMost Weekly 7
unfolding period_first period_end
weekly_places = record {
  front = λ w n. omega (arith, signed, (week_first_of-place n (week_first_of n w) w refl).2);
  back = λ w n. omega (arith, signed, (week_first_of-place n (week_first_of n w) w refl).1);
}

pub monthly_places : HasAtMost Monthly 31
unfolding period_first period_end
monthly_places = record {
  front = λ w n. omega (arith, signed, day_of-bounds n, month_length_in-bounds (is_leap_year (year_of n)) (month_of n));
  back = λ w n. omega (arith, signed, day_of-bounds n, month_length_in-bounds (is_leap_year (year_of n)) (month_of n));
}

few_between : (p : ℤ → Bool) (a b : ℤ) (most : ℕ) → a ≤ℤ b → b ≤ℤ (a +ℤ pos most) → count_between p a b ≤ most
few_between p a b most low high = omega (arith, signed, count_between-le p a b low, high)

-- where BYSETPOS names no place up to so many, no day is a member
pub beyond_places : (r : Rule) (f : Frequency) (most : ℕ) → r.frequency ≡ f → HasAtMost f most → lacks_positions r ≡ false → ((k : ℕ) → k ≤ most → has r.positions k ≡ false) → ((k : ℕ) → k ≤ most → has r.positions_from_end k ≡ false) → (start d : ℤ) → is_member r start d ≡ false
unfolding in_positions is_member
beyond_places r f most is few named front back start d =
    let p = date_passes r start in
    let w = r.week_start in
    let at : HasAtMost r.frequency most = subst (λ g. HasAtMost g most) (sym is) few in
    let low = from_period r.frequency w d in
    let a : has r.positions (count_between p (period_first r.frequency w d) (d +ℤ pos 1)) ≡ false = front _ (few_between p (period_first r.frequency w d) (d +ℤ pos 1) most (omega (arith, signed, low)) (at.front w d)) in
    let b : has r.positions_from_end (count_between p d (period_end r.frequency w d)) ≡ false = back _ (few_between p d (period_end r.frequency w d) most (before_or_at d _ (to_period r.frequency w d)) (at.back w d)) in
    let off : in_positions r start d ≡ false = rw (named, a, b) refl in
    and_right (int_le start d) _ (and_right (not_after r.end d) _ (and_right (in_interval r start d) _ (and_right (passes r start d) _ off)))
