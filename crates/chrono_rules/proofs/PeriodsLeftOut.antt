-- Periods that INTERVAL leaves out.
use Rattle.std.proofs.Common.{◌≡◌, ◌==◌, ℕ, ◌+◌, ◌-◌, ◌<◌, true, false, cond, refl, sym, subst, ap, ◌∙◌, arith, ℤ, pos, ◌+ℤ◌, ◌-ℤ◌, ◌*ℤ◌, ◌≤ℤ◌, ◌<ℤ◌, int_le, unsigned_abs}
use Rattle.std.specs.Int.{int_div_euclid, int_rem_euclid}
use Rattle.std.proofs.lemmas.Bool.{and_right, ne_eqb}
use Rattle.chrono_datetime.specs.Days.{month_of, year_of}
use Rattle.chrono_datetime.specs.MonthMoves.{month_index_of}
use Rattle.chrono_datetime.specs.Weekday.{days_since}
use Rattle.chrono_datetime.specs.Weeks.{week_first_of, weekday_of}
use Rattle.chrono_datetime.specs.declared.Weekday.{Weekday}
use Rattle.chrono_datetime.proofs.WeekdayCycle.{days_from_monday-lt}
use Rattle.chrono_datetime.proofs.IsoWeeks.{days_from_monday-of}
use Rattle.chrono_datetime.proofs.MonthOrder.{month_of-range}
use Rattle.chrono_datetime.proofs.Rising.{month_index_of-rises, year_of-rises}
use Rattle.chrono_datetime.proofs.Signed.{signed}
use Rattle.chrono_rules.proofs.Intervals.{rem-ahead}
use Rattle.chrono_rules.specs.Instances.{in_interval, is_member, not_after}
use Rattle.chrono_rules.specs.Periods.{period_of}
use Rattle.chrono_rules.specs.declared.rule.Frequency.{Frequency}
use Rattle.chrono_rules.specs.declared.rule.Frequency.TheVariants.{Daily, Monthly, Weekly, Yearly}
use Rattle.chrono_rules.specs.declared.rule.Rule.{Rule}

-- a period so many behind one that is left out, before the next that counts
pub off_interval : (r : Rule) (start n d step : ℤ) (j behind : ℕ) → step ≡ pos (cond (r.interval == 0) 1 r.interval) → behind ≡ unsigned_abs (int_rem_euclid (period_of r.frequency r.week_start n -ℤ period_of r.frequency r.week_start start) step) → 0 < behind → pos (behind + j) <ℤ step → period_of r.frequency r.week_start d ≡ period_of r.frequency r.week_start n +ℤ pos j → is_member r start d ≡ false
unfolding in_interval is_member
off_interval r start n d step j behind step-is behind-is some less at =
    let k : ℕ = cond (r.interval == 0) 1 r.interval in
    let a : ℤ = period_of r.frequency r.week_start n -ℤ period_of r.frequency r.week_start start in
    let b : ℤ = period_of r.frequency r.week_start d -ℤ period_of r.frequency r.week_start start in
    let here : unsigned_abs (int_rem_euclid a (pos k)) ≡ behind = ap (λ (s : ℤ). unsigned_abs (int_rem_euclid a s)) (sym step-is) ∙ sym behind-is in
    let apart : b ≡ a +ℤ pos j = omega (arith, signed, at) in
    let there : unsigned_abs (int_rem_euclid b (pos k)) ≡ unsigned_abs (int_rem_euclid a (pos k)) + j =
    ap (λ (z : ℤ). unsigned_abs (int_rem_euclid z (pos k))) apart ∙ rem-ahead a k j (omega (arith, signed, step-is, less)) (omega (arith, signed, step-is, less, here)) in
    let off : (unsigned_abs (int_rem_euclid b (pos k)) == 0) ≡ false = ne_eqb (unsigned_abs (int_rem_euclid b (pos k))) 0 (λ e. omega (arith, e, there, here, some)) in
    and_right (int_le start d) _ (and_right (not_after r.end d) _ (rw off refl))

-- a period that is left out by none
pub on_interval : (r : Rule) (start n step : ℤ) (behind : ℕ) → step ≡ pos (cond (r.interval == 0) 1 r.interval) → behind ≡ unsigned_abs (int_rem_euclid (period_of r.frequency r.week_start n -ℤ period_of r.frequency r.week_start start) step) → behind ≡ 0 → in_interval r start n ≡ true
unfolding in_interval
on_interval r start n step behind step-is behind-is none =
    let a : ℤ = period_of r.frequency r.week_start n -ℤ period_of r.frequency r.week_start start in
    let here : unsigned_abs (int_rem_euclid a (pos (cond (r.interval == 0) 1 r.interval))) ≡ 0 = ap (λ (s : ℤ). unsigned_abs (int_rem_euclid a s)) (sym step-is) ∙ (sym behind-is ∙ none) in
    rw here refl

-- later days are in no earlier period
pub period-rises : (f : Frequency) (w : Weekday) (n d : ℤ) → n ≤ℤ d → period_of f w n ≤ℤ period_of f w d
unfolding period_of
period-rises Daily w n d le = le
period-rises Weekly w n d le = omega (arith, signed, le, days_from_monday-of n, days_from_monday-of d)
period-rises Monthly w n d le = month_index_of-rises n d le
period-rises Yearly w n d le = year_of-rises n d le

week-before : (w : Weekday) (n d k : ℤ) → n ≤ℤ d → d <ℤ (n +ℤ (pos 7 *ℤ k -ℤ pos (days_since (weekday_of n) w))) → int_div_euclid (week_first_of d w) (pos 7) <ℤ (int_div_euclid (week_first_of n w) (pos 7) +ℤ k)
week-before w n d k low high = omega (arith, signed, low, high, days_from_monday-of n, days_from_monday-of d, days_from_monday-lt w)

year-before : (n d k : ℤ) → month_index_of d <ℤ (month_index_of n +ℤ (pos 12 *ℤ k -ℤ pos (month_of n - 1))) → year_of d <ℤ (year_of n +ℤ k)
year-before n d k less = omega (arith, signed, less, month_of-range n, month_of-range d)

pub week-period : (f : Frequency) (w : Weekday) (n d k : ℤ) → f ≡ Weekly → n ≤ℤ d → d <ℤ (n +ℤ (pos 7 *ℤ k -ℤ pos (days_since (weekday_of n) w))) → period_of f w d <ℤ (period_of f w n +ℤ k)
unfolding period_of
week-period f w n d k is low high =
    subst (λ (g : Frequency). period_of g w d <ℤ (period_of g w n +ℤ k)) (sym is) (week-before w n d k low high)

pub year-period : (f : Frequency) (w : Weekday) (n d k : ℤ) → f ≡ Yearly → month_index_of d <ℤ (month_index_of n +ℤ (pos 12 *ℤ k -ℤ pos (month_of n - 1))) → period_of f w d <ℤ (period_of f w n +ℤ k)
unfolding period_of
year-period f w n d k is less =
    subst (λ (g : Frequency). period_of g w d <ℤ (period_of g w n +ℤ k)) (sym is) (year-before n d k less)
