-- Workdays counted by whole weeks.
use Rattle.std.proofs.Common.{◌≡◌, ℕ, zero, suc, ◌+◌, ◌-◌, ◌*◌, ◌/◌, ◌%◌, not, refl, ap, ◌∙◌, arith, ℤ, pos, ◌+ℤ◌}
use Rattle.chrono_datetime.specs.WeekdaySet.{DaySet, contains}
use Rattle.chrono_datetime.specs.Recurrence.{IsWeekly, count_where}
use Rattle.chrono_datetime.proofs.Signed.{signed}
use Rattle.chrono_datetime.proofs.CountWhere.{count_where-sum, count_where-weeks, weekdays-weekly}
use Rattle.chrono_business.specs.OpenDays.{is_workday}

pub workdays-weekly : (weekend : DaySet) → IsWeekly (is_workday weekend)
workdays-weekly weekend = weekdays-weekly (λ d. not (contains weekend d))

pub workdays-weeks : (weekend : DaySet) (w r k : ℕ) (n : ℤ) → k ≡ 7 * w + r → count_where (is_workday weekend) k n ≡ w * count_where (is_workday weekend) 7 n + count_where (is_workday weekend) r n
workdays-weeks weekend w r k n e = count_where-weeks (is_workday weekend) (workdays-weekly weekend) w r k n e

-- a workday is one again some weeks on
pub workday-weeks : (weekend : DaySet) (w : ℕ) (n m : ℤ) → m ≡ n +ℤ pos (7 * w) → is_workday weekend m ≡ is_workday weekend n
workday-weeks weekend zero n m e = let same : m ≡ n = omega (arith, signed, e) in ap (is_workday weekend) same
workday-weeks weekend (suc w) n m e =
    let before : ℤ = n +ℤ pos (7 * w) in
    let at : m ≡ before +ℤ pos 7 = omega (arith, signed, e) in
    ap (is_workday weekend) at ∙ (workdays-weekly weekend before ∙ workday-weeks weekend w n before refl)

-- where no day of a week is a workday, none is
pub no_workdays : (weekend : DaySet) (k : ℕ) (n : ℤ) → count_where (is_workday weekend) 7 n ≡ 0 → count_where (is_workday weekend) k n ≡ 0
no_workdays weekend k n none =
    let r : ℕ = k % 7 in
    let w : ℕ = k / 7 in
    let rest = count_where-sum (is_workday weekend) r (7 - r) 7 n (n +ℤ pos r) (omega arith) refl in
    let no_weeks : w * count_where (is_workday weekend) 7 n ≡ 0 = ap (λ d. w * d) none ∙ omega arith in
    omega (arith, workdays-weeks weekend w r k n (omega arith), rest, none, no_weeks)
