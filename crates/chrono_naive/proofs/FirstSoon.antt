-- How soon the first date on given weekdays comes, and when there is one.
use Rattle.std.proofs.Common.{◌≡◌, ℕ, ◌+◌, ◌-◌, ◌≤◌, false, length, Option, Some, None, IsSome, IfSome, IfNone, refl, arith, ℤ, pos, ◌+ℤ◌, ◌-ℤ◌, ◌≤ℤ◌, ◌<ℤ◌, unsigned_abs}
use Rattle.chrono_units.specs.declared.weekday.Weekday.TheVariants.{Mon}
use Rattle.chrono_units.specs.WeekdaySet.{DaySet, contains, walk}
use Rattle.chrono_calendar.specs.Days.{IsDate}
use Rattle.chrono_calendar.specs.Weeks.{weekday_of}
use Rattle.chrono_calendar.specs.Recurrence.{is_on}
use Rattle.chrono_calendar.proofs.Signed.{signed}
use Rattle.chrono_calendar.proofs.CountWhere.{count_where-sum, count_where-le, count_where-none, count_where-monday}

-- as many days that lack the set's weekdays as come before it leave so many fewer of the seven for its members
members_after : (n : ℤ) (set : DaySet) (k j : ℕ) → k + j ≡ 7 → ((d : ℤ) → n ≤ℤ d → d <ℤ (n +ℤ pos k) → contains set (weekday_of d) ≡ false) → length (walk set Mon) ≤ j
members_after n set k j e none =
    omega (arith, count_where-monday set n, count_where-sum (is_on set) k j 7 n (n +ℤ pos k) (omega (arith, e)) refl, count_where-none (is_on set) k n none, count_where-le (is_on set) j (n +ℤ pos k))

-- so the first is at most as many days later as weekdays are missing
soon : (n e : ℤ) (set : DaySet) → n ≤ℤ e → e <ℤ (n +ℤ pos 7) → ((d : ℤ) → n ≤ℤ d → d <ℤ e → contains set (weekday_of d) ≡ false) → e ≤ℤ (n +ℤ pos (7 - length (walk set Mon)))
soon n e set low high none =
    let k : ℕ = unsigned_abs (e -ℤ n) in
    let place : e ≡ n +ℤ pos k = omega (arith, signed, low) in
    let few : k ≤ 7 = omega (arith, signed, place, high) in
    let left = members_after n set k (7 - k) (omega (arith, few)) (λ d from before. none d from (omega (arith, signed, place, before))) in
    omega (arith, signed, place, few, left)

pub if_within_two : (o : Option ℤ) (n : ℤ) (set : DaySet) → 5 ≤ length (walk set Mon) → IfSome o (λ e. (d : ℤ) → n ≤ℤ d → d <ℤ e → contains set (weekday_of d) ≡ false) → IfSome o (λ e. n ≤ℤ e) → IfSome o (λ e. e <ℤ (n +ℤ pos 7)) → IfSome o (λ e. e ≤ℤ (n +ℤ pos 2))
if_within_two None n set five least low high = tt
if_within_two (Some e) n set five least low high = omega (arith, signed, five, soon n e set low high least)

-- where seven dates are left and the set has a weekday, one of them has it
pub exists_soon : (o : Option ℤ) (n : ℤ) (set : DaySet) → IsDate n → IfNone o ((d : ℤ) → n ≤ℤ d → IsDate d → contains set (weekday_of d) ≡ false) → 1 ≤ length (walk set Mon) → IsDate (n +ℤ pos 6) → IsSome o
exists_soon (Some e) n set here none some last = refl
exists_soon None n set here none some last =
    absurd (omega (arith, some, members_after n set 7 0 refl (λ d from before. none d from (omega (arith, signed, here.0, from), omega (arith, signed, before, last.1)))))
