-- The first date on given weekdays, as the code finds it, and its laws.
use Rattle.std.proofs.Common.{◌≡◌, ℕ, ◌<◌, false, true, Option, Some, None, IfSome, IfNone, IsSomeAnd, refl, sym, ap, ◌∙◌, arith, ℤ, pos, ◌+ℤ◌, ◌-ℤ◌, ◌≤ℤ◌, ◌<ℤ◌, unsigned_abs, IsTrue}
use Rattle.std.proofs.lemmas.Bool.{false≢true}
use Rattle.std.proofs.lemmas.Int.{by_lt_z}
use Rattle.chrono_units.specs.declared.weekday.Weekday.{Weekday}
use Rattle.chrono_units.specs.declared.weekday.Weekday.TheVariants.{Mon, Tue, Wed, Thu, Fri, Sat, Sun}
use Rattle.chrono_units.specs.WeekdaySet.{DaySet, IsSubset, contains, no_days, weekday_after}
use Rattle.chrono_calendar.specs.Days.{IsDate, date_of_day}
use Rattle.chrono_calendar.specs.Weeks.{weekday_of}
use Rattle.chrono_calendar.specs.Recurrence.{IsFirstWhere, NoneFrom, past_last_date, is_on, date_on}
use Rattle.chrono_text.proofs.Signed.{signed}
use Rattle.chrono_calendar.proofs.NamedDates.{date_of_day-Some, date_of_day-None}
use Rattle.chrono_calendar.proofs.WeekDays.{weekday_of-after, weekday_of-week}
use Rattle.chrono_calendar.proofs.FirstWhere.{first_where-Some, first_where-found, first_where-None, first_where-nowhere}

-- the first date on such a weekday is the first that passes the test for it
date_on-Some : (n : ℤ) (set : DaySet) (e : ℤ) → IsDate n → date_on n set ≡ Some e → IsFirstWhere (is_on set) n e × IsDate e
unfolding date_on
date_on-Some n set e h found = first_where-Some (is_on set) n e h found

date_on-found : (n : ℤ) (set : DaySet) (e : ℤ) → IsDate n → IsFirstWhere (is_on set) n e → IsDate e → date_on n set ≡ Some e
unfolding date_on
date_on-found n set e h first date = first_where-found (is_on set) n e h first date

date_on-None : (n : ℤ) (set : DaySet) → IsDate n → NoneFrom (is_on set) n → None ≡ date_on n set
unfolding date_on
date_on-None n set h none = sym (first_where-None (is_on set) n h none)

date_on-nowhere : (n : ℤ) (set : DaySet) → IsDate n → date_on n set ≡ None → NoneFrom (is_on set) n
unfolding date_on
date_on-nowhere n set h none = first_where-nowhere (is_on set) n h none

-- ---- as the code finds it

-- the day as many days on as the set has them to its first member
first_after : (n : ℤ) (set : DaySet) (k : ℕ) → IsTrue (contains set (weekday_after (weekday_of n) k)) → ((j : ℕ) → j < k → contains set (weekday_after (weekday_of n) j) ≡ false) → IsFirstWhere (is_on set) n (n +ℤ pos k)
first_after n set k member least = record {
  not_before = omega (arith, signed);
  passes = ap (contains set) (weekday_of-after n (n +ℤ pos k) k refl) ∙ member;
  least = λ d low high.
      let j : ℕ = unsigned_abs (d -ℤ n) in
      let place : d ≡ n +ℤ pos j = omega (arith, signed, low) in
      ap (contains set) (weekday_of-after n d j place) ∙ least j (omega (arith, signed, place, high));
}

pub date_of_day-on : (n : ℤ) (set : DaySet) (k : ℕ) → IsDate n → IsTrue (contains set (weekday_after (weekday_of n) k)) → ((j : ℕ) → j < k → contains set (weekday_after (weekday_of n) j) ≡ false) → date_of_day (n +ℤ pos k) ≡ date_on n set
date_of_day-on n set k h member least =
    let first = first_after n set k member least in
    by_lt_z (n +ℤ pos k) past_last_date
    (λ before.
    let date : IsDate (n +ℤ pos k) = (omega (arith, signed, h.0), omega (arith, signed, before)) in
    date_of_day-Some (n +ℤ pos k) date ∙ sym (date_on-found n set (n +ℤ pos k) h first date))
    (λ past.
    sym (date_of_day-None (n +ℤ pos k) (λ date. omega (arith, signed, date.1, past)))
    ∙ date_on-None n set h (λ d low date. first.least d low (omega (arith, signed, date.1, past))))

-- an empty set has no such day
no_member : (d : Weekday) → contains no_days d ≡ false
no_member = elim [ Mon ↦ refl | Tue ↦ refl | Wed ↦ refl | Thu ↦ refl | Fri ↦ refl | Sat ↦ refl | Sun ↦ refl ]

pub date_on-no_days : (n : ℤ) (set : DaySet) → IsDate n → set ≡ no_days → None ≡ date_on n set
date_on-no_days n set h e = date_on-None n set h (λ d low date. ap (λ s. contains s (weekday_of d)) e ∙ no_member (weekday_of d))

-- ---- its laws

-- a date with such a weekday is the first itself
pub date_on-start : (n : ℤ) (set : DaySet) → IsDate n → IsTrue (contains set (weekday_of n)) → date_on n set ≡ Some n
date_on-start n set h member =
    date_on-found n set n h (record { not_before = omega (arith, signed); passes = member; least = λ d low high. absurd (omega (arith, signed, low, high)) }) h

-- a week on each weekday has come
first_within : (n e : ℤ) (set : DaySet) → IsFirstWhere (is_on set) n e → e <ℤ (n +ℤ pos 7)
first_within n e set first =
    by_lt_z e (n +ℤ pos 7) (λ lt. lt)
    (λ far.
    let before = first.least (e -ℤ pos 7) (omega (arith, signed, far)) (omega (arith, signed)) in
    let same = weekday_of-week (e -ℤ pos 7) e (omega (arith, signed)) in
    absurd (false≢true (sym before ∙ sym (ap (contains set) same) ∙ first.passes)))

-- a larger set has a date not later
member_of_larger : (set more : DaySet) (d : Weekday) → IsSubset set more → contains set d ≡ true → contains more d ≡ true
member_of_larger set more d sub member = sub d member

not_later : (n e : ℤ) (set more : DaySet) (o : Option ℤ) → IsDate n → IsSubset set more → IsFirstWhere (is_on set) n e × IsDate e → date_on n more ≡ o → IsSomeAnd o (λ f. f ≤ℤ e)
not_later n e set more None h sub first found =
    absurd (false≢true (sym (date_on-nowhere n more h found e first.0.not_before first.1) ∙ member_of_larger set more (weekday_of e) sub first.0.passes))
not_later n e set more (Some f) h sub first found =
    by_lt_z e f
    (λ later. absurd (false≢true (sym ((date_on-Some n more f h found).0.least e first.0.not_before later) ∙ member_of_larger set more (weekday_of e) sub first.0.passes)))
    (λ le. le)

-- ---- the laws of an answer that is the first such date

pub if_on : (o : Option ℤ) (n : ℤ) (set : DaySet) → IsDate n → o ≡ date_on n set → IfSome o (λ e. IsTrue (contains set (weekday_of e))) × IfSome o (λ e. (d : ℤ) → n ≤ℤ d → d <ℤ e → contains set (weekday_of d) ≡ false) × IfSome o (λ e. n ≤ℤ e) × IfSome o (λ e. e <ℤ (n +ℤ pos 7)) × IfSome o (λ e. date_on e set ≡ Some e)
if_on None n set h given = (tt, tt, tt, tt, tt)
if_on (Some e) n set h given =
    let found = date_on-Some n set e h (sym given) in
    (found.0.passes, found.0.least, found.0.not_before, first_within n e set found.0, date_on-start e set found.1 found.0.passes)

pub if_larger : (o : Option ℤ) (n : ℤ) (set : DaySet) → IsDate n → o ≡ date_on n set → IfSome o (λ e. (more : DaySet) → IsSubset set more → IsSomeAnd (date_on n more) (λ f. f ≤ℤ e))
if_larger None n set h given = tt
if_larger (Some e) n set h given = λ more sub. not_later n e set more (date_on n more) h sub (date_on-Some n set e h (sym given)) refl

-- where there is no answer there is no such date
pub if_none_on : (o : Option ℤ) (n : ℤ) (set : DaySet) → IsDate n → o ≡ date_on n set → IfNone o ((d : ℤ) → n ≤ℤ d → IsDate d → contains set (weekday_of d) ≡ false)
if_none_on None n set h given = date_on-nowhere n set h (sym given)
if_none_on (Some e) n set h given = tt
