-- The days of a month lie in a row, from its first to its last.
use Rattle.std.proofs.Common.{◌≡◌, ◌↔◌, ℕ, Option, Some, None, IfSome, IfNone, ◌+◌, ◌-◌, ◌<◌, ◌≤◌, refl, sym, ◌∙◌, ap, arith, ℤ, pos, neg_ℤ, ◌+ℤ◌, ◌-ℤ◌, ◌≤ℤ◌, ◌<ℤ◌, unsigned_abs}
use Rattle.std.proofs.lemmas.Int.{by_lt_z}
use Rattle.chrono_calendar.specs.Days.{IsDate, date_of_day, date_of_ymd, year_of, month_of, day_of}
use Rattle.chrono_calendar.specs.MonthMoves.{InSameMonth, month_first_of, month_index_of, month_last_of, month_length_of}
use Rattle.chrono_text.proofs.Signed.{signed}
use Rattle.chrono_calendar.proofs.MonthOrder.{before_month, before_month-next, day_at-exists, day_at-unique, length_at, length_at-bounds, month_of-range}
use Rattle.chrono_calendar.proofs.MonthMoveLaws.{in_same_month, month_length_of-at, year_of-range}
use Rattle.chrono_calendar.proofs.NamedDates.{IsDate-year, date_of_day-None, date_of_day-number, date_of_ymd-again, none-date_of_day}

-- the day m stands in the month of the day n, as the d-th day of it
pub record IsInMonthOf (n m : ℤ) (d : ℕ) : Type 0 where
  pub month : InSameMonth m n
  pub day : day_of m ≡ d

-- so does each day that is as many days from n as d is from the day of n
pub in_month_of : (n m : ℤ) (d : ℕ) → m +ℤ pos (day_of n) ≡ n +ℤ pos d → 1 ≤ d → d ≤ month_length_of n → IsInMonthOf n m d
in_month_of n m d e first last =
    let here = day_at-exists n in
    let there = day_at-unique m (month_index_of n) d (record {
      number = omega (arith, signed, here.number, e);
      first = first;
      last = omega (arith, month_length_of-at n, last);
    }) in
    record { month = in_same_month m n (month_index_of n) there.0 refl; day = there.1 }

pub day_of-bounds : (n : ℤ) → (1 ≤ day_of n) × (day_of n ≤ month_length_of n)
day_of-bounds n = let here = day_at-exists n in (here.first, omega (arith, month_length_of-at n, here.last))

-- days later, up to the last of the month
pub later_in_month : (n m : ℤ) (k : ℕ) → m ≡ n +ℤ pos k → day_of n + k ≤ month_length_of n → IsInMonthOf n m (day_of n + k)
later_in_month n m k e last = in_month_of n m (day_of n + k) (omega (arith, signed)) (omega (arith, day_of-bounds n)) last

-- and earlier, down to the first
pub earlier_in_month : (n m : ℤ) (k : ℕ) → m ≡ n -ℤ pos k → k < day_of n → IsInMonthOf n m (day_of n - k)
earlier_in_month n m k e first =
    in_month_of n m (day_of n - k) (omega (arith, signed, first)) (omega (arith, first)) (omega (arith, day_of-bounds n))

pub month_first_of-is : (n : ℤ) → IsInMonthOf n (month_first_of n) 1
month_first_of-is n =
    in_month_of n (month_first_of n) 1 (omega (arith, signed, day_of-bounds n)) (omega arith) (omega (arith, day_of-bounds n))

pub month_last_of-is : (n : ℤ) → IsInMonthOf n (month_last_of n) (month_length_of n)
month_last_of-is n =
    in_month_of n (month_last_of n) (month_length_of n) (omega (arith, signed, day_of-bounds n)) (omega (arith, day_of-bounds n)) (omega arith)

-- a day of the month is none other than these
same_index : (n d : ℤ) → InSameMonth d n → month_index_of d ≡ month_index_of n
same_index n d h = omega (arith, signed, h.0, h.1)

within_month : (n d : ℤ) → InSameMonth d n → (month_first_of n ≤ℤ d) × (d ≤ℤ month_last_of n)
within_month n d h =
    let here = day_at-exists n in
    let there = day_at-exists d in
    let same = same_index n d h in
    let starts = ap before_month same in
    let lengths = ap length_at same in
    (omega (arith, signed, here.number, here.first, there.number, there.first, starts), omega (arith, signed, here.number, there.number, there.last, starts, lengths, month_length_of-at n, here.last))

pub month-days : (n d : ℤ) → InSameMonth d n ↔ ((month_first_of n ≤ℤ d) × (d ≤ℤ month_last_of n))
month-days n d = (
  within_month n d,
  λ h.
      let k : ℕ = unsigned_abs (d -ℤ month_first_of n) in
      let place = in_month_of n d (k + 1) (omega (arith, signed, h.0, day_of-bounds n)) (omega arith) (omega (arith, signed, h.0, h.1, day_of-bounds n)) in
      place.month,
)

-- after the last day of a month comes the first of the next
pub month-next : (n m : ℤ) → m ≡ month_last_of n +ℤ pos 1 → (month_index_of m ≡ month_index_of n +ℤ pos 1) × (day_of m ≡ 1)
month-next n m e =
    let here = day_at-exists n in
    let next : ℤ = month_index_of n +ℤ pos 1 in
    day_at-unique m next 1 (record {
      number = omega (arith, signed, here.number, here.last, month_length_of-at n, before_month-next (month_index_of n) next refl);
      first = omega arith;
      last = omega (arith, length_at-bounds next);
    })

-- and before its first day the last of the month before
pub month-previous : (n m : ℤ) → m ≡ month_first_of n -ℤ pos 1 → (month_index_of m ≡ month_index_of n -ℤ pos 1) × (day_of m ≡ month_length_of m)
month-previous n m e =
    let here = day_at-exists n in
    let before : ℤ = month_index_of n -ℤ pos 1 in
    let found = day_at-unique m before (length_at before) (record {
      number = omega (arith, signed, here.number, here.first, before_month-next before (month_index_of n) (omega (arith, signed)));
      first = omega (arith, length_at-bounds before);
      last = omega arith;
    }) in
    (found.0, found.1 ∙ ap length_at (sym found.0) ∙ sym (month_length_of-at m))

-- ---- the months of dates

-- a month has dates alone, or none
pub in_month-IsDate : (n d : ℤ) → IsDate n → InSameMonth d n → IsDate d
in_month-IsDate n d h same = IsDate-year d (rw (← same.0) at (year_of-range n h))

-- the last month of the library's years is December of the last
pub last_month : (n m : ℤ) → IsDate n → m ≡ month_last_of n +ℤ pos 1 → (IsDate m → ⊥) → (year_of n ≡ pos 262_142) × (month_of n ≡ 12)
last_month n m h e past =
    let next = month-next n m e in
    let year = year_of-range n h in
    let after : pos 262_143 ≤ℤ year_of m =
    by_lt_z (year_of m) (pos 262_143)
    (λ lt. absurd (past (IsDate-year m (omega (arith, signed, year.0, next.0, month_of-range n, month_of-range m), omega (arith, signed, lt)))))
    (λ ge. ge) in
    (omega (arith, signed, after, year.1, next.0, month_of-range n, month_of-range m), omega (arith, signed, after, year.1, next.0, month_of-range n, month_of-range m))

pub past_last_month : (n m : ℤ) → m ≡ month_last_of n +ℤ pos 1 → year_of n ≡ pos 262_142 → month_of n ≡ 12 → IsDate m → ⊥
past_last_month n m e year month date =
    let next = month-next n m e in
    omega (arith, signed, year, month, next.0, month_of-range m, (year_of-range m date).1)

-- and the first month January of the first
pub first_month : (n m : ℤ) → IsDate n → m ≡ month_first_of n -ℤ pos 1 → (IsDate m → ⊥) → (year_of n ≡ neg_ℤ (pos 262_143)) × (month_of n ≡ 1)
first_month n m h e past =
    let previous = month-previous n m e in
    let year = year_of-range n h in
    let before : year_of m ≤ℤ neg_ℤ (pos 262_144) =
    by_lt_z (neg_ℤ (pos 262_144)) (year_of m)
    (λ lt. absurd (past (IsDate-year m (omega (arith, signed, lt), omega (arith, signed, year.1, previous.0, month_of-range n, month_of-range m)))))
    (λ ge. ge) in
    (omega (arith, signed, before, year.0, previous.0, month_of-range n, month_of-range m), omega (arith, signed, before, year.0, previous.0, month_of-range n, month_of-range m))

pub before_first_month : (n m : ℤ) → m ≡ month_first_of n -ℤ pos 1 → year_of n ≡ neg_ℤ (pos 262_143) → month_of n ≡ 1 → IsDate m → ⊥
before_first_month n m e year month date =
    let previous = month-previous n m e in
    omega (arith, signed, year, month, previous.0, month_of-range m, (year_of-range m date).0)

-- the first and the last day of a date's month are named so
same_name : (y z : ℤ) (m p d q : ℕ) → y ≡ z → m ≡ p → d ≡ q → date_of_ymd z p q ≡ date_of_ymd y m d
same_name y z m p d q e f g = cc

date_of_day_in_month : (n m : ℤ) (d : ℕ) → IsDate n → IsInMonthOf n m d → date_of_ymd (year_of n) (month_of n) d ≡ Some m
date_of_day_in_month n m d h at =
    same_name (year_of m) (year_of n) (month_of m) (month_of n) (day_of m) d at.month.0 at.month.1 at.day
    ∙ date_of_ymd-again m (in_month-IsDate n m h at.month)

pub date_of_month_first : (n : ℤ) → IsDate n → date_of_ymd (year_of n) (month_of n) 1 ≡ Some (month_first_of n)
date_of_month_first n h = date_of_day_in_month n (month_first_of n) 1 h (month_first_of-is n)

pub date_of_month_last : (n : ℤ) → IsDate n → date_of_ymd (year_of n) (month_of n) (month_length_of n) ≡ Some (month_last_of n)
date_of_month_last n h = date_of_day_in_month n (month_last_of n) (month_length_of n) h (month_last_of-is n)

-- ---- the month after that of a date, and the month before

-- an answer that is the first day of the next month
pub if_next_month : (o : Option ℤ) (n : ℤ) → o ≡ date_of_day (month_last_of n +ℤ pos 1) → IfSome o (λ e. e ≡ month_last_of n +ℤ pos 1) × IfSome o (λ e. month_index_of e ≡ month_index_of n +ℤ pos 1) × IfSome o (λ e. day_of e ≡ 1) × IfSome o (λ e. (d : ℤ) → n ≤ℤ d → d <ℤ e → InSameMonth d n)
if_next_month None n h = (tt, tt, tt, tt)
if_next_month (Some e) n h =
    let number = sym (date_of_day-number e (month_last_of n +ℤ pos 1) (sym h)).1 in
    let next = month-next n e number in
    (number, next.0, next.1, λ d low high. (month-days n d).1 (omega (arith, signed, low), omega (arith, signed, high, number)))

-- and none: the month is the last, and each date from n on lies in it
pub no_next_month : (o : Option ℤ) (n : ℤ) → IsDate (month_last_of n) → o ≡ date_of_day (month_last_of n +ℤ pos 1) → (o ≡ None) ↔ ((year_of n ≡ pos 262_142) × (month_of n ≡ 12))
no_next_month o n last_date h =
    let m : ℤ = month_last_of n +ℤ pos 1 in
    let same = (month_last_of-is n).month in
    let date = in_month-IsDate (month_last_of n) n last_date (sym same.0, sym same.1) in (
      λ none. last_month n m date refl (none-date_of_day m (sym none ∙ h)),
      λ last. h ∙ sym (date_of_day-None m (past_last_month n m refl last.0 last.1)),
    )

pub if_last_month : (o : Option ℤ) (n : ℤ) → IsDate (month_last_of n) → o ≡ date_of_day (month_last_of n +ℤ pos 1) → IfNone o ((d : ℤ) → n ≤ℤ d → IsDate d → InSameMonth d n)
if_last_month (Some e) n last h = tt
if_last_month None n last h = λ d low date.
    by_lt_z (month_last_of n) d
    (λ lt. absurd (none-date_of_day (month_last_of n +ℤ pos 1) h (omega (arith, signed, last.0), omega (arith, signed, lt, date.1))))
    (λ ge. (month-days n d).1 (omega (arith, signed, low), ge))

-- the same for the last day of the month before
pub if_previous_month : (o : Option ℤ) (n : ℤ) → o ≡ date_of_day (month_first_of n -ℤ pos 1) → IfSome o (λ e. e ≡ month_first_of n -ℤ pos 1) × IfSome o (λ e. month_index_of e ≡ month_index_of n -ℤ pos 1) × IfSome o (λ e. day_of e ≡ month_length_of e) × IfSome o (λ e. (d : ℤ) → e <ℤ d → d ≤ℤ n → InSameMonth d n)
if_previous_month None n h = (tt, tt, tt, tt)
if_previous_month (Some e) n h =
    let number = sym (date_of_day-number e (month_first_of n -ℤ pos 1) (sym h)).1 in
    let previous = month-previous n e number in
    (number, previous.0, previous.1, λ d low high. (month-days n d).1 (omega (arith, signed, low, number), omega (arith, signed, high)))

pub no_previous_month : (o : Option ℤ) (n : ℤ) → IsDate (month_first_of n) → o ≡ date_of_day (month_first_of n -ℤ pos 1) → (o ≡ None) ↔ ((year_of n ≡ neg_ℤ (pos 262_143)) × (month_of n ≡ 1))
no_previous_month o n first_date h =
    let m : ℤ = month_first_of n -ℤ pos 1 in
    let same = (month_first_of-is n).month in
    let date = in_month-IsDate (month_first_of n) n first_date (sym same.0, sym same.1) in (
      λ none. first_month n m date refl (none-date_of_day m (sym none ∙ h)),
      λ first. h ∙ sym (date_of_day-None m (before_first_month n m refl first.0 first.1)),
    )

pub if_first_month : (o : Option ℤ) (n : ℤ) → IsDate (month_first_of n) → o ≡ date_of_day (month_first_of n -ℤ pos 1) → IfNone o ((d : ℤ) → d ≤ℤ n → IsDate d → InSameMonth d n)
if_first_month (Some e) n first h = tt
if_first_month None n first h = λ d high date.
    by_lt_z d (month_first_of n)
    (λ lt. absurd (none-date_of_day (month_first_of n -ℤ pos 1) h (omega (arith, signed, lt, date.0), omega (arith, signed, first.1))))
    (λ ge. (month-days n d).1 (ge, omega (arith, signed, high)))
