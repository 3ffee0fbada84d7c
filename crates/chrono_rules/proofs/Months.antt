-- Days and their months.
use Rattle.std.proofs.Common.{◌≡◌, ℕ, ◌+◌, ◌-◌, ◌%◌, ◌<◌, ◌≤◌, min, sym, ap, ◌∙◌, arith, ℤ, pos, ◌+ℤ◌, ◌-ℤ◌, ◌≤ℤ◌, ◌<ℤ◌, unsigned_abs}
use Rattle.std.specs.Int.{IsInRange}
use Rattle.chrono_datetime.specs.Days.{day_of, month_of, year_of}
use Rattle.chrono_datetime.specs.MonthMoves.{InSameMonth, month_index, month_index_of, month_length_of}
use Rattle.chrono_datetime.specs.Years.{month_length}
use Rattle.chrono_datetime.proofs.MonthDays.{day_of-bounds, later_in_month}
use Rattle.chrono_datetime.proofs.MonthOrder.{month_of-range}
use Rattle.chrono_datetime.proofs.Signed.{signed}
use Rattle.chrono_datetime.proofs.Rising.{month_index_of-rises}

-- ---- days and their months

-- a month so many months on
pub month_later : (n d : ℤ) (k : ℕ) → n ≤ℤ d → month_index_of d <ℤ (month_index_of n +ℤ pos k) → let j = unsigned_abs (month_index_of d -ℤ month_index_of n) in (j < k) × (month_index_of d ≡ month_index_of n +ℤ pos j)
month_later n d k low high =
    let index = month_index_of-rises n d low in
    (omega (arith, signed, index, high), omega (arith, signed, index))

-- its year and month, and its place in the cycle of twelve
pub named_month : (d y : ℤ) (m : ℕ) → IsInRange 1 12 m → month_index_of d ≡ month_index y m → (year_of d ≡ y) × (month_of d ≡ m)
named_month d y m named at =
    let range = month_of-range d in
    (omega (arith, signed, at, named, range), omega (arith, signed, at, named, range))

pub month_on : (d y : ℤ) (m j : ℕ) → IsInRange 1 12 m → month_index_of d ≡ month_index y m +ℤ pos j → month_of d ≡ 1 + (m - 1 + j) % 12
month_on d y m j named at = omega (arith, signed, at, named, month_of-range d)

pub named_length : (d y : ℤ) (m : ℕ) → IsInRange 1 12 m → month_index_of d ≡ month_index y m → month_length_of d ≡ month_length y m
named_length d y m named at =
    let it = named_month d y m named at in
    ap (λ y. month_length y (month_of d)) it.0 ∙ ap (month_length y) it.1

-- the length of the month so many months on from a month, which is none
pub length_here : (d y z : ℤ) (m j : ℕ) → z ≡ y → IsInRange 1 12 m → j < 1 → month_index_of d ≡ month_index y m +ℤ pos j → month_length_of d ≡ month_length z m
length_here d y z m j same named lt at =
    named_length d y m named (omega (arith, signed, lt, at)) ∙ ap (λ y. month_length y m) (sym same)

-- ---- days of one month

pub same_length : (n d : ℤ) → year_of d ≡ year_of n → month_of d ≡ month_of n → month_length_of d ≡ month_length_of n
same_length n d year month = cc

pub in_month : (n d : ℤ) (k : ℕ) → n ≤ℤ d → d <ℤ (n +ℤ pos k) → k ≤ month_length_of n - day_of n + 1 → let j = unsigned_abs (d -ℤ n) in (j < k) × (day_of d ≡ day_of n + j) × (month_length_of d ≡ month_length_of n) × (d ≡ n +ℤ pos j) × (day_of n + j ≤ month_length_of n)
in_month n d k low high few =
    let j = unsigned_abs (d -ℤ n) in
    let at : d ≡ n +ℤ pos j = omega (arith, signed, low) in
    let less : j < k = omega (arith, signed, low, high) in
    let last : day_of n + j ≤ month_length_of n = omega (arith, less, few, day_of-bounds n) in
    let place = later_in_month n d j at last in
    (less, place.day, same_length n d place.month.0 place.month.1, at, last)

-- the first day of a month so many months later, found from the first of this one
pub first_later : (n first e k : ℤ) → InSameMonth first n → day_of first ≡ 1 → month_index_of e ≡ month_index_of first +ℤ k → day_of e ≡ min (day_of first) (month_length_of e) → (month_index_of e ≡ month_index_of n +ℤ k) × (day_of e ≡ 1)
first_later n first e k same one index day = (omega (arith, signed, same.0, same.1, index), omega (arith, one, day, day_of-bounds e))
