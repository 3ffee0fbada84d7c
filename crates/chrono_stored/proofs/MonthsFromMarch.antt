-- Months counted from March of the year -262,400: which month each is, and the day numbers of its days.
use Rattle.std.proofs.Common.{Some, ◌≡◌, ℕ, Bool, ◌+◌, ◌-◌, ◌*◌, ◌/◌, ◌%◌, ◌<◌, ◌≤◌, ⊎_elim, arith, refl, sym, ap, ◌∙◌, min, ℤ, pos, ◌+ℤ◌, ◌-ℤ◌}
use Rattle.std.proofs.lemmas.Bool.{cases_lt}
use Rattle.std.proofs.lemmas.Bool.Decides.{nat_tests}
use Rattle.std.specs.Int.{IsInRange}
use Rattle.chrono_units.specs.Years.{IsYear, is_leap_year, month_length_in, month_length, year_length}
use Rattle.chrono_calendar.specs.Days.{days_before_year, IsDate, day_number_of_ymd, day_of, year_of, ordinal_of_ymd}
use Rattle.chrono_calendar.specs.MonthMoves.{month_index, month_index_of, year_of_month_index, month_of_month_index, day_number_in_month, month_move}
use Rattle.chrono_calendar.proofs.Signed.{signed}
use Rattle.chrono_calendar.proofs.Names.{day_number_in_range}
use Rattle.chrono_calendar.proofs.Dates.{is_year-test}
use Rattle.chrono_calendar.proofs.Months.{month_length_in-bounds, ordinal_within}
use Rattle.chrono_calendar.proofs.MonthOrder.{month_of_month_index-bounds}
use Rattle.chrono_stored.proofs.FromMarch.{HasCalendarName, named-to_december, named-from_january, month_end-march, month_end-january, day_number-from_march, day_number-to_march}

-- the months to that of a day, and the day of the month, by the years and the place of the day 306 days later
pub record HasMonth (n : ℤ) (count d : ℕ) : Type 0 where
  pub months : pos count ≡ month_index_of n +ℤ pos 3_148_798
  pub day : day_of n ≡ d

months-of_name : (days y : ℤ) (months m d : ℕ) → HasCalendarName days y m d → pos months ≡ month_index y m +ℤ pos 3_148_798 → HasMonth days months d
months-of_name days y months m d h e =
    record { months = e ∙ ap (λ i. i +ℤ pos 3_148_798) (ap (λ z. month_index z m) (sym h.year) ∙ ap (month_index (year_of days)) (sym h.month)); day = h.day }

pub months-named : (days : ℤ) (n p d : ℕ) → pos n +ℤ pos 1 ≡ days +ℤ pos 95_839_632 → 365 * p + p / 4 + p / 400 + d ≡ n + 306 + p / 100 → n + 306 + (p + 1) / 100 < 365 * (p + 1) + (p + 1) / 4 + (p + 1) / 400 → HasMonth days (p * 12 + (2141 * d + 197_913) / 65_536 - 3) ((2141 * d + 197_913) % 65_536 / 2141 + 1)
months-named days n p d start place in_year =
    let y = pos p -ℤ pos 262_399 in
    let years : pos p +ℤ pos 1 ≡ y +ℤ pos 262_400 = omega (arith, signed) in
    ⊎_elim
    (λ early. months-of_name days (y -ℤ pos 1) _ _ _ (named-to_december days y n p d start years place in_year early) (omega (arith, signed)))
    (λ late. months-of_name days y _ _ _ (named-from_january days y n p d start years place in_year late) (omega (arith, signed)))
    (cases_lt d 306)

-- the last place of a day in a year from March: at a month's end, and at the year's
last_place : (before next end length d : ℕ) → min next end ≡ before + length → min (min (before + d) next) end ≡ before + min d length
last_place before next end length d e = omega arith

-- from March on a month is as long in a leap year
month_length_in-late : (leap other : Bool) (m : ℕ) → 2 < m → month_length_in leap m ≡ month_length_in other m
month_length_in-late leap other m h = grind (arith, nat_tests)

-- the number that the code comes to in a month of a year from March of this length, with so many days before the year
abbrev number_within : ℕ → ℕ → ℕ → ℕ → ℤ
number_within start length month d =
    pos (start + min (min ((979 * month - 2919) / 32 + d) ((979 * (month + 1) - 2919) / 32)) length) -ℤ pos 95_839_938

-- in a month from March to December, of the year z, the year from March ends in the year y after it
within-late : (y z : ℤ) (m d start : ℕ) → y ≡ z +ℤ pos 1 → IsInRange 1 12 m → 2 < m → pos start ≡ days_before_year y +ℤ pos 95_839_632 → number_within start (year_length y) m d ≡ day_number_of_ymd z m (min d (month_length z m))
within-late y z m d start e h late from =
    let end = month_end-march (is_leap_year y) m h late ∙ ap (λ l. (979 * m - 2919) / 32 + l) (month_length_in-late (is_leap_year y) (is_leap_year z) m late) in
    let last = last_place ((979 * m - 2919) / 32) ((979 * (m + 1) - 2919) / 32) (year_length y) (month_length z m) d end in
    omega (arith, signed, last, ap days_before_year e, day_number-from_march z m (min d (month_length z m)) h late)

-- January and February end the year from March
within-early : (y : ℤ) (m d start : ℕ) → IsInRange 1 12 m → m ≤ 2 → pos start ≡ days_before_year y +ℤ pos 95_839_632 → number_within start (year_length y) (m + 12) d ≡ day_number_of_ymd y m (min d (month_length y m))
within-early y m d start h early from =
    let ahead : m + 12 + 1 ≡ m + 13 = omega arith in
    let last = last_place ((979 * (m + 12) - 2919) / 32) ((979 * (m + 12 + 1) - 2919) / 32) (year_length y) (month_length y m) d (rw ahead (month_end-january (is_leap_year y) m h early)) in
    omega (arith, signed, last, day_number-to_march y m (min d (month_length y m)) h early)

pub number_within-month : (months d start : ℕ) (y : ℤ) → y +ℤ pos 262_399 ≡ pos (months / 12) → pos start ≡ days_before_year y +ℤ pos 95_839_632 → number_within start (year_length y) (months % 12 + 3) d ≡ day_number_in_month (pos months -ℤ pos 3_148_798) d
number_within-month months d start y years from =
    let i = pos months -ℤ pos 3_148_798 in
    let number : ℤ → ℕ → ℤ = λ z m. day_number_of_ymd z m (min d (month_length z m)) in
    let named : (z : ℤ) (m : ℕ) → year_of_month_index i ≡ z → month_of_month_index i ≡ m → number z m ≡ day_number_in_month i d = λ z m e f. sym (ap (λ x. number x (month_of_month_index i)) e ∙ ap (number z) f) in
    ⊎_elim
    (λ low.
    within-late y (y -ℤ pos 1) (months % 12 + 3) d start (omega (arith, signed)) (omega arith, omega arith) (omega arith) from
    ∙ named (y -ℤ pos 1) (months % 12 + 3) (omega (arith, signed)) (omega (arith, signed)))
    (λ high.
    let back : months % 12 - 9 + 12 ≡ months % 12 + 3 = omega arith in
    ap (λ m. number_within start (year_length y) m d) (sym back)
    ∙ within-early y (months % 12 - 9) d start (omega arith, omega arith) (omega arith) from
    ∙ named y (months % 12 - 9) (omega (arith, signed)) (omega (arith, signed)))
    (cases_lt (months % 12) 10)

-- a day of a month of the library is a date
pub IsDate-in_month : (i : ℤ) (d : ℕ) → IsYear (year_of_month_index i) → 1 ≤ d → IsDate (day_number_in_month i d)
IsDate-in_month i d year h =
    let y = year_of_month_index i in
    let m = month_of_month_index i in
    let bounds = month_of_month_index-bounds i in
    let month : IsInRange 1 12 (month_of_month_index i) = (omega (arith, bounds), omega (arith, bounds)) in
    let inside = ordinal_within (is_leap_year y) m (min d (month_length y m)) month (omega (arith, month_length_in-bounds (is_leap_year y) m), omega arith) in
    day_number_in_range y (ordinal_of_ymd y m (min d (month_length y m))) year inside

-- a move comes to that day of the month
pub month_move-day : (n k i : ℤ) (d : ℕ) → i ≡ month_index_of n +ℤ k → d ≡ day_of n → IsYear (year_of_month_index i) → Some (day_number_in_month i d) ≡ month_move n k
unfolding month_move
month_move-day n k i d e f year = rw (← e, ← f, is_year-test (year_of_month_index i) year) refl
