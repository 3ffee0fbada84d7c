-- Dates whose text has ten bytes are of the years 0 to 9999, and so lie far from the ends of the calendar.
use Rattle.std.proofs.Common.{◌≡◌, ◌==◌, Bool, true, false, if◌then◌else◌, ℕ, suc, ◌+◌, ◌<◌, ◌≤◌, ℤ, pos, negsuc, neg_ℤ, ◌-ℤ◌, ◌≤ℤ◌, ◌<ℤ◌, List, Some, length, unsigned_abs, refl, sym, ap, subst, arith}
use Rattle.std.proofs.lemmas.Int.{by_lt_z, ints}
use Rattle.chrono_text.specs.Text.{year_text}
use Rattle.chrono_text.proofs.DigitLemmas.{by_size}
use Rattle.chrono_text.proofs.TextLemmas.{length-calendar_text, year_digits-least, year_text-more}
use Rattle.chrono_calendar.specs.Days.{day_number_of_yo, year_of}
use Rattle.chrono_calendar.proofs.GivenNames.{given_ymd}
use Rattle.chrono_calendar.proofs.Names.{year_of-number}
use Rattle.chrono_calendar.proofs.Rising.{year_of-rises}
use Rattle.chrono_calendar.proofs.Signed.{signed}
use Rattle.chrono_calendar.proofs.Years.{IsYear-small, days_before_year-closed}
use Rattle.chrono_datetime.specs.Moment.{Moment}
use Rattle.chrono_instant.specs.Instants.{IsEpochSecond, epoch_second}
use Rattle.chrono_instant.specs.Offsets.{IsOffset}
use Rattle.chrono_datetime.specs.Time.{TimeOfDay, time_at}
use Rattle.chrono_reading.specs.DateTexts.{IsDateText}
use Rattle.chrono_reading.specs.TimeTexts.{IsTimeText}
use Rattle.std.proofs.lemmas.Bool.Decides.{nat_tests}

-- the size of a year has four digits at least, and from 10,000 on a sign stands in front of it
pub four_digits : (y : ℤ) → unsigned_abs y < 1_000_000 → length (year_text y) ≡ 4 → (pos 0 ≤ℤ y) × (y ≤ℤ pos 9_999)
four_digits (negsuc n) small four = absurd (omega (arith, four, year_digits-least (suc n) small))
four_digits (pos n) small four = by_size 10_000 n
    (λ low. (omega (arith, ints), omega (arith, ints, low)))
    (λ high. absurd (omega (arith, ap length (year_text-more n high), four, year_digits-least n small)))

-- the size of a year from 0 to 9999
pub four_places : (y : ℤ) → pos 0 ≤ℤ y → y ≤ℤ pos 9_999 → (unsigned_abs y < 10_000) × (pos (unsigned_abs y) ≡ y)
four_places (pos n) low high = (omega (arith, ints, high), refl)
four_places (negsuc n) low high = absurd (omega (arith, ints, low))

-- the first days of the years 0 and 10,000
year_nought : day_number_of_yo (pos 0) 1 ≡ neg_ℤ (pos 365)
year_nought = omega (arith, signed, days_before_year-closed (pos 0))

year_before : day_number_of_yo (neg_ℤ (pos 1)) 365 ≡ neg_ℤ (pos 366)
year_before = omega (arith, signed, days_before_year-closed (neg_ℤ (pos 1)))

year_10_000 : day_number_of_yo (pos 10_000) 1 ≡ pos 3_652_060
year_10_000 = omega (arith, signed, days_before_year-closed (pos 10_000))

pub near_days : (n : ℤ) → pos 0 ≤ℤ year_of n → year_of n ≤ℤ pos 9_999 → (neg_ℤ (pos 365) ≤ℤ n) × (n <ℤ pos 3_652_060)
near_days n low high = (
  by_lt_z n (neg_ℤ (pos 365))
      (λ lt.
      let before : year_of (neg_ℤ (pos 366)) ≡ neg_ℤ (pos 1) = year_of-number (neg_ℤ (pos 366)) (neg_ℤ (pos 1)) 365 year_before (omega arith, omega arith) in
      absurd (omega (arith, ints, low, before, year_of-rises n (neg_ℤ (pos 366)) (omega (arith, ints, lt)))))
      (λ ge. ge),
  by_lt_z n (pos 3_652_060)
      (λ lt. lt)
      (λ ge.
      let after : year_of (pos 3_652_060) ≡ pos 10_000 = year_of-number (pos 3_652_060) (pos 10_000) 1 year_10_000 (omega arith, omega arith) in
      absurd (omega (arith, ints, high, after, year_of-rises (pos 3_652_060) n ge))),
)

-- a date whose text has ten bytes is of these years
pub text_years : (text : List ℕ) (n : ℤ) → IsDateText text n → length text ≡ 10 → (pos 0 ≤ℤ year_of n) × (year_of n ≤ℤ pos 9_999)
text_years text n is ten =
    let given = given_ymd (Some n) is.year is.month is.day (sym is.names) in
    let four : length (year_text is.year) ≡ 4 = omega (arith, length-calendar_text is.year is.month is.day, ap (λ (l : List ℕ). length l) is.written, ten) in
    let range = four_digits is.year (IsYear-small is.year (given.0.0 refl).0) four in
    let same : year_of n ≡ is.year = given.1 in
    (subst (λ (y : ℤ). pos 0 ≤ℤ y) (sym same) range.0, subst (λ (y : ℤ). y ≤ℤ pos 9_999) (sym same) range.1)

pub text_near : (text : List ℕ) (n : ℤ) → IsDateText text n → length text ≡ 10 → (neg_ℤ (pos 365) ≤ℤ n) × (n <ℤ pos 3_652_060)
text_near text n is ten = let years = text_years text n is ten in near_days n years.0 years.1

-- so UTC has a date where a clock shows such a date, whatever its offset
pub second_near : (m : Moment) (x : ℤ) → (neg_ℤ (pos 365) ≤ℤ m.date) × (m.date <ℤ pos 3_652_060) → m.time.second < 86_400 → IsOffset x → IsEpochSecond (epoch_second m -ℤ x)
second_near m (pos n) near second small = (omega (arith, ints, near.0, near.1, second, small), omega (arith, ints, near.0, near.1, second, small))
second_near m (negsuc n) near second small = (omega (arith, ints, near.0, near.1, second, small), omega (arith, ints, near.0, near.1, second, small))

-- a clock shows no second past a day's end
shown_second : (b : Bool) (hour minute second nanos : ℕ) (t : TimeOfDay) → hour < 24 → minute < 60 → (b ≡ false → second < 60) → (if b then time_at hour minute 59 (1_000_000_000 + nanos) else time_at hour minute second nanos) ≡ t → t.second < 86_400
shown_second true hour minute second nanos t h m plain e = omega (arith, h, m, ap (λ (u : TimeOfDay). u.second) e)
shown_second false hour minute second nanos t h m plain e = omega (arith, h, m, plain refl, ap (λ (u : TimeOfDay). u.second) e)

not_sixty : (n : ℕ) → n ≤ 60 → (n == 60) ≡ false → n < 60
not_sixty n most other = grind (arith, nat_tests)

pub second_small : (text : List ℕ) (t : TimeOfDay) → IsTimeText text t → t.second < 86_400
second_small text t is =
    shown_second (is.second == 60) is.hour is.minute is.second is.nanos t is.hour_in_day is.minute_in_hour (not_sixty is.second is.second_in_minute) is.names
