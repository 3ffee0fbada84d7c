-- Lemmas on the texts of dates.
use Rattle.std.proofs.Common.{◌≡◌, ℕ, ◌<◌, ◌≤◌, ℤ, pos, negsuc, ◌≤ℤ◌, Some, length, unsigned_abs, arith, sym, ◌∙◌}
use Rattle.std.proofs.lemmas.Int.{ints}
use Rattle.chrono_units.specs.Years.{IsYear}
use Rattle.chrono_text.specs.Text.{calendar_text}
use Rattle.chrono_text.proofs.TextLemmas.{calendar_text_injective, length-calendar_text, length-year_text-four, length-year_text-le}
use Rattle.chrono_calendar.specs.Days.{IsDate, date_of_ymd, day_number_of_ymd, year_of, month_of, day_of}
use Rattle.chrono_calendar.proofs.MonthMoveLaws.{year_of-range}
use Rattle.chrono_calendar.proofs.MonthOrder.{month_of-range}
use Rattle.chrono_calendar.proofs.NamedDates.{date_of_ymd-name, day_of-small, number-calendar_name}
use Rattle.chrono_text.proofs.AsciiTexts.{IsAscii-calendar_text, IsAscii-week_text}
use Rattle.chrono_naive.specs.DateText.{date_text, iso_week_text}
use Rattle.chrono_naive.specs.Fields.{IsIsoYear, IsoYearAndWeek}
use Rattle.std.specs.Int.{IsInRange}
use Rattle.std.specs.Str.{IsAscii}
use Rattle.chrono_calendar.proofs.Years.{IsYear-small}

-- a date with a calendar name has that name's text
pub date_text-named : (n y : ℤ) (m d : ℕ) → date_of_ymd y m d ≡ Some n → date_text n ≡ calendar_text y m d
date_text-named n y m d e =
    let name = date_of_ymd-name n y m d e in
    λ i. calendar_text (sym name.0 i) (sym name.1 i) (sym name.2 i)

-- an ISO year's size has at most six digits
pub IsIsoYear-small : (y : ℤ) → IsIsoYear y → unsigned_abs y < 1_000_000
IsIsoYear-small (pos n) h = omega (arith, ints, h.1)
IsIsoYear-small (negsuc n) h = omega (arith, ints, h.0)

-- different dates have different texts
pub date_text_injective : (n m : ℤ) → IsDate n → IsDate m → date_text n ≡ date_text m → n ≡ m
date_text_injective n m first second e =
    let names =
    calendar_text_injective (year_of n) (year_of m) (month_of n) (month_of m) (day_of n) (day_of m)
    (omega (arith, IsYear-small (year_of n) (year_of-range n first)))
    (omega (arith, IsYear-small (year_of m) (year_of-range m second)))
    (omega (arith, month_of-range n)) (omega (arith, month_of-range m)) (omega (arith, day_of-small n)) (omega (arith, day_of-small m)) e
    in
    sym (number-calendar_name n) ∙ (λ i. day_number_of_ymd (names.0 i) (names.1 i) (names.2 i)) ∙ number-calendar_name m

-- every byte of the texts is ASCII
pub IsAscii-date_text : (n : ℤ) → IsYear (year_of n) → IsAscii (date_text n)
IsAscii-date_text n h =
    IsAscii-calendar_text (year_of n) (month_of n) (day_of n) (omega (arith, IsYear-small (year_of n) h)) (omega (arith, month_of-range n)) (omega (arith, day_of-small n))

pub IsAscii-iso_week_text : (w : IsoYearAndWeek) → IsIsoYear w.year → IsInRange 1 53 w.week → IsAscii (iso_week_text w)
IsAscii-iso_week_text w h k = IsAscii-week_text w.year w.week (omega (arith, IsIsoYear-small w.year h)) (omega (arith, k.1))

-- how long a date's text is
pub length-date_text-four : (n : ℤ) → pos 0 ≤ℤ year_of n → year_of n ≤ℤ pos 9_999 → length (date_text n) ≡ 10
length-date_text-four n low high = omega (arith, length-calendar_text (year_of n) (month_of n) (day_of n), length-year_text-four (year_of n) low high)

pub length-date_text-le : (n : ℤ) → IsDate n → length (date_text n) ≤ 13
length-date_text-le n h = omega (arith, length-calendar_text (year_of n) (month_of n) (day_of n), length-year_text-le (year_of n) (IsYear-small (year_of n) (year_of-range n h)))
