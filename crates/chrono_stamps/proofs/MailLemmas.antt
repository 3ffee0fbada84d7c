-- Every byte of the texts of RFC 2822 is ASCII.
use Rattle.std.proofs.Common.{◌/◌, ◌%◌, ◌<◌, ℤ, pos, ◌≤ℤ◌, unsigned_abs, [], ◌∷◌, take, arith}
use Rattle.std.proofs.lemmas.Str.{IsAscii-append}
use Rattle.std.proofs.lemmas.Str.Ascii.{IsAscii-cons}
use Rattle.std.specs.Int.{is_negative}
use Rattle.std.specs.Str.{IsAscii}
use Rattle.chrono_calendar.proofs.NamedDates.{day_of-small}
use Rattle.chrono_datetime.proofs.SetTexts.{IsAscii-weekday_text}
use Rattle.chrono_text.proofs.AsciiTexts.{IsAscii-all_digits, IsAscii-if, IsAscii-number_text, IsAscii-one, IsAscii-three, IsAscii-two_digits}
use Rattle.chrono_text.specs.Text.{all_digits, number_text, two_digits}
use Rattle.chrono_datetime.specs.Days.{day_of, month_of, year_of}
use Rattle.chrono_datetime.specs.Month.{month_from_number, month_name}
use Rattle.chrono_datetime.specs.Weeks.{weekday_of}
use Rattle.chrono_datetime.specs.WeekdayText.{weekday_text}
use Rattle.chrono_datetime.specs.declared.Month.{Month}
use Rattle.chrono_datetime.specs.declared.Month.TheVariants.{January, February, March, April, May, June, July, August, September, October, November, December}
use Rattle.chrono_instant.specs.Offsets.{IsOffset}
use Rattle.chrono_stamps.proofs.YearLemmas.{four_places}
use Rattle.chrono_stamps.specs.WrittenStamps.{mail_date_text, mail_zone_text, month_letters}

month_ascii : (m : Month) → IsAscii (take 3 (month_name m))
month_ascii January = IsAscii-three 74 97 110 (omega arith) (omega arith) (omega arith)
month_ascii February = IsAscii-three 70 101 98 (omega arith) (omega arith) (omega arith)
month_ascii March = IsAscii-three 77 97 114 (omega arith) (omega arith) (omega arith)
month_ascii April = IsAscii-three 65 112 114 (omega arith) (omega arith) (omega arith)
month_ascii May = IsAscii-three 77 97 121 (omega arith) (omega arith) (omega arith)
month_ascii June = IsAscii-three 74 117 110 (omega arith) (omega arith) (omega arith)
month_ascii July = IsAscii-three 74 117 108 (omega arith) (omega arith) (omega arith)
month_ascii August = IsAscii-three 65 117 103 (omega arith) (omega arith) (omega arith)
month_ascii September = IsAscii-three 83 101 112 (omega arith) (omega arith) (omega arith)
month_ascii October = IsAscii-three 79 99 116 (omega arith) (omega arith) (omega arith)
month_ascii November = IsAscii-three 78 111 118 (omega arith) (omega arith) (omega arith)
month_ascii December = IsAscii-three 68 101 99 (omega arith) (omega arith) (omega arith)

pub mail_date_ascii : (n : ℤ) → pos 0 ≤ℤ year_of n → year_of n ≤ℤ pos 9_999 → IsAscii (mail_date_text n)
mail_date_ascii n low high =
    let day : day_of n < 100 = omega (arith, day_of-small n) in
    let weekday = IsAscii-append (weekday_text (weekday_of n)) (44 ∷ 32 ∷ []) (IsAscii-weekday_text (weekday_of n)) (IsAscii-cons 44 (32 ∷ []) (omega arith) (IsAscii-one 32 (omega arith))) in
    let with_day = IsAscii-append _ (number_text (day_of n)) weekday (IsAscii-number_text (day_of n) day) in
    let spaced = IsAscii-append _ (32 ∷ []) with_day (IsAscii-one 32 (omega arith)) in
    let with_month = IsAscii-append _ (month_letters (month_of n)) spaced (month_ascii (month_from_number (month_of n))) in
    let before_year = IsAscii-append _ (32 ∷ []) with_month (IsAscii-one 32 (omega arith)) in
    IsAscii-append _ (all_digits 4 (unsigned_abs (year_of n))) before_year (IsAscii-all_digits 4 (unsigned_abs (year_of n)) (four_places (year_of n) low high).0)

pub zone_ascii : (x : ℤ) → IsOffset x → IsAscii (mail_zone_text x)
zone_ascii x small =
    let sign = IsAscii-if (is_negative x) (45 ∷ []) (43 ∷ []) (λ _. IsAscii-one 45 (omega arith)) (λ _. IsAscii-one 43 (omega arith)) in
    let hours = IsAscii-append _ (two_digits (unsigned_abs x / 3_600)) sign (IsAscii-two_digits (unsigned_abs x / 3_600) (omega (arith, small))) in
    IsAscii-append _ (two_digits (unsigned_abs x / 60 % 60)) hours (IsAscii-two_digits (unsigned_abs x / 60 % 60) (omega arith))
