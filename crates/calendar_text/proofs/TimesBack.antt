-- A time that is written is read back.
use Rattle.std.proofs.Common.{◌≡◌, ℕ, ◌+◌, ◌*◌, ◌/◌, ◌%◌, ◌<◌, if◌then◌else◌, List, [], ◌∷◌, ◌++◌, min, Some, None, ℤ, sym, ap, ap₂, ◌∙◌, arith}
use Rattle.std.specs.Prelude.{nat_le, nat_lt, ◌&&◌}
use Rattle.std.specs.Option.{option_map}
use Rattle.std.proofs.lemmas.Bool.{and_from, le-leb, lt-ltb}
use Rattle.chrono_text.specs.Text.{two_digits}
use Rattle.chrono_text.specs.Numbers.{digits_of}
use Rattle.chrono_text.proofs.NaturalLemmas.{two_digits-read}
use Rattle.chrono_datetime.specs.Days.{date_of_ymd, day_of, month_of, year_of}
use Rattle.chrono_datetime.specs.Moment.{Moment}
use Rattle.chrono_datetime.specs.Time.{TimeOfDay, hour_of, minute_of, second_of, time_at}
use Rattle.chrono_datetime.proofs.NamedDates.{IsDate-year, date_of_ymd-again}
use Rattle.chrono_datetime.proofs.Signed.{signed}
use Rattle.chrono_rules.specs.RuleTexts.{date_of}
use Rattle.chrono_rules.specs.WrittenRules.{basic_date_text}
use Rattle.chrono_rules.proofs.DayTexts.{eight_back, name_small, year_digits}
use Rattle.calendar_text.specs.CalendarTimes.{HasFourDigits, CanBeReadBack, IsWritableMoment, clock_of, clock_of_parts, basic_clock_text, moment_of, moment_of_parts, basic_moment_text, time_of, calendar_time_text}
use Rattle.calendar_text.specs.declared.calendar_time.CalendarTime.{CalendarTime}
use Rattle.calendar_text.specs.declared.calendar_time.CalendarTime.TheVariants.{Date, Local, Utc}

-- ---- a date in eight digits

-- the eight bytes
abbrev eight : ℕ → ℕ → ℕ → List ℕ
eight y m d = ((two_digits (y / 100) ++ two_digits (y % 100)) ++ two_digits m) ++ two_digits d

-- a date's text is eight bytes, of which the date is read
record IsEight (n : ℤ) : Type 0 where
  y : ℕ
  m : ℕ
  d : ℕ
  written : basic_date_text n ≡ eight y m d
  read : date_of (eight y m d) ≡ Some n

day_back : (n : ℤ) → HasFourDigits n → IsEight n
day_back n (low, high) =
    let year = year_digits (year_of n) low high in
    let size = name_small n in
    let is = IsDate-year n (omega (arith, signed, low), omega (arith, signed, high)) in
    record {
      y = year.0;
      m = month_of n;
      d = day_of n;
      written = ap (λ text. (text ++ two_digits (month_of n)) ++ two_digits (day_of n)) year.3;
      read = eight_back year.0 (month_of n) (day_of n) year.2 size.0 size.1 ∙ ap (λ y. date_of_ymd y (month_of n) (day_of n)) (sym year.1) ∙ date_of_ymd-again n is;
    }

-- ---- a time of day in six digits

same_time : (t : TimeOfDay) → t.second < 86_400 → t.fraction ≡ 0 → time_at (hour_of t) (minute_of t) (min (second_of t) 59) 0 ≡ t
same_time t small whole =
    let few : min (second_of t) 59 ≡ second_of t = omega arith in
    let second : hour_of t * 3_600 + minute_of t * 60 + min (second_of t) 59 ≡ t.second = omega (arith, few) in
    ap₂ (λ (s f : ℕ). let r : TimeOfDay = record { second = s; fraction = f } in r) second (sym whole)

clock_back : (t : TimeOfDay) → t.second < 86_400 → t.fraction ≡ 0 → clock_of (basic_clock_text t) ≡ Some t
unfolding clock_of
clock_back t small whole =
    let h = hour_of t in
    let m = minute_of t in
    let s = second_of t in
    let hour : h < 24 = omega arith in
    let minute : m < 60 = omega arith in
    let second : s < 60 = omega arith in
    let fits = and_from (nat_lt h 24) (nat_lt m 60 && nat_le s 60) (lt-ltb h 24 hour) (and_from (nat_lt m 60) (nat_le s 60) (lt-ltb m 60 minute) (le-leb s 60 (omega arith))) in
    ap (λ o. clock_of_parts o (digits_of 2 (two_digits m)) (digits_of 2 (two_digits s))) (two_digits-read h (omega arith))
    ∙ ap (λ o. clock_of_parts (Some h) o (digits_of 2 (two_digits s))) (two_digits-read m (omega arith))
    ∙ ap (λ o. clock_of_parts (Some h) (Some m) o) (two_digits-read s (omega arith))
    ∙ ap (λ t. if t then Some (time_at h m (min s 59) 0) else None) fits
    ∙ ap Some (same_time t small whole)

-- ---- a date-time

moment_back : (m : Moment) → IsWritableMoment m → moment_of (basic_moment_text m) ≡ Some m
unfolding moment_of
moment_back m is =
    let date = day_back m.date is.date in
    let clock = clock_back m.time is.second is.whole in
    ap (λ text. moment_of (text ++ (84 ∷ basic_clock_text m.time))) date.written
    ∙ ap (λ o. moment_of_parts o (clock_of (basic_clock_text m.time))) date.read
    ∙ ap (λ o. moment_of_parts (Some m.date) o) clock

pub time_back : (t : CalendarTime) → CanBeReadBack t → time_of (calendar_time_text t) ≡ Some t
unfolding time_of calendar_time_text CanBeReadBack
time_back (Date d) is =
    let date = day_back d is in
    ap time_of date.written ∙ ap (option_map Date) date.read
time_back (Local m) is =
    let date = day_back m.date is.date in
    ap (λ text. time_of (text ++ (84 ∷ basic_clock_text m.time))) date.written
    ∙ ap (λ text. option_map Local (moment_of (text ++ (84 ∷ basic_clock_text m.time)))) (sym date.written)
    ∙ ap (option_map Local) (moment_back m is)
time_back (Utc m) is =
    let date = day_back m.date is.date in
    ap (λ text. time_of ((text ++ (84 ∷ basic_clock_text m.time)) ++ (90 ∷ []))) date.written
    ∙ ap (λ text. option_map Utc (moment_of (text ++ (84 ∷ basic_clock_text m.time)))) (sym date.written)
    ∙ ap (option_map Utc) (moment_back m is)
