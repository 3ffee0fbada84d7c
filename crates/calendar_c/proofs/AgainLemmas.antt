-- The numbers of what a move reaches and a text writes stand for it again.
use Rattle.std.proofs.Common.{◌≡◌, ℕ, ◌+◌, ◌<◌, ◌≤◌, ◌==◌, ◌&&◌, Bool, true, false, cond, List, Option, Some, None, refl, sym, subst, arith, ℤ, pos, ◌+ℤ◌, ◌-ℤ◌}
use Rattle.std.proofs.lemmas.Bool.{and_parts}
use Rattle.std.proofs.lemmas.Bool.Decides.{nat_tests}
use Rattle.std.proofs.lemmas.Option.{cond_some}
use Rattle.std.specs.Option.{option_and_then}
use Rattle.chrono_clock.specs.Time.{Landing, TimeOfDay, land, leap_landing, place, plain_landing, time_at}
use Rattle.chrono_clock.proofs.TimeLemmas.{by_leap, by_parts, land-leap, land-plain, leap_landing-before, leap_landing-inside, leap_landing-past}
use Rattle.chrono_units.specs.Years.{IsYear, is_year}
use Rattle.chrono_calendar.specs.Days.{IsDate, date_of_day, date_of_ymd, day_number_of_ymd, is_calendar_name}
use Rattle.chrono_calendar.proofs.Dates.{is_year-fact}
use Rattle.chrono_calendar.proofs.NamedDates.{IsDate-year, date_of_day-number, date_of_ymd-name}
use Rattle.chrono_calendar.proofs.Signed.{signed}
use Rattle.chrono_datetime.specs.Moment.{Moment, reach}
use Rattle.chrono_reading.specs.DateTimeTexts.{IsDateTimeText}
use Rattle.chrono_reading.specs.TimeTexts.{IsTimeText}
use Rattle.chrono_text.proofs.FractionLemmas.{IsFractionText-below}
use Rattle.numbers_c.specs.DateTimes.{moment_from_c, numbers_for_c, numbers_or_none, time_for_c, time_from_c}
use Rattle.numbers_c.specs.declared.date_time_numbers.CalendarDateTime.{CalendarDateTime}
use Rattle.numbers_c.proofs.DateTimeLemmas.{IsTimeNamed, found, moment_from_c-facts, moment_from_c-none, numbers_for_c-again, time_for_c-again}

-- ---- moves

abbrev IsNamed : TimeOfDay → Type 0
IsNamed t = IsTimeNamed t.second t.fraction

abbrev EndsNamed : Landing → Type 0
EndsNamed l = IsNamed l.time

plain_named : (p : ℤ) → EndsNamed (plain_landing p)
plain_named p = (omega (arith, signed), (omega arith, λ h. absurd (omega (arith, h))))

-- a move from inside a leap second ends inside it, at the same second, or in no leap second
leap_named : (s f : ℕ) (p : ℤ) → IsTimeNamed s f → 1_000_000_000 ≤ f → EndsNamed (leap_landing s p)
leap_named s f p h leap =
    by_parts p s
    (λ before. subst EndsNamed (sym (leap_landing-before s p before)) (plain_named p))
    (λ low high. subst EndsNamed (sym (leap_landing-inside s p low high)) (h.0, (omega (arith, signed, low, high), λ _. h.1.1 leap)))
    (λ past. subst EndsNamed (sym (leap_landing-past s p past)) (plain_named (p -ℤ pos 1_000_000_000)))

land-named : (t : TimeOfDay) (x : ℤ) → IsNamed t → EndsNamed (land t x)
land-named t x h =
    by_leap t
    (λ plain. subst EndsNamed (sym (land-plain t x plain)) (plain_named (pos (place t) +ℤ x)))
    (λ leap. subst EndsNamed (sym (land-leap t x leap)) (leap_named t.second t.fraction (pos (place t) +ℤ x) h leap))

reach-again : (o : Option Moment) (m : Moment) (x : ℤ) → IsNamed m.time → o ≡ reach m x → moment_from_c (numbers_or_none o) ≡ o
unfolding reach
reach-again None m x h e = moment_from_c-none None refl
reach-again (Some n) m x h e =
    let is = found true (date_of_day (m.date +ℤ (land m.time x).day)) (land m.time x).time n e in
    numbers_for_c-again n (date_of_day-number n.date (m.date +ℤ (land m.time x).day) (sym is.1)).0 (subst IsNamed is.2 (land-named m.time x h))

pub moved-again : (a : CalendarDateTime) (start : Option Moment) (by : Option ℤ) → start ≡ moment_from_c a → moment_from_c (numbers_or_none (option_and_then (λ m. option_and_then (reach m) by) start)) ≡ option_and_then (λ m. option_and_then (reach m) by) start
moved-again a None by e = moment_from_c-none None refl
moved-again a (Some m) None e = moment_from_c-none None refl
moved-again a (Some m) (Some x) e = reach-again (reach m x) m x (moment_from_c-facts a m e).1 refl

-- ---- texts

-- a named day of a year that has dates is a date
IsDate-named : (n y : ℤ) (m d : ℕ) → date_of_ymd y m d ≡ Some n → IsDate n
unfolding date_of_ymd
IsDate-named n y m d e =
    let is = cond_some (is_year y && is_calendar_name y m d) (day_number_of_ymd y m d) n e in
    IsDate-year n (subst IsYear (date_of_ymd-name n y m d e).0 (is_year-fact y (and_parts (is_year y) (is_calendar_name y m d) is.0).0))

either_named : (b : Bool) (t u : TimeOfDay) → IsNamed t → (b ≡ false → IsNamed u) → IsNamed (cond b t u)
either_named true t u f g = f
either_named false t u f g = g refl

IsNamed-shown : (text : List ℕ) (t : TimeOfDay) → IsTimeText text t → IsNamed t
IsNamed-shown text t h =
    let below = IsFractionText-below h.fraction h.nanos h.fraction_written in
    subst IsNamed h.names (either_named (h.second == 60) (time_at h.hour h.minute 59 (1_000_000_000 + h.nanos)) (time_at h.hour h.minute h.second h.nanos)
    (omega (arith, h.hour_in_day, h.minute_in_hour), (omega (arith, below), λ _. omega arith))
    (λ plain.
    let second : h.second < 60 = grind (arith, nat_tests, plain, h.second_in_minute) in
    (omega (arith, h.hour_in_day, h.minute_in_hour, second), (omega (arith, below), λ leap. absurd (omega (arith, below, leap))))))

pub text-again : (text : List ℕ) (m : Moment) → IsDateTimeText text m → moment_from_c (numbers_for_c m) ≡ Some m
text-again text m h =
    numbers_for_c-again m (IsDate-named m.date h.date_written.year h.date_written.month h.date_written.day h.date_written.names) (IsNamed-shown h.time m.time h.time_written)

pub time_text-again : (text : List ℕ) (t : TimeOfDay) → IsTimeText text t → time_from_c (time_for_c t) ≡ Some t
time_text-again text t h = time_for_c-again t (IsNamed-shown text t h)
