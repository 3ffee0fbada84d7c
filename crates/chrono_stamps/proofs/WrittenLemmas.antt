-- What is written is a text by the grammar, and whatever has a text by it is written.
use Rattle.std.proofs.Common.{◌≡◌, ◌⊎◌, inl, inr, ◌==◌, Bool, true, false, ◌&&◌, if◌then◌else◌, ℕ, ◌+◌, ◌-◌, ◌*◌, ◌/◌, ◌%◌, ◌^◌, ◌<◌, ◌≤◌, ℤ, pos, unsigned_abs, List, [], ◌∷◌, ◌++◌, codes, length, refl, sym, ap, subst, ◌∙◌, append_assoc, arith}
use Rattle.std.proofs.lemmas.Bool.{and_parts}
use Rattle.std.proofs.lemmas.Bool.Decides.{nat_tests}
use Rattle.std.proofs.lemmas.Int.{ints}
use Rattle.std.specs.Ordering.{int_eq}
use Rattle.chrono_text.proofs.DigitLemmas.{by_size}
use Rattle.chrono_text.proofs.FractionLemmas.{IsFractionText-below}
use Rattle.chrono_text.specs.Fractions.{IsFractionText}
use Rattle.chrono_text.specs.Text.{clock_text}
use Rattle.chrono_naive.proofs.DateTextLemmas.{length-date_text-four}
use Rattle.chrono_datetime.specs.DateText.{date_text}
use Rattle.chrono_datetime.specs.Moment.{IsMoment, Moment}
use Rattle.chrono_datetime.specs.Time.{FractionFits, IsTime, TimeOfDay, hour_of, minute_of, second_of, time_at, time_with_fraction}
use Rattle.chrono_datetime.specs.TimeText.{time_text}
use Rattle.chrono_instant.specs.Offsets.{IsOffset}
use Rattle.chrono_instant.specs.OffsetText.{offset_text}
use Rattle.chrono_reading.proofs.TimeTextLemmas.{clock_digits}
use Rattle.chrono_reading.specs.DateTexts.{IsDateText}
use Rattle.chrono_reading.specs.TimeTexts.{IsTimeText}
use Rattle.chrono_stamps.specs.Fractions.{fraction_in, places_of}
use Rattle.chrono_stamps.specs.Rfc3339.{IsOffsetText, IsRfc3339Text}
use Rattle.chrono_stamps.specs.WrittenStamps.{HasStampText, moment_cut, nanos_past, offset_in, rfc3339_text, time_in, whole_second}
use Rattle.chrono_stamps.specs.declared.seconds_format.SecondsFormat.{SecondsFormat}
use Rattle.chrono_stamps.specs.declared.seconds_format.SecondsFormat.TheVariants.{Secs, Millis, Micros, Nanos, AutoSi}
use Rattle.chrono_stamps.proofs.OffsetLemmas.{six_bytes, whole_minutes}
use Rattle.chrono_stamps.proofs.YearLemmas.{text_years}

-- ---- fractions

abbrev AreFew : ℕ → Type 0
AreFew places = (places ≡ 0) ⊎ ((places ≡ 3) ⊎ ((places ≡ 6) ⊎ (places ≡ 9)))

few_of : (a b c : Bool) → AreFew (if a then 0 else (if b then 3 else (if c then 6 else 9)))
few_of true b c = inl refl
few_of false true c = inr (inl refl)
few_of false false true = inr (inr (inl refl))
few_of false false false = inr (inr (inr refl))

few_places : (form : SecondsFormat) (n : ℕ) → AreFew (places_of form n)
few_places Secs n = inl refl
few_places Millis n = inr (inl refl)
few_places Micros n = inr (inr (inl refl))
few_places Nanos n = inr (inr (inr refl))
few_places AutoSi n = few_of (n == 0) (n % 1_000_000 == 0) (n % 1_000 == 0)

abbrev IsCut : ℕ → ℕ → Type 0
IsCut n places = IsFractionText (fraction_in places n) (n - n % 10 ^ (9 - places))

cut_fraction : (places n : ℕ) → AreFew places → n < 1_000_000_000 → IsCut n places
cut_fraction places n (inl e) small = subst (IsCut n) (sym e) (inl (refl, omega arith))
cut_fraction places n (inr (inl e)) small = subst (IsCut n) (sym e) (inr (record { places = 3; count = n / 1_000_000; some = (omega arith, omega arith); below = omega arith; worth = omega arith; written = refl }))
cut_fraction places n (inr (inr (inl e))) small = subst (IsCut n) (sym e) (inr (record { places = 6; count = n / 1_000; some = (omega arith, omega arith); below = omega arith; worth = omega arith; written = refl }))
cut_fraction places n (inr (inr (inr e))) small = subst (IsCut n) (sym e) (inr (record { places = 9; count = n / 1; some = (omega arith, omega arith); below = omega arith; worth = omega arith; written = refl }))

-- ---- times

pub plain_clock : (t : TimeOfDay) → t.fraction - nanos_past t ≡ 0 → time_text (whole_second t) ≡ clock_digits (hour_of t) (minute_of t) (second_of t)
plain_clock t e = ap (λ f. clock_text (hour_of t) (minute_of t) (second_of t) f) e

pub leap_clock : (t : TimeOfDay) → t.fraction - nanos_past t ≡ 1_000_000_000 → time_text (whole_second t) ≡ clock_digits (hour_of t) (minute_of t) (second_of t + 1)
leap_clock t e = ap (λ f. clock_text (hour_of t) (minute_of t) (second_of t) f) e

shown : (b : Bool) (hour minute second nanos : ℕ) (t : TimeOfDay)
    → (b ≡ true → (hour * 3_600 + minute * 60 + 59 ≡ t.second) × (1_000_000_000 + nanos ≡ t.fraction))
    → (b ≡ false → (hour * 3_600 + minute * 60 + second ≡ t.second) × (nanos ≡ t.fraction))
    → (if b then time_at hour minute 59 (1_000_000_000 + nanos) else time_at hour minute second nanos) ≡ t
shown true hour minute second nanos t f g = let e = f refl in rw (e.0, e.1) refl
shown false hour minute second nanos t f g = let e = g refl in rw (e.0, e.1) refl

is_sixty : (n : ℕ) → (n == 60) ≡ true → n ≡ 60
is_sixty n e = grind (arith, nat_tests)

not_sixty : (n : ℕ) → n ≡ 60 → (n == 60) ≡ false → ⊥
not_sixty n e f = grind (arith, nat_tests)

pub time_written : (form : SecondsFormat) (t : TimeOfDay) → IsTime t → FractionFits (second_of t) t.fraction
    → IsTimeText (time_in form t) (time_with_fraction t (t.fraction - nanos_past t % 10 ^ (9 - places_of form (nanos_past t))))
time_written form t is fits =
    let n = nanos_past t in
    let places = places_of form n in
    let lost = n % 10 ^ (9 - places) in
    let end = time_with_fraction t (t.fraction - lost) in
    let fraction = cut_fraction places n (few_places form n) (omega arith) in
    let less : lost ≤ n = omega arith in
    by_size 1_000_000_000 t.fraction
    (λ plain. record {
      hour = hour_of t;
      minute = minute_of t;
      second = second_of t;
      nanos = n - lost;
      fraction = fraction_in places n;
      hour_in_day = omega (arith, is.second);
      minute_in_hour = omega arith;
      second_in_minute = omega arith;
      names = shown (second_of t == 60) (hour_of t) (minute_of t) (second_of t) (n - lost) end
          (λ sixty. absurd (omega (arith, is_sixty (second_of t) sixty)))
          (λ _. (omega arith, omega (arith, less)));
      fraction_written = fraction;
      written = ap (λ (l : List ℕ). l ++ fraction_in places n) (sym (plain_clock t (omega arith)));
    })
    (λ leap.
    let last : second_of t ≡ 59 = fits.1 leap in
    record {
      hour = hour_of t;
      minute = minute_of t;
      second = second_of t + 1;
      nanos = n - lost;
      fraction = fraction_in places n;
      hour_in_day = omega (arith, is.second);
      minute_in_hour = omega arith;
      second_in_minute = omega arith;
      names = shown (second_of t + 1 == 60) (hour_of t) (minute_of t) (second_of t + 1) (n - lost) end
          (λ _. (omega arith, omega (arith, less, fits.0)))
          (λ other. absurd (not_sixty (second_of t + 1) (omega (arith, last)) other));
      fraction_written = fraction;
      written = ap (λ (l : List ℕ). l ++ fraction_in places n) (sym (leap_clock t (omega (arith, fits.0))));
    })

-- ---- offsets

zero_of : (x : ℤ) → int_eq x (pos 0) ≡ true → x ≡ pos 0
zero_of x e = grind (arith, ints)

by_wish : (b : Bool) (x : ℤ) → IsOffset x → unsigned_abs x % 60 ≡ 0 → (b ≡ true → x ≡ pos 0) → IsOffsetText (if b then codes "Z" else offset_text x) x
by_wish true x small whole f = inl (inl refl, f refl)
by_wish false x small whole f = inr (inr (record { in_range = small; written = refl; minutes_end_it = six_bytes x whole }))

offset_written : (use_z : Bool) (x : ℤ) → IsOffset x → unsigned_abs x % 60 ≡ 0 → IsOffsetText (offset_in use_z x) x
offset_written use_z x small whole = by_wish (use_z && int_eq x (pos 0)) x small whole (λ e. zero_of x (and_parts use_z (int_eq x (pos 0)) e).1)

-- ---- both ways

pub stamp_written : (form : SecondsFormat) (use_z : Bool) (m : Moment) (x : ℤ) → IsMoment m → IsOffset x → HasStampText m x → IsDateText (date_text m.date) m.date → IsRfc3339Text (rfc3339_text form use_z m x) (moment_cut form m) x
stamp_written form use_z m x is small has date = record {
  date = date_text m.date;
  separator = 84;
  time = time_in form m.time;
  offset = offset_in use_z x;
  date_written = date;
  year_has_four_digits = length-date_text-four m.date has.year.0 has.year.1;
  between = inl refl;
  time_written = time_written form m.time is.time has.leap;
  offset_written = offset_written use_z x small has.offset;
  written = ap (λ (l : List ℕ). l ++ offset_in use_z x) (sym (append_assoc (date_text m.date) (84 ∷ []) (time_in form m.time)));
}

whole_offset : (text : List ℕ) (x : ℤ) → IsOffsetText text x → unsigned_abs x % 60 ≡ 0
whole_offset text x (inl zulu) = rw zulu.1 refl
whole_offset text x (inr (inl zeros)) = rw zeros.1 refl
whole_offset text x (inr (inr is)) = whole_minutes x (ap (λ (l : List ℕ). length l) is.written ∙ is.minutes_end_it)

fits : (b : Bool) (hour minute second nanos : ℕ) (t : TimeOfDay) → nanos < 1_000_000_000
    → (if b then time_at hour minute 59 (1_000_000_000 + nanos) else time_at hour minute second nanos) ≡ t → FractionFits (second_of t) t.fraction
fits true hour minute second nanos t small e =
    let s = ap (λ (u : TimeOfDay). u.second) e in
    let f = ap (λ (u : TimeOfDay). u.fraction) e in
    (omega (arith, small, f), λ _. omega (arith, s))
fits false hour minute second nanos t small e =
    let f = ap (λ (u : TimeOfDay). u.fraction) e in
    (omega (arith, small, f), λ leap. absurd (omega (arith, small, f, leap)))

pub stamp_has_text : (text : List ℕ) (m : Moment) (x : ℤ) → IsRfc3339Text text m x → HasStampText m x
stamp_has_text text m x is =
    let time = is.time_written in
    record {
      year = text_years is.date m.date is.date_written is.year_has_four_digits;
      offset = whole_offset is.offset x is.offset_written;
      leap = fits (time.second == 60) time.hour time.minute time.second time.nanos m.time (IsFractionText-below time.fraction time.nanos time.fraction_written) time.names;
    }
