-- What is written of RFC 2822 is a text by its grammar.
use Rattle.std.proofs.Common.{◌≡◌, ◌==◌, ◌||◌, inl, inr, Bool, true, false, if◌then◌else◌, nat_lt, nat_le, ℕ, ◌+◌, ◌/◌, ◌%◌, ◌<◌, ◌≤◌, ℤ, pos, ◌≤ℤ◌, unsigned_abs, List, [], ◌∷◌, ◌++◌, codes, length, take, drop, Option, None, Some, refl, sym, ap, subst, ◌∙◌, append_assoc, eq-eqb, ne_eqb, arith}
use Rattle.std.proofs.Math.Seq.{drop-append_seam, take-append_seam}
use Rattle.std.proofs.lemmas.Bool.{and_from, and_parts, cases_eq}
use Rattle.std.proofs.lemmas.Bool.Decides.{nat_tests}
use Rattle.std.proofs.lemmas.Int.{ints}
use Rattle.std.proofs.lemmas.List.{append-nil}
use Rattle.std.specs.Int.{is_negative}
use Rattle.std.specs.List.{list_all, prefix_len}
use Rattle.std.specs.Option.{option_and_then}
use Rattle.std.specs.Str.{all_ascii_digits}
use Rattle.chrono_text.proofs.DigitLemmas.{by_size}
use Rattle.chrono_text.proofs.ListLemmas.{prefix_ends}
use Rattle.chrono_text.proofs.NaturalLemmas.{number_text-read, some_if}
use Rattle.chrono_text.specs.Numbers.{count_of, natural_of, up_to}
use Rattle.chrono_text.specs.Text.{all_digits, number_text, two_digits}
use Rattle.chrono_calendar.proofs.NamedDates.{calendar_name-exists, date_of_ymd-again, day_of-small}
use Rattle.chrono_datetime.specs.Days.{IsDate, day_of, month_of, year_of}
use Rattle.chrono_datetime.specs.Moment.{IsMoment, Moment}
use Rattle.chrono_datetime.specs.Month.{month_from_number, month_name, number_from_month}
use Rattle.chrono_datetime.specs.Names.{month_of_letters, weekday_of_letters}
use Rattle.chrono_datetime.specs.Time.{FractionFits, IsTime, TimeOfDay, hour_of, minute_of, second_of}
use Rattle.chrono_datetime.specs.TimeText.{time_text}
use Rattle.chrono_datetime.specs.Weeks.{weekday_of}
use Rattle.chrono_datetime.specs.WeekdayText.{weekday_text}
use Rattle.chrono_datetime.specs.declared.Month.{Month}
use Rattle.chrono_datetime.specs.declared.Month.TheVariants.{January, February, March, April, May, June, July, August, September, October, November, December}
use Rattle.chrono_datetime.specs.declared.Weekday.{Weekday}
use Rattle.chrono_datetime.specs.declared.Weekday.TheVariants.{Mon, Tue, Wed, Thu, Fri, Sat, Sun}
use Rattle.chrono_instant.specs.Offsets.{IsOffset}
use Rattle.chrono_instant.specs.OffsetText.{offset_size_text, offset_text}
use Rattle.chrono_reading.proofs.TimeTextLemmas.{clock_digits}
use Rattle.chrono_reading.specs.TimeTexts.{IsTimeText}
use Rattle.chrono_text.specs.Lists.{is_of_word}
use Rattle.chrono_stamps.specs.MailWords.{AreMailWords, IsColonWord, IsCommaWord, IsSpacedWord, IsMailWord, behind_gap, gap_end, gap_step, is_white}
use Rattle.chrono_stamps.specs.Rfc2822.{IsMailDate, IsRfc2822Text, IsZoneDigits}
use Rattle.chrono_stamps.specs.WrittenStamps.{HasStampText, mail_zone_text, moment_cut, month_letters, rfc2822_text, whole_second}
use Rattle.chrono_stamps.specs.declared.seconds_format.SecondsFormat.TheVariants.{Secs}
use Rattle.chrono_stamps.proofs.MailWordLemmas.{gap_end-none, gap_end-nothing}
use Rattle.chrono_stamps.proofs.OffsetLemmas.{seconds_none, six_bytes}
use Rattle.chrono_stamps.proofs.YearLemmas.{four_places, near_days, second_near}
use Rattle.chrono_stamps.proofs.WrittenLemmas.{leap_clock, plain_clock, time_written}

-- ---- words

-- a byte at least, and each of a word
pub record IsPlain (w : List ℕ) : Type 0 where
  pub some : 0 < length w
  pub whole : list_all is_of_word w ≡ true

first_byte : (c : ℕ) (w : List ℕ) → IsPlain (c ∷ w) → is_of_word c ≡ true
first_byte c w plain = (and_parts (is_of_word c) (list_all is_of_word w) plain.whole).0

pub word_in_front : (w r : List ℕ) → IsPlain w → prefix_len is_of_word r ≡ 0 → IsMailWord (w ++ r) w r
word_in_front w r plain stop =
    let long = prefix_ends is_of_word w r plain.whole stop in
    record {
      some = plain.some;
      front = ap (λ k. take k (w ++ r)) long ∙ take-append_seam w r;
      behind = ap (λ k. drop k (w ++ r)) long ∙ drop-append_seam w r;
    }

-- ---- white space in front of words

not_byte : (c k : ℕ) → is_of_word c ≡ true → is_of_word k ≡ false → (c == k) ≡ false
not_byte c k is other = ne_eqb c k (λ e. let both : true ≡ false = sym is ∙ ap is_of_word e ∙ other in cc)

step_is : (a b : Bool) (x y : Option (ℕ × Bool)) → a ≡ false → b ≡ false → (if a then x else (if b then y else None)) ≡ None
step_is a b x y e f = rw (e, f) refl

white_is : (a b c d : Bool) → a ≡ false → b ≡ false → c ≡ false → d ≡ false → (a || b) || (c || d) ≡ false
white_is a b c d e f g h = rw (e, f, g, h) refl

no_step : (c : ℕ) → is_of_word c ≡ true → gap_step 0 false c ≡ None
no_step c is = step_is (c == 40) (is_white c) _ _ (not_byte c 40 is refl) (white_is _ _ _ _ (not_byte c 32 is refl) (not_byte c 9 is refl) (not_byte c 10 is refl) (not_byte c 13 is refl))

pub no_gap : (w r : List ℕ) → IsPlain w → behind_gap (w ++ r) ≡ w ++ r
no_gap [] r plain = absurd (omega (arith, plain.some))
no_gap (c ∷ w) r plain = ap (λ (p : ℕ × List ℕ). p.1) (gap_end-none 0 false c (w ++ r) (no_step c (first_byte c w plain)))

pub space_gap : (w r : List ℕ) → IsPlain w → behind_gap (32 ∷ (w ++ r)) ≡ w ++ r
unfolding gap_end
space_gap w r plain = no_gap w r plain

pub spaced : (w r : List ℕ) → IsPlain w → prefix_len is_of_word r ≡ 0 → IsSpacedWord (32 ∷ (w ++ r)) w r
spaced w r plain stop = record {
  apart = omega (arith, ap (λ (l : List ℕ). length l) (space_gap w r plain));
  word_is = subst (λ (l : List ℕ). IsMailWord l w r) (sym (space_gap w r plain)) (word_in_front w r plain stop);
}

colon_stays : (l : List ℕ) → behind_gap (58 ∷ l) ≡ 58 ∷ l
unfolding gap_end
colon_stays l = refl

comma_stays : (l : List ℕ) → behind_gap (44 ∷ l) ≡ 44 ∷ l
unfolding gap_end
comma_stays l = refl

pub behind_colon : (w r : List ℕ) → IsPlain w → prefix_len is_of_word r ≡ 0 → IsColonWord (58 ∷ (w ++ r)) w r
behind_colon w r plain stop = record {
  after = w ++ r;
  colon = colon_stays (w ++ r);
  word_is = subst (λ (l : List ℕ). IsMailWord l w r) (sym (no_gap w r plain)) (word_in_front w r plain stop);
}

pub before_comma : (w r : List ℕ) → IsPlain w → IsCommaWord (w ++ 44 ∷ r) w r
before_comma w r plain = record {
  after = 44 ∷ r;
  word_is = subst (λ (l : List ℕ). IsMailWord l w (44 ∷ r)) (sym (no_gap w (44 ∷ r) plain)) (word_in_front w (44 ∷ r) plain refl);
  comma = comma_stays r;
}

front_word : (w r : List ℕ) → IsPlain w → prefix_len is_of_word r ≡ 0 → IsMailWord (behind_gap (32 ∷ (w ++ r))) w r
front_word w r plain stop = (spaced w r plain stop).word_is

-- words as they are written
pub laid_out : (weekday day month year hour minute second zone : List ℕ)
    → IsPlain weekday → IsPlain day → IsPlain month → IsPlain year → IsPlain hour → IsPlain minute → IsPlain second → IsPlain zone
    → AreMailWords (weekday ++ 44 ∷ (32 ∷ (day ++ 32 ∷ (month ++ 32 ∷ (year ++ 32 ∷ (hour ++ 58 ∷ (minute ++ 58 ∷ (second ++ 32 ∷ (zone ++ [])))))))))
    weekday day month year hour minute second zone []
laid_out weekday day month year hour minute second zone p q r s t u v w = record {
  after_weekday = 32 ∷ (day ++ 32 ∷ (month ++ 32 ∷ (year ++ 32 ∷ (hour ++ 58 ∷ (minute ++ 58 ∷ (second ++ 32 ∷ (zone ++ [])))))));
  after_day = 32 ∷ (month ++ 32 ∷ (year ++ 32 ∷ (hour ++ 58 ∷ (minute ++ 58 ∷ (second ++ 32 ∷ (zone ++ []))))));
  after_month = 32 ∷ (year ++ 32 ∷ (hour ++ 58 ∷ (minute ++ 58 ∷ (second ++ 32 ∷ (zone ++ [])))));
  after_year = 32 ∷ (hour ++ 58 ∷ (minute ++ 58 ∷ (second ++ 32 ∷ (zone ++ []))));
  after_hour = 58 ∷ (minute ++ 58 ∷ (second ++ 32 ∷ (zone ++ [])));
  after_minute = 58 ∷ (second ++ 32 ∷ (zone ++ []));
  after_second = 32 ∷ (zone ++ []);
  weekday_is = inl (before_comma weekday _ p);
  day_is = front_word day _ q refl;
  month_is = spaced month _ r refl;
  year_is = spaced year _ s refl;
  hour_is = spaced hour _ t refl;
  minute_is = behind_colon minute _ u refl;
  second_is = inl (behind_colon second _ v refl);
  zone_is = spaced zone [] w refl;
}

-- ---- the words that are written

more : (c : ℕ) (w : List ℕ) → is_of_word c ≡ true → list_all is_of_word w ≡ true → list_all is_of_word (c ∷ w) ≡ true
more c w is all = and_from (is_of_word c) (list_all is_of_word w) is all

pub digit_byte : (c : ℕ) → 48 ≤ c → c ≤ 57 → is_of_word c ≡ true
digit_byte c low high = grind (arith, nat_tests)

pub plain_two : (n : ℕ) → n < 100 → IsPlain (two_digits n)
plain_two n small = record {
  some = omega arith;
  whole = more (48 + n / 10) ((48 + n % 10) ∷ []) (digit_byte (48 + n / 10) (omega arith) (omega arith)) (more (48 + n % 10) [] (digit_byte (48 + n % 10) (omega arith) (omega arith)) refl);
}

pub plain_four : (n : ℕ) → n < 10_000 → IsPlain (all_digits 4 n)
plain_four n small =
    let a = 48 + n / 1_000 in
    let b = 48 + n % 1_000 / 100 in
    let c = 48 + n % 1_000 % 100 / 10 in
    let d = 48 + n % 1_000 % 100 % 10 / 1 in
    record {
      some = omega arith;
      whole = more a (b ∷ c ∷ d ∷ []) (digit_byte a (omega arith) (omega arith)) (more b (c ∷ d ∷ []) (digit_byte b (omega arith) (omega arith)) (more c (d ∷ []) (digit_byte c (omega arith) (omega arith)) (more d [] (digit_byte d (omega arith) (omega arith)) refl)));
    }

day_plain : (b : Bool) (n : ℕ) → n < 100 → (b ≡ true → n < 10) → IsPlain (if b then (48 + n) ∷ [] else two_digits n)
day_plain true n small few = record { some = omega arith; whole = more (48 + n) [] (digit_byte (48 + n) (omega arith) (omega (arith, few refl))) refl }
day_plain false n small few = plain_two n small

pub plain_day : (n : ℕ) → n < 100 → IsPlain (number_text n)
plain_day n small = day_plain (nat_lt n 10) n small (λ few. grind (arith, nat_tests))

plain_weekday : (d : Weekday) → IsPlain (weekday_text d)
plain_weekday Mon = record { some = omega arith; whole = refl }
plain_weekday Tue = record { some = omega arith; whole = refl }
plain_weekday Wed = record { some = omega arith; whole = refl }
plain_weekday Thu = record { some = omega arith; whole = refl }
plain_weekday Fri = record { some = omega arith; whole = refl }
plain_weekday Sat = record { some = omega arith; whole = refl }
plain_weekday Sun = record { some = omega arith; whole = refl }

plain_month : (m : Month) → IsPlain (take 3 (month_name m))
plain_month January = record { some = omega arith; whole = refl }
plain_month February = record { some = omega arith; whole = refl }
plain_month March = record { some = omega arith; whole = refl }
plain_month April = record { some = omega arith; whole = refl }
plain_month May = record { some = omega arith; whole = refl }
plain_month June = record { some = omega arith; whole = refl }
plain_month July = record { some = omega arith; whole = refl }
plain_month August = record { some = omega arith; whole = refl }
plain_month September = record { some = omega arith; whole = refl }
plain_month October = record { some = omega arith; whole = refl }
plain_month November = record { some = omega arith; whole = refl }
plain_month December = record { some = omega arith; whole = refl }

by_sign : (b : Bool) (h m : ℕ) → h < 100 → m < 100 → IsPlain ((if b then codes "-" else codes "+") ++ two_digits h ++ two_digits m)
by_sign b h m p q =
    let a = 48 + h / 10 in
    let d = 48 + h % 10 in
    let minutes = two_digits m in
    let all = more a (d ∷ minutes) (digit_byte a (omega arith) (omega arith)) (more d minutes (digit_byte d (omega arith) (omega arith)) (plain_two m q).whole) in
    elim b as (λ b. IsPlain ((if b then codes "-" else codes "+") ++ two_digits h ++ two_digits m)) [
      | true ↦ record { some = omega arith; whole = more 45 (a ∷ d ∷ minutes) refl all }
      | false ↦ record { some = omega arith; whole = more 43 (a ∷ d ∷ minutes) refl all }
    ]

pub plain_zone : (x : ℤ) → IsOffset x → IsPlain (mail_zone_text x)
plain_zone x small = by_sign (is_negative x) (unsigned_abs x / 3_600) (unsigned_abs x / 60 % 60) (omega (arith, small)) (omega arith)

-- ---- what they mean

pub weekday_read : (d : Weekday) → weekday_of_letters 3 (weekday_text d) ≡ Some d
unfolding weekday_of_letters
weekday_read Mon = refl
weekday_read Tue = refl
weekday_read Wed = refl
weekday_read Thu = refl
weekday_read Fri = refl
weekday_read Sat = refl
weekday_read Sun = refl

pub month_read : (m : Month) → month_of_letters (take 3 (month_name m)) ≡ Some m
unfolding month_of_letters
month_read January = refl
month_read February = refl
month_read March = refl
month_read April = refl
month_read May = refl
month_read June = refl
month_read July = refl
month_read August = refl
month_read September = refl
month_read October = refl
month_read November = refl
month_read December = refl

all_four : (a b c d : ℕ) → 48 ≤ a → a ≤ 57 → 48 ≤ b → b ≤ 57 → 48 ≤ c → c ≤ 57 → 48 ≤ d → d ≤ 57 → all_ascii_digits (a ∷ b ∷ c ∷ d ∷ []) ≡ true
all_four a b c d h i j k l m n o = grind (arith, nat_tests)

counted : (b : Bool) (v n : ℕ) → b ≡ true → v ≡ n → n < 10_000 → option_and_then (up_to 4_294_967_295) (if b then Some v else None) ≡ Some n
counted b v n e f small = rw (e, f) (some_if (nat_le n 4_294_967_295) n n (grind (arith, nat_tests)) refl)

pub year_read : (n : ℕ) → n < 10_000 → count_of (all_digits 4 n) ≡ Some n
unfolding count_of natural_of
year_read n small =
    let a = 48 + n / 1_000 in
    let b = 48 + n % 1_000 / 100 in
    let c = 48 + n % 1_000 % 100 / 10 in
    let d = 48 + n % 1_000 % 100 % 10 / 1 in
    counted (all_ascii_digits (a ∷ b ∷ c ∷ d ∷ [])) _ n (all_four a b c d (omega arith) (omega arith) (omega arith) (omega arith) (omega arith) (omega arith) (omega arith) (omega arith)) (omega arith) small

month_step : (n k : ℕ) (m rest : Month) → number_from_month m ≡ k → ((n ≡ k → ⊥) → number_from_month rest ≡ n) → number_from_month (if n == k then m else rest) ≡ n
month_step n k m rest e f = elim (cases_eq n k) [
  | inl same ↦ rw (eq-eqb n k same) (e ∙ sym same)
  | inr other ↦ rw (ne_eqb n k other) (f other)
]

pub month_number : (n : ℕ) → 1 ≤ n → n ≤ 12 → number_from_month (month_from_number n) ≡ n
month_number n low high =
    month_step n 1 January _ refl (λ a. month_step n 2 February _ refl (λ b. month_step n 3 March _ refl (λ c. month_step n 4 April _ refl
    (λ d. month_step n 5 May _ refl (λ e. month_step n 6 June _ refl (λ f. month_step n 7 July _ refl (λ g. month_step n 8 August _ refl
    (λ h. month_step n 9 September _ refl (λ i. month_step n 10 October _ refl (λ j. month_step n 11 November December refl (λ k. omega arith)))))))))))

zone_by : (b : Bool) (size minutes : List ℕ) (c d : ℕ) → size ≡ c ∷ d ∷ 58 ∷ minutes
    → (if b then codes "-" else codes "+") ++ size
    ≡ take 3 ((if b then codes "-" else codes "+") ++ c ∷ d ∷ [] ++ minutes) ++ codes ":" ++ drop 3 ((if b then codes "-" else codes "+") ++ c ∷ d ∷ [] ++ minutes)
zone_by true size minutes c d e = ap (λ (l : List ℕ). codes "-" ++ l) e
zone_by false size minutes c d e = ap (λ (l : List ℕ). codes "+" ++ l) e

zone_long : (b : Bool) (h m : ℕ) → length ((if b then codes "-" else codes "+") ++ two_digits h ++ two_digits m) ≡ 5
zone_long true h m = refl
zone_long false h m = refl

pub zone_read : (x : ℤ) → IsOffset x → unsigned_abs x % 60 ≡ 0 → IsZoneDigits (mail_zone_text x) x
zone_read x small whole =
    let n = unsigned_abs x in
    let size : offset_size_text n ≡ two_digits (n / 3_600) ++ 58 ∷ two_digits (n / 60 % 60) =
    ap (λ (l : List ℕ). two_digits (n / 3_600) ++ codes ":" ++ two_digits (n / 60 % 60) ++ l) (seconds_none (n % 60) whole) in
    let written : offset_text x ≡ take 3 (mail_zone_text x) ++ codes ":" ++ drop 3 (mail_zone_text x) =
    zone_by (is_negative x) (offset_size_text n) (two_digits (n / 60 % 60)) (48 + n / 3_600 / 10) (48 + n / 3_600 % 10) size in
    record {
      long = zone_long (is_negative x) (n / 3_600) (n / 60 % 60);
      six_bytes = inr (record { in_range = small; written = written; minutes_end_it = ap (λ (l : List ℕ). length l) (sym written) ∙ six_bytes x whole });
    }

-- ---- the whole text

date_read : (n : ℤ) → IsDate n → pos 0 ≤ℤ year_of n → year_of n ≤ℤ pos 9_999
    → IsMailDate (number_text (day_of n)) (month_letters (month_of n)) (all_digits 4 (unsigned_abs (year_of n))) n
date_read n is low high =
    let name = calendar_name-exists n in
    let year = four_places (year_of n) low high in
    let day : day_of n < 100 = omega (arith, day_of-small n) in
    record {
      day_number = day_of n;
      month_number = month_from_number (month_of n);
      year_number = unsigned_abs (year_of n);
      day_is = number_text-read (day_of n) day;
      month_is = month_read (month_from_number (month_of n));
      year_is = record {
        number = unsigned_abs (year_of n);
        read = year_read (unsigned_abs (year_of n)) year.0;
        long = omega arith;
        meant = refl;
        in_calendar = (omega (arith, ints), omega (arith, ints, year.0));
      };
      names = rw (year.1, month_number (month_of n) (omega (arith, name.0)) (omega (arith, name.0))) (date_of_ymd-again n is);
    }

-- the second that a time of day shows, and how it is written
pub second_of_text : (t : TimeOfDay) → IsTime t → FractionFits (second_of t) t.fraction → (s : ℕ) × (s < 100) × (time_text (whole_second t) ≡ clock_digits (hour_of t) (minute_of t) s)
second_of_text t is fits = by_size 1_000_000_000 t.fraction
    (λ plain. (second_of t, omega arith, plain_clock t (omega arith)))
    (λ leap. (second_of t + 1, omega arith, leap_clock t (omega (arith, fits.0))))

regroup : (weekday day month year time zone : List ℕ)
    → (weekday ++ codes ", " ++ day ++ codes " " ++ month ++ codes " " ++ year) ++ codes " " ++ time ++ codes " " ++ zone
    ≡ weekday ++ 44 ∷ (32 ∷ (day ++ 32 ∷ (month ++ 32 ∷ (year ++ 32 ∷ (time ++ 32 ∷ (zone ++ []))))))
regroup weekday day month year time zone = simp (append_assoc, append-nil) refl

pub mail_written : (m : Moment) (x : ℤ) → IsMoment m → IsOffset x → HasStampText m x
    → IsRfc2822Text (rfc2822_text m x) (moment_cut Secs m) x
mail_written m x is small has =
    let n = m.date in
    let t = m.time in
    let day : day_of n < 100 = omega (arith, day_of-small n) in
    let year = four_places (year_of n) has.year.0 has.year.1 in
    let shown = second_of_text t is.time has.leap in
    let hour : hour_of t < 100 = omega (arith, is.time.second) in
    let weekday_word = weekday_text (weekday_of n) in
    let words = laid_out weekday_word (number_text (day_of n)) (month_letters (month_of n)) (all_digits 4 (unsigned_abs (year_of n))) (two_digits (hour_of t)) (two_digits (minute_of t)) (two_digits shown.0) (mail_zone_text x)
    (plain_weekday (weekday_of n)) (plain_day (day_of n) day) (plain_month (month_from_number (month_of n))) (plain_four (unsigned_abs (year_of n)) year.0) (plain_two (hour_of t) hour) (plain_two (minute_of t) (omega arith)) (plain_two shown.0 shown.1) (plain_zone x small) in
    let grouped = regroup weekday_word (number_text (day_of n)) (month_letters (month_of n)) (all_digits 4 (unsigned_abs (year_of n))) (time_text (whole_second t)) (mail_zone_text x) in
    let whole = grouped ∙ ap (λ (l : List ℕ). weekday_word ++ 44 ∷ (32 ∷ (number_text (day_of n) ++ 32 ∷ (month_letters (month_of n) ++ 32 ∷ (all_digits 4 (unsigned_abs (year_of n)) ++ 32 ∷ (l ++ 32 ∷ (mail_zone_text x ++ []))))))) shown.2 in
    record {
      weekday = weekday_word;
      day = number_text (day_of n);
      month = month_letters (month_of n);
      year = all_digits 4 (unsigned_abs (year_of n));
      hour = two_digits (hour_of t);
      minute = two_digits (minute_of t);
      second = two_digits shown.0;
      zone = mail_zone_text x;
      end = [];
      words = subst (λ (l : List ℕ). AreMailWords l weekday_word (number_text (day_of n)) (month_letters (month_of n)) (all_digits 4 (unsigned_abs (year_of n))) (two_digits (hour_of t)) (two_digits (minute_of t)) (two_digits shown.0) (mail_zone_text x) []) (sym whole) words;
      ends = (ap (λ (p : ℕ × List ℕ). p.0) (gap_end-nothing 0 false), ap (λ (p : ℕ × List ℕ). p.1) (gap_end-nothing 0 false));
      weekday_is = inr (weekday_read (weekday_of n));
      date_is = date_read n is.date has.year.0 has.year.1;
      time_is = record {
        hour_in_two = refl;
        minute_in_two = refl;
        second_in_two = inl refl;
        clock = subst (λ (l : List ℕ). IsTimeText l (moment_cut Secs m).time) (append-nil (time_text (whole_second t)) ∙ shown.2) (time_written Secs t is.time has.leap);
      };
      zone_is = inl (zone_read x small has.offset);
      instant = second_near (moment_cut Secs m) x (near_days n has.year.0 has.year.1) is.time.second small;
    }
