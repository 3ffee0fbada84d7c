-- Texts that are near to one of a value, and are of none.
use Rattle.std.proofs.Common.{◌⊎◌, ◌≡◌, ◌≢◌, Bool, true, false, ℕ, suc, ◌^◌, ◌<◌, ◌≤◌, List, ◌∷◌, ◌++◌, codes, length, length-append, take, drop, ℤ, pos, negsuc, unsigned_abs, Some, None, inl, inr, refl, sym, ap, ◌∙◌, subst, length-take, arith}
use Rattle.std.specs.Char.{to_ascii_lowercase}
use Rattle.std.specs.Fmt.{decimal, sign_text}
use Rattle.std.proofs.lemmas.Fmt.{decimal_is_IsNumeral, first_decimal}
use Rattle.std.proofs.lemmas.List.{get_or_append_left, length-map}
use Rattle.std.specs.Int.{is_negative}
use Rattle.chrono_datetime.specs.Days.{date_of_ymd}
use Rattle.chrono_datetime.specs.Duration.{longest}
use Rattle.chrono_datetime.specs.Month.{month_name}
use Rattle.chrono_datetime.specs.declared.Month.{Month}
use Rattle.chrono_datetime.specs.declared.Weekday.{Weekday}
use Rattle.chrono_datetime.specs.declared.Weekday.TheVariants.{Mon, Tue, Wed, Thu, Fri, Sat, Sun}
use Rattle.chrono_datetime.specs.declared.Month.TheVariants.{January, February, March, April, May, June, July, August, September, October, November, December}
use Rattle.chrono_text.specs.Text.{all_digits, two_digits, year_digits, year_text}
use Rattle.chrono_datetime.specs.Time.{TimeOfDay}
use Rattle.chrono_reading.specs.DateTexts.{IsDateText}
use Rattle.chrono_reading.specs.DurationTexts.{IsDurationText, IsSecondsText}
use Rattle.chrono_datetime.specs.Names.{IsNameText, weekday_name}
use Rattle.chrono_text.specs.Fractions.{IsFractionText}
use Rattle.chrono_reading.specs.TimeTexts.{IsTimeText}
use Rattle.chrono_reading.specs.DateErrors.{HasDateParts}
use Rattle.chrono_reading.proofs.DateLemmas.{calendar_text-split, date_of_ymd-small, date_parts}
use Rattle.chrono_text.proofs.DigitLemmas.{by_size}
use Rattle.chrono_reading.proofs.DurationTextLemmas.{first_p, seconds_small}
use Rattle.chrono_reading.proofs.OneErrorLemmas.{byte}
use Rattle.chrono_text.proofs.FractionLemmas.{length-all_digits}
use Rattle.chrono_text.proofs.TextLemmas.{end_is, four_digit_size}

-- ---- names

-- a text is as long as the name, or three letters long
wrong_length : (text name : List ℕ) → length text ≢ 3 → length text < length name → 3 ≤ length name → IsNameText text name → ⊥
wrong_length text name not_three shorter long (inl e) =
    omega (arith, ap length e, length-map text to_ascii_lowercase, length-map name to_ascii_lowercase)
wrong_length text name not_three shorter long (inr e) =
    not_three (omega (arith, ap length e, length-map text to_ascii_lowercase, length-map (take 3 name) to_ascii_lowercase, length-take 3 name))

weekday_name-long : (d : Weekday) → 6 ≤ length (weekday_name d)
weekday_name-long Mon = omega arith
weekday_name-long Tue = omega arith
weekday_name-long Wed = omega arith
weekday_name-long Thu = omega arith
weekday_name-long Fri = omega arith
weekday_name-long Sat = omega arith
weekday_name-long Sun = omega arith

month_name-long : (m : Month) → 3 ≤ length (month_name m)
month_name-long January = omega arith
month_name-long February = omega arith
month_name-long March = omega arith
month_name-long April = omega arith
month_name-long May = omega arith
month_name-long June = omega arith
month_name-long July = omega arith
month_name-long August = omega arith
month_name-long September = omega arith
month_name-long October = omega arith
month_name-long November = omega arith
month_name-long December = omega arith

pub four_letters : (d : Weekday) → ¬ IsNameText (codes "Tues") (weekday_name d)
four_letters d is = let long = weekday_name-long d in wrong_length (codes "Tues") (weekday_name d) (λ e. omega arith) (omega arith) (omega arith) is

pub two_letters : (m : Month) → ¬ IsNameText (codes "Ja") (month_name m)
two_letters m is = let long = month_name-long m in wrong_length (codes "Ja") (month_name m) (λ e. omega arith) (omega arith) long is

-- ---- dates

-- a year whose text begins with a digit has four of them
four_digit_year : (y : ℤ) (text : List ℕ) → unsigned_abs y < 1_000_000 → year_text y ≡ text → 48 ≤ byte 0 text
    → (n : ℕ) × (y ≡ pos n) × (n < 10_000) × (all_digits 4 n ≡ text)
four_digit_year (negsuc n) text below e digit = absurd (omega (arith, ap (byte 0) e))
four_digit_year (pos n) text below e digit = by_size 10_000 n
    (λ small. let is : all_digits 4 n ≡ year_text (pos n) = grind arith in (n, refl, small, is ∙ e))
    (λ large. let is : 43 ∷ year_digits n ≡ year_text (pos n) = grind arith in absurd (omega (arith, ap (byte 0) (is ∙ e))))

-- and one whose text begins with a minus is before 0
minus_year : (y : ℤ) (text : List ℕ) → unsigned_abs y < 1_000_000 → year_text y ≡ 45 ∷ text → (n : ℕ) × (0 < n) × (n < 1_000_000) × (year_digits n ≡ text)
minus_year (negsuc n) text below e = (suc n, omega arith, omega arith, ap (drop 1) e)
minus_year (pos n) text below e = by_size 10_000 n
    (λ small. let is : all_digits 4 n ≡ year_text (pos n) = grind arith in absurd (omega (arith, ap (byte 0) (is ∙ e))))
    (λ large. let is : 43 ∷ year_digits n ≡ year_text (pos n) = grind arith in absurd (omega (arith, ap (byte 0) (is ∙ e))))

pub one_digit_month : (n : ℤ) → ¬ IsDateText (codes "2024-2-29") n
one_digit_month n is =
    let parts = calendar_text-split (codes "2024-2-29") is.year is.month is.day is.written in omega (arith, ap (byte 0) parts.1)

pub no_date_parts : (year : List ℕ) (m d : ℕ) → ¬ HasDateParts (codes "2024-2-29") year m d
no_date_parts year m d is =
    let parts = end_is (codes "2024-2-29") year (45 ∷ two_digits m ++ 45 ∷ two_digits d) 6 refl (sym (date_parts year m d) ∙ is.written) in omega (arith, ap (byte 0) parts.1)

no_such_day : (y : ℤ) (m d k : ℕ) (n : ℤ) → y ≡ pos k → k ≡ 1900 → m ≡ 2 → d ≡ 29 → date_of_ymd y m d ≡ Some n → ⊥
unfolding date_of_ymd
no_such_day y m d k n year number month day e =
    let none : date_of_ymd y m d ≡ None = rw (year, number, month, day) refl in cc

pub no_leap_day : (n : ℤ) → ¬ IsDateText (codes "1900-02-29") n
no_leap_day n is =
    let small = date_of_ymd-small is.year is.month is.day n is.names in
    let parts = calendar_text-split (codes "1900-02-29") is.year is.month is.day is.written in
    let year = four_digit_year is.year (codes "1900") small.0 parts.0 (omega arith) in
    no_such_day is.year is.month is.day year.0 n year.1
    (omega (arith, ap (byte 0) year.3, ap (byte 1) year.3, ap (byte 2) year.3, ap (byte 3) year.3))
    (omega (arith, ap (byte 1) parts.1, ap (byte 2) parts.1))
    (omega (arith, ap (byte 4) parts.1, ap (byte 5) parts.1))
    is.names

pub signed_zero : (n : ℤ) → ¬ IsDateText (codes "-0000-01-01") n
signed_zero n is =
    let small = date_of_ymd-small is.year is.month is.day n is.names in
    let parts = calendar_text-split (codes "-0000-01-01") is.year is.month is.day is.written in
    let year = minus_year is.year (codes "0000") small.0 parts.0 in
    let size = four_digit_size (codes "0000") year.0 year.2 year.3 refl in
    omega (arith, year.1, ap (byte 0) size.1, ap (byte 1) size.1, ap (byte 2) size.1, ap (byte 3) size.1)

-- ---- times

pub hour_24 : (t : TimeOfDay) → ¬ IsTimeText (codes "24:00:00") t
hour_24 t is = omega (arith, is.hour_in_day, ap (byte 0) is.written, ap (byte 1) is.written)

pub second_61 : (t : TimeOfDay) → ¬ IsTimeText (codes "23:59:61") t
second_61 t is = omega (arith, is.second_in_minute, ap (byte 6) is.written, ap (byte 7) is.written)

pub one_digit_hour : (t : TimeOfDay) → ¬ IsTimeText (codes "1:02:03") t
one_digit_hour t is = omega (arith, ap (byte 2) is.written)

-- a fraction is not a point alone
length-fraction : (text : List ℕ) (n : ℕ) → IsFractionText text n → length text ≢ 1
length-fraction text n (inl is) one = omega (arith, ap length is.0)
length-fraction text n (inr is) one = omega (arith, is.some.0, ap length is.written, length-all_digits is.places is.count)

pub no_digit : (t : TimeOfDay) → ¬ IsTimeText (codes "01:02:03.") t
no_digit t is = length-fraction is.fraction is.nanos is.fraction_written (omega (arith, ap length is.written))

-- ---- durations

signed_first : (negative : Bool) (size text : List ℕ) (n : ℕ) → IsSecondsText size n → sign_text negative ++ size ≡ text → (byte 0 text ≡ 45) ⊎ (byte 0 text ≡ 80)
signed_first true size text n is e = inl (sym (ap (byte 0) e))
signed_first false size text n is e = inr (sym (ap (byte 0) e) ∙ first_p size n is)

-- a duration's text begins with a minus or a `P`
first_byte : (text : List ℕ) (x : ℤ) → IsDurationText text x → (byte 0 text ≡ 45) ⊎ (byte 0 text ≡ 80)
first_byte text x (inl is) = inr (ap (byte 0) is.0)
first_byte text x (inr is) = signed_first (is_negative x) is.size text (unsigned_abs x) is.size_written is.written

neither : (b : ℕ) → b ≢ 45 → b ≢ 80 → (b ≡ 45) ⊎ (b ≡ 80) → ⊥
neither b minus p (inl e) = minus e
neither b minus p (inr e) = p e

pub small_letters : (x : ℤ) → ¬ IsDurationText (codes "pt1s") x
small_letters x is = neither 112 (λ e. omega arith) (λ e. omega arith) (first_byte (codes "pt1s") x is)

pub plus : (x : ℤ) → ¬ IsDurationText (codes "+PT1S") x
plus x is = neither 43 (λ e. omega arith) (λ e. omega arith) (first_byte (codes "+PT1S") x is)

no_fraction : (text : List ℕ) (n : ℕ) → IsFractionText text n → length text ≡ 0 → n ≡ 0
no_fraction text n (inl is) none = is.1
no_fraction text n (inr is) none = absurd (omega (arith, ap length is.written))

-- a number whose first digit is 0 is 0
only_zero : (n : ℕ) → n < 10 ^ 18 → byte 0 (decimal n) ≡ 48 → n ≡ 0
only_zero n below zero_first = by_size 1 n
    (λ none. omega arith)
    (λ some. absurd (omega (arith, first_decimal n some (omega arith))))

zero_size : (n : ℕ) → IsSecondsText (codes "PT0S") n → n ≤ longest → n ≡ 0
zero_size n is within =
    let small = seconds_small (codes "PT0S") n is within in
    let digits = decimal is.seconds in
    let some : 0 < length digits = (decimal_is_IsNumeral is.seconds (omega arith)).0.0 in
    let behind : digits ++ is.fraction ++ codes "S" ≡ codes "0S" = ap (drop 2) is.written in
    let sum = length-append digits is.fraction in
    let size = length-append (digits ++ is.fraction) (codes "S") in
    let more : 0 < length (digits ++ is.fraction) = omega arith in
    let first : byte 0 digits ≡ 48 =
    sym (get_or_append_left digits is.fraction 0 0 some) ∙ sym (get_or_append_left (digits ++ is.fraction) (codes "S") 0 0 more) ∙ ap (byte 0) behind in
    let nanos = no_fraction is.fraction is.nanos is.fraction_written (omega (arith, ap length behind)) in
    omega (arith, is.names, only_zero is.seconds small first)

zero_signed : (negative : Bool) (size text : List ℕ) (n : ℕ) → text ≡ codes "PT0S" → IsSecondsText size n → n ≤ longest → 0 < n → sign_text negative ++ size ≡ text → ⊥
zero_signed true size text n zero_text is within some e = omega (arith, ap (byte 0) e, ap (byte 0) zero_text)
zero_signed false size text n zero_text is within some e =
    let none = zero_size n (subst (λ (t : List ℕ). IsSecondsText t n) (e ∙ zero_text) is) within in omega arith

pub zero_seconds : (x : ℤ) → ¬ IsDurationText (codes "PT0S") x
zero_seconds x (inl is) = omega (arith, ap (byte 1) is.0)
zero_seconds x (inr is) = zero_signed (is_negative x) is.size (codes "PT0S") (unsigned_abs x) refl is.size_written is.is_duration is.is_some is.written
