-- Where the date of a date-time ends: no text of a date has a `T` or a space in it.
use Rattle.std.proofs.Common.{◌⊎◌, add-one, drop-cons, length-take, take-append-drop, subst, codes, Bool, true, not, ◌&&◌, ◌==◌, ◌≢◌, ◌-◌, ◌≡◌, ℕ, zero, suc, ◌+◌, ◌<◌, ◌≤◌, List, [], ◌∷◌, ◌++◌, length, get_or, take, drop, ℤ, pos, negsuc, unsigned_abs, inl, inr, Some, refl, sym, ap, ◌∙◌, arith, length-append}
use Rattle.std.specs.Fmt.{decimal}
use Rattle.std.specs.List.{AllByRecursion}
use Rattle.std.specs.Str.Parse.{AllDigits}
use Rattle.std.proofs.lemmas.Bool.{and_parts}
use Rattle.std.proofs.lemmas.Bool.Decides.{nat_tests}
use Rattle.std.proofs.lemmas.Fmt.{decimal_is_IsNumeral}
use Rattle.std.proofs.lemmas.List.{get_or-take, get_or_append_left, get_or_at, take_at, drop_at, drop-drop, take_rest}
use Rattle.std.proofs.lemmas.Str.Parse.{digit_from_value}
use Rattle.chrono_datetime.specs.Days.{IsDate}
use Rattle.chrono_datetime.specs.NameLaws.{DatesHaveOneCalendarName}
use Rattle.chrono_datetime.specs.Moment.{Moment, moment}
use Rattle.chrono_datetime.specs.Time.{TimeOfDay}
use Rattle.std.proofs.lemmas.Option.{same_Some}
use Rattle.chrono_text.specs.Text.{all_digits, two_digits, year_digits, year_text}
use Rattle.chrono_reading.specs.DateTexts.{IsDateText}
use Rattle.chrono_reading.specs.DateTimeErrors.{IsErrorAbout, IsOfNoDate, IsOfNoTime}
use Rattle.chrono_reading.specs.declared.error.ReadError.{ReadError}
use Rattle.chrono_reading.specs.DateTimeTexts.{IsSeparator, IsDateTimeText, SameDateTime}
use Rattle.chrono_reading.specs.TimeTexts.{IsTimeText}
use Rattle.chrono_reading.proofs.DateLemmas.{calendar_text-parts, date_of_ymd-small, date_text-same}
use Rattle.chrono_text.proofs.DigitLemmas.{by_size, to_digits}
use Rattle.chrono_reading.proofs.TimeTextLemmas.{IsTimeText-same}

-- no byte is a separator
abbrev IsJoined : List ℕ → Type 0
IsJoined text = AllByRecursion (λ c. ¬ IsSeparator c) text

IsJoined-append : (xs ys : List ℕ) → IsJoined xs → IsJoined ys → IsJoined (xs ++ ys)
IsJoined-append [] ys first second = second
IsJoined-append (x ∷ xs) ys first second = (first.0, IsJoined-append xs ys first.1 second)

IsJoined-at : (xs : List ℕ) (k : ℕ) → IsJoined xs → k < length xs → ¬ IsSeparator (get_or xs k 0)
IsJoined-at [] k all h = absurd (omega arith)
IsJoined-at (x ∷ xs) zero all h = all.0
IsJoined-at (x ∷ xs) (suc k) all h = IsJoined-at xs k all.1 (omega arith)

apart : (c : ℕ) → 43 ≤ c → c ≤ 57 → ¬ IsSeparator c
apart c low high (inl e) = omega arith
apart c low high (inr e) = omega arith

IsJoined-digits : (ds : List ℕ) → AllDigits 10 ds → IsJoined ds
IsJoined-digits [] all = tt
IsJoined-digits (c ∷ cs) all =
    let range = digit_from_value c all.0 in (apart c (omega arith) (omega arith), IsJoined-digits cs all.1)

IsJoined-year_digits : (n : ℕ) → n < 1_000_000 → IsJoined (year_digits n)
IsJoined-year_digits n below = by_size 10_000 n
    (λ small.
    let is : all_digits 4 n ≡ year_digits n = grind arith in
    subst IsJoined is (IsJoined-digits (all_digits 4 n) (to_digits 4 n (omega arith)).1))
    (λ large.
    let is : decimal n ≡ year_digits n = grind arith in
    subst IsJoined is (IsJoined-digits (decimal n) (decimal_is_IsNumeral n (omega arith)).0.1))

IsJoined-year_text : (y : ℤ) → unsigned_abs y < 1_000_000 → IsJoined (year_text y)
IsJoined-year_text (negsuc n) below = (apart 45 (omega arith) (omega arith), IsJoined-year_digits (suc n) below)
IsJoined-year_text (pos n) below = by_size 10_000 n
    (λ small.
    let is : all_digits 4 n ≡ year_text (pos n) = grind arith in
    subst IsJoined is (IsJoined-digits (all_digits 4 n) (to_digits 4 n (omega arith)).1))
    (λ large.
    let is : 43 ∷ year_digits n ≡ year_text (pos n) = grind arith in
    let signed : IsJoined (43 ∷ year_digits n) = (apart 43 (omega arith) (omega arith), IsJoined-year_digits n below) in
    subst IsJoined is signed)

IsJoined-two_digits : (n : ℕ) → n < 100 → IsJoined (two_digits n)
IsJoined-two_digits n below = (apart _ (omega arith) (omega arith), (apart _ (omega arith) (omega arith), tt))

IsJoined-date : (text : List ℕ) (n : ℤ) → IsDateText text n → IsJoined text
IsJoined-date text n is =
    let small = date_of_ymd-small is.year is.month is.day n is.names in
    let end : IsJoined (45 ∷ two_digits is.month ++ 45 ∷ two_digits is.day) =
    IsJoined-append (45 ∷ two_digits is.month) (45 ∷ two_digits is.day)
    (apart 45 (omega arith) (omega arith), IsJoined-two_digits is.month small.1)
    (apart 45 (omega arith) (omega arith), IsJoined-two_digits is.day small.2) in
    subst IsJoined (sym (calendar_text-parts is.year is.month is.day) ∙ is.written)
    (IsJoined-append (year_text is.year) (45 ∷ two_digits is.month ++ 45 ∷ two_digits is.day) (IsJoined-year_text is.year small.0) end)

-- the first separator of a date-time's text stands between the two
record Cut (text date time : List ℕ) (at : ℕ) : Type 0 where
  front : date ≡ take at text
  back : time ≡ take (length text - (at + 1)) (drop (at + 1) text)

length_between : (date time text : List ℕ) (s : ℕ) → date ++ s ∷ time ≡ text → length date < length text
length_between date time text s e = omega (arith, length-append date (s ∷ time), ap length e)

at_between : (date time text : List ℕ) (s : ℕ) → date ++ s ∷ time ≡ text → get_or text (length date) 0 ≡ s
at_between date time text s e = ap (λ (t : List ℕ). get_or t (length date) 0) (sym e) ∙ get_or_at date s time 0 (length date) refl

before_between : (date time text : List ℕ) (s k : ℕ) → date ++ s ∷ time ≡ text → k < length date → get_or text k 0 ≡ get_or date k 0
before_between date time text s k e h = ap (λ (t : List ℕ). get_or t k 0) (sym e) ∙ get_or_append_left date (s ∷ time) 0 k h

cut_there : (date time text : List ℕ) (s at : ℕ) → date ++ s ∷ time ≡ text → at ≡ length date → Cut text date time at
cut_there date time text s at e here = record {
  front = sym (take_at date (s ∷ time) at (sym here)) ∙ ap (take at) e;
  back = ap (drop 1) (sym (drop_at date (s ∷ time) at (sym here)) ∙ ap (drop at) e) ∙ drop-drop 1 at text ∙ sym (take_rest text (at + 1));
}

cut_of : (text : List ℕ) (m : Moment) (is : IsDateTimeText text m) (at : ℕ)
    → IsSeparator (get_or text at 0) → ((k : ℕ) → k < at → ¬ IsSeparator (get_or text k 0)) → Cut text is.date is.time at
cut_of text m is at found first = by_size at (length is.date)
    (λ past. absurd (first (length is.date) past (rw (sym (at_between is.date is.time text is.separator is.written)) at is.between)))
    (λ within. by_size (length is.date) at
    (λ inside. absurd (IsJoined-at is.date at (IsJoined-date is.date m.date is.date_written) inside (rw (before_between is.date is.time text is.separator at is.written inside) at found)))
    (λ reached. cut_there is.date is.time text is.separator at is.written (omega arith)))

-- so the date and the time are what stands before and behind it
pub IsDateTimeText-cut : (text : List ℕ) (m : Moment) (is : IsDateTimeText text m) (at : ℕ)
    → IsSeparator (get_or text at 0) → ((k : ℕ) → k < at → ¬ IsSeparator (get_or text k 0))
    → IsDateText (take at text) m.date × IsTimeText (take (length text - (at + 1)) (drop (at + 1) text)) m.time
IsDateTimeText-cut text m is at found first =
    let cut = cut_of text m is at found first in
    (rw cut.front at is.date_written, rw cut.back at is.time_written)

-- there is one
pub IsDateTimeText-some : (text : List ℕ) (m : Moment) → IsDateTimeText text m → ((k : ℕ) → k < length text → ¬ IsSeparator (get_or text k 0)) → ⊥
IsDateTimeText-some text m is none =
    none (length is.date) (length_between is.date is.time text is.separator is.written)
    (rw (sym (at_between is.date is.time text is.separator is.written)) at is.between)

-- whether no byte is a separator
is_joined : List ℕ → Bool
is_joined [] = true
is_joined (c ∷ cs) = (not (c == 84) && not (c == 32)) && is_joined cs

not_separator : (c : ℕ) → not (c == 84) ≡ true → not (c == 32) ≡ true → ¬ IsSeparator c
not_separator c t space (inl e) = let no : c ≢ 84 = grind (arith, nat_tests) in no e
not_separator c t space (inr e) = let no : c ≢ 32 = grind (arith, nat_tests) in no e

IsJoined-tested : (text : List ℕ) → is_joined text ≡ true → IsJoined text
unfolding is_joined
IsJoined-tested [] e = tt
IsJoined-tested (c ∷ cs) e =
    let parts = and_parts (not (c == 84) && not (c == 32)) (is_joined cs) e in
    let tests = and_parts (not (c == 84)) (not (c == 32)) parts.0 in
    (not_separator c tests.0 tests.1, IsJoined-tested cs parts.1)

-- with none there is no date-time
pub small_t : (m : Moment) → ¬ IsDateTimeText (codes "2024-02-29t23:59:60") m
unfolding is_joined
small_t m is =
    let all = IsJoined-tested (codes "2024-02-29t23:59:60") refl in
    IsDateTimeText-some (codes "2024-02-29t23:59:60") m is (λ k below. IsJoined-at (codes "2024-02-29t23:59:60") k all below)

-- the date and the time make the date-time
pub moment_found : (m : Moment) (made : Moment) (n : ℤ) (t : TimeOfDay) → made ≡ moment n t → Some n ≡ Some m.date → Some t ≡ Some m.time → Some made ≡ Some m
moment_found m made n t is date time = rw (is, same_Some n m.date date, same_Some t m.time time) refl

-- two texts of one date-time have the same date and show the same time
pub IsDateTimeText-same : (text other : List ℕ) (m : Moment) (n : ℤ) → n ≡ m.date → IsDate n → DatesHaveOneCalendarName
    → IsDateTimeText text m → IsDateTimeText other m → SameDateTime text other
IsDateTimeText-same text other m n same inside law is also =
    let date = date_text-same is.date also.date m.date n same inside law is.date_written also.date_written in record {
      date = is.date;
      separator = is.separator;
      other_separator = also.separator;
      time = is.time;
      other_time = also.time;
      between = (is.between, also.between);
      same_time = IsTimeText-same is.time also.time m.time is.time_written also.time_written;
      written = is.written;
      other_written = ap (λ (t : List ℕ). t ++ also.separator ∷ also.time) date ∙ also.written;
    }

-- the first separator ends the date of a text
pub IsErrorAbout-at : (text : List ℕ) (at : ℕ) (e : ReadError) → at < length text → IsSeparator (get_or text at 0) → ((k : ℕ) → k < at → ¬ IsSeparator (get_or text k 0))
    → IsOfNoDate (take at text) e ⊎ IsOfNoTime (take at text) (take (length text - (at + 1)) (drop (at + 1) text)) e → IsErrorAbout text e
IsErrorAbout-at text at e within found first error = record {
  date = take at text;
  separator = get_or text at 0;
  time = take (length text - (at + 1)) (drop (at + 1) text);
  first = λ k less.
      let before : k < at = omega (arith, less, length-take at text) in
      let same : get_or (take at text) k 0 ≡ get_or text k 0 = get_or-take at text k 0 before in
      subst (λ c. ¬ IsSeparator c) (sym same) (first k before);
  between = found;
  written =
      let behind : get_or text at 0 ∷ take (length text - (at + 1)) (drop (at + 1) text) ≡ drop at text = rw (take_rest text (at + 1), add-one) (sym (drop-cons text at 0 within)) in
      rw behind (take-append-drop at text);
  error = error;
}
