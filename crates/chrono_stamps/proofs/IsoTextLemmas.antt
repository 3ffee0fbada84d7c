-- What is written of ISO 8601 is a text by its grammar: where its date and its time end.
use Rattle.std.proofs.Common.{◌≡◌, ◌==◌, inl, inr, Bool, true, false, not, ◌||◌, if◌then◌else◌, nat_le, ℕ, suc, ◌+◌, ◌-◌, ◌/◌, ◌%◌, ◌<◌, ◌≤◌, ℤ, pos, negsuc, ◌-ℤ◌, unsigned_abs, List, [], ◌∷◌, ◌++◌, codes, length, take, drop, refl, sym, ap, subst, ◌∙◌, append_assoc, length-append, ne_eqb, arith}
use Rattle.std.proofs.lemmas.Bool.{and_from, lt-ltb}
use Rattle.std.proofs.lemmas.Bool.Decides.{nat_tests}
use Rattle.std.proofs.Math.Seq.{drop-append_seam, take-append_seam}
use Rattle.std.proofs.lemmas.Fmt.{decimal_is_IsNumeral}
use Rattle.std.proofs.lemmas.Str.Parse.{digit_from_value}
use Rattle.std.specs.Fmt.{decimal}
use Rattle.std.specs.Int.{is_negative}
use Rattle.std.specs.List.{AllByRecursion, list_all, position_or_len, prefix_len}
use Rattle.std.specs.Str.Parse.{AllDigits}
use Rattle.chrono_calendar.proofs.MonthMoveLaws.{year_of-range}
use Rattle.chrono_calendar.proofs.MonthOrder.{month_of-range}
use Rattle.chrono_calendar.proofs.Years.{IsYear-small}
use Rattle.chrono_calendar.proofs.NamedDates.{day_of-small}
use Rattle.chrono_datetime.specs.DateText.{date_text}
use Rattle.chrono_datetime.specs.Days.{IsDate, day_of, month_of, year_of}
use Rattle.chrono_datetime.specs.Moment.{IsMoment, Moment}
use Rattle.chrono_datetime.specs.Time.{IsTime, TimeOfDay, hour_of, minute_of, second_of}
use Rattle.chrono_datetime.specs.TimeText.{time_text}
use Rattle.chrono_instant.specs.Instants.{IsEpochSecond, epoch_second}
use Rattle.chrono_instant.specs.Offsets.{IsOffset}
use Rattle.chrono_instant.specs.OffsetText.{offset_size_text, offset_text}
use Rattle.chrono_reading.specs.DateTexts.{IsDateText}
use Rattle.chrono_reading.specs.TimeTexts.{IsTimeText}
use Rattle.chrono_text.proofs.DigitLemmas.{by_size, to_digits}
use Rattle.chrono_text.proofs.ListLemmas.{prefix_ends}
use Rattle.chrono_text.specs.Lists.{stands_in}
use Rattle.chrono_text.specs.Text.{all_digits, calendar_text, subsecond_text, two_digits, year_digits, year_text}
use Rattle.chrono_zoned.specs.ZonedText.{zoned_debug_text}
use Rattle.chrono_stamps.proofs.IsoFormLemmas.{form_as_it_is}
use Rattle.chrono_stamps.specs.IsoForms.{IsIso8601Text, is_basic}
use Rattle.chrono_reading.specs.Fitting.{fitting}
use Rattle.std.specs.Char.{is_ascii_digit}
use Rattle.chrono_text.proofs.TextLemmas.{year_text-four, year_text-more}
use Rattle.chrono_stamps.proofs.IsoOffsetLemmas.{shown_alone, signed_long}
use Rattle.chrono_stamps.specs.Iso8601.{IsExtendedText, IsIsoOffset, behind_date, clock_shown, date_part, is_of_time, offset_part, pointed, time_part}

-- ---- where bytes of a kind end

-- bytes from one to the colon: signs, points and digits stand before it
abbrev IsWithin : ℕ → List ℕ → Type 0
IsWithin low text = AllByRecursion (λ c. (low ≤ c) × (c ≤ 58)) text

passes : (p : ℕ → Bool) (low : ℕ) (text : List ℕ) → ((c : ℕ) → low ≤ c → c ≤ 58 → p c ≡ true) → IsWithin low text → list_all p text ≡ true
passes p low [] f all = refl
passes p low (c ∷ text) f all = and_from (p c) (list_all p text) (f c all.0.0 all.0.1) (passes p low text f all.1)

within-append : (low : ℕ) (xs ys : List ℕ) → IsWithin low xs → IsWithin low ys → IsWithin low (xs ++ ys)
within-append low [] ys first second = second
within-append low (x ∷ xs) ys first second = (first.0, within-append low xs ys first.1 second)

within-digits : (low : ℕ) (ds : List ℕ) → low ≤ 48 → AllDigits 10 ds → IsWithin low ds
within-digits low [] le all = tt
within-digits low (c ∷ cs) le all =
    let range = digit_from_value c all.0 in ((omega arith, omega arith), within-digits low cs le all.1)

within-two : (low n : ℕ) → low ≤ 48 → n < 100 → IsWithin low (two_digits n)
within-two low n le small = ((omega arith, omega arith), ((omega arith, omega arith), tt))

-- ---- dates

within-year_digits : (n : ℕ) → n < 1_000_000 → IsWithin 43 (year_digits n)
within-year_digits n below = by_size 10_000 n
    (λ small.
    let is : all_digits 4 n ≡ year_digits n = grind arith in
    subst (IsWithin 43) is (within-digits 43 (all_digits 4 n) (omega arith) (to_digits 4 n (omega arith)).1))
    (λ large.
    let is : decimal n ≡ year_digits n = grind arith in
    subst (IsWithin 43) is (within-digits 43 (decimal n) (omega arith) (decimal_is_IsNumeral n (omega arith)).0.1))

within-year_text : (y : ℤ) → unsigned_abs y < 1_000_000 → IsWithin 43 (year_text y)
within-year_text (negsuc n) below = ((omega arith, omega arith), within-year_digits (suc n) below)
within-year_text (pos n) below = by_size 10_000 n
    (λ small.
    let is : all_digits 4 n ≡ year_text (pos n) = grind arith in
    subst (IsWithin 43) is (within-digits 43 (all_digits 4 n) (omega arith) (to_digits 4 n (omega arith)).1))
    (λ large.
    let is : 43 ∷ year_digits n ≡ year_text (pos n) = grind arith in
    let signed : IsWithin 43 (43 ∷ year_digits n) = ((omega arith, omega arith), within-year_digits n below) in
    subst (IsWithin 43) is signed)

within-calendar : (y : ℤ) (m d : ℕ) → unsigned_abs y < 1_000_000 → m < 100 → d < 100 → IsWithin 43 (calendar_text y m d)
within-calendar y m d year month day =
    let dash : IsWithin 43 (codes "-") = ((omega arith, omega arith), tt) in
    let front = within-append 43 (year_text y) (codes "-") (within-year_text y year) dash in
    let middle = within-append 43 (year_text y ++ codes "-") (two_digits m) front (within-two 43 m (omega arith) month) in
    let before_day = within-append 43 (year_text y ++ codes "-" ++ two_digits m) (codes "-") middle dash in
    within-append 43 (year_text y ++ codes "-" ++ two_digits m ++ codes "-") (two_digits d) before_day (within-two 43 d (omega arith) day)

within-date_text : (n : ℤ) → IsDate n → IsWithin 43 (date_text n)
within-date_text n is =
    within-calendar (year_of n) (month_of n) (day_of n) (IsYear-small (year_of n) (year_of-range n is)) (omega (arith, month_of-range n)) (omega (arith, day_of-small n))

no_t : (c : ℕ) → 43 ≤ c → c ≤ 58 → not (c == 84) ≡ true
no_t c low high = ap not (ne_eqb c 84 (λ e. omega (arith, e, high)))

pub date_ends : (n : ℤ) (rest : List ℕ) → IsDate n → position_or_len (λ c. c == 84) (date_text n ++ 84 ∷ rest) ≡ length (date_text n)
date_ends n rest is = prefix_ends (λ c. not (c == 84)) (date_text n) (84 ∷ rest) (passes (λ c. not (c == 84)) 43 (date_text n) no_t (within-date_text n is)) refl

-- ---- times

within-subsecond : (a b c : Bool) (n : ℕ) → n < 1_000_000_000
    → IsWithin 46 (if a then [] else (if b then codes "." ++ all_digits 3 (n / 1_000_000) else (if c then codes "." ++ all_digits 6 (n / 1_000) else codes "." ++ all_digits 9 n)))
within-subsecond true b c n small = tt
within-subsecond false true c n small = ((omega arith, omega arith), within-digits 46 (all_digits 3 (n / 1_000_000)) (omega arith) (to_digits 3 (n / 1_000_000) (omega (arith, small))).1)
within-subsecond false false true n small = ((omega arith, omega arith), within-digits 46 (all_digits 6 (n / 1_000)) (omega arith) (to_digits 6 (n / 1_000) (omega (arith, small))).1)
within-subsecond false false false n small = ((omega arith, omega arith), within-digits 46 (all_digits 9 n) (omega arith) (to_digits 9 n (omega (arith, small))).1)

within-end : (b : Bool) (second fraction : ℕ) → second < 60 → (b ≡ true → fraction - 1_000_000_000 < 1_000_000_000) → (b ≡ false → fraction < 1_000_000_000)
    → IsWithin 46 (if b then two_digits (second + 1) ++ subsecond_text (fraction - 1_000_000_000) else two_digits second ++ subsecond_text fraction)
within-end true second fraction s leap plain =
    let n = fraction - 1_000_000_000 in
    within-append 46 (two_digits (second + 1)) (subsecond_text n) (within-two 46 (second + 1) (omega arith) (omega (arith, s))) (within-subsecond (n == 0) (n % 1_000_000 == 0) (n % 1_000 == 0) n (leap refl))
within-end false second fraction s leap plain =
    within-append 46 (two_digits second) (subsecond_text fraction) (within-two 46 second (omega arith) (omega (arith, s))) (within-subsecond (fraction == 0) (fraction % 1_000_000 == 0) (fraction % 1_000 == 0) fraction (plain refl))

within-time_text : (t : TimeOfDay) → IsTime t → t.fraction < 2_000_000_000 → IsWithin 46 (time_text t)
within-time_text t is small =
    let end = within-end (nat_le 1_000_000_000 t.fraction) (second_of t) t.fraction (omega arith) (λ _. omega (arith, small)) (λ plain. grind (arith, nat_tests, plain)) in
    ((omega (arith, is.second), omega (arith, is.second)), ((omega arith, omega arith), ((omega arith, omega arith), ((omega arith, omega arith), ((omega arith, omega arith), ((omega arith, omega arith), end))))))

no_offset : (c : ℕ) → 46 ≤ c → c ≤ 58 → is_of_time c ≡ true
no_offset c low high = rw (ne_eqb c 90 (λ e. omega (arith, e, high)), ne_eqb c 43 (λ e. omega (arith, e, low)), ne_eqb c 45 (λ e. omega (arith, e, low))) refl

signed_stops : (b : Bool) (size : List ℕ) → prefix_len is_of_time ((if b then codes "-" else codes "+") ++ size) ≡ 0
signed_stops true size = refl
signed_stops false size = refl

time_ends : (t : TimeOfDay) (x : ℤ) → IsTime t → t.fraction < 2_000_000_000 → prefix_len is_of_time (time_text t ++ offset_text x) ≡ length (time_text t)
time_ends t x is small =
    prefix_ends is_of_time (time_text t) (offset_text x) (passes is_of_time 46 (time_text t) no_offset (within-time_text t is small)) (signed_stops (is_negative x) (offset_size_text (unsigned_abs x)))

-- a time of two colons is shown as it is
shown_subsecond : (a b c : Bool) (n : ℕ)
    → pointed (drop 8 (take 19 (0 ∷ 0 ∷ 0 ∷ 0 ∷ 0 ∷ 0 ∷ 0 ∷ 0 ∷ (if a then [] else (if b then codes "." ++ all_digits 3 (n / 1_000_000) else (if c then codes "." ++ all_digits 6 (n / 1_000) else codes "." ++ all_digits 9 n))))))
    ≡ (if a then [] else (if b then codes "." ++ all_digits 3 (n / 1_000_000) else (if c then codes "." ++ all_digits 6 (n / 1_000) else codes "." ++ all_digits 9 n)))
shown_subsecond true b c n = refl
shown_subsecond false true c n = refl
shown_subsecond false false true n = refl
shown_subsecond false false false n = refl

shown_clock : (a b c d e f g h : ℕ) (end : List ℕ) → pointed (drop 8 (take 19 (0 ∷ 0 ∷ 0 ∷ 0 ∷ 0 ∷ 0 ∷ 0 ∷ 0 ∷ end))) ≡ end
    → clock_shown (a ∷ b ∷ c ∷ d ∷ e ∷ f ∷ g ∷ h ∷ end) ≡ a ∷ b ∷ c ∷ d ∷ e ∷ f ∷ g ∷ h ∷ end
unfolding clock_shown
shown_clock a b c d e f g h end is =
    let text = a ∷ b ∷ c ∷ d ∷ e ∷ f ∷ g ∷ h ∷ end in
    ap (λ b. if b then text ++ codes ":00" else take 8 text ++ pointed (drop 8 (take 19 text))) (ne_eqb (length text) 5 (λ five. omega (arith, five)))
    ∙ ap (λ (l : List ℕ). a ∷ b ∷ c ∷ d ∷ e ∷ f ∷ g ∷ h ∷ l) is

shown_end : (b : Bool) (t : TimeOfDay)
    → clock_shown (two_digits (hour_of t) ++ codes ":" ++ two_digits (minute_of t) ++ codes ":" ++ (if b then two_digits (second_of t + 1) ++ subsecond_text (t.fraction - 1_000_000_000) else two_digits (second_of t) ++ subsecond_text t.fraction))
    ≡ two_digits (hour_of t) ++ codes ":" ++ two_digits (minute_of t) ++ codes ":" ++ (if b then two_digits (second_of t + 1) ++ subsecond_text (t.fraction - 1_000_000_000) else two_digits (second_of t) ++ subsecond_text t.fraction)
shown_end true t = let n = t.fraction - 1_000_000_000 in shown_clock _ _ _ _ _ _ _ _ (subsecond_text n) (shown_subsecond (n == 0) (n % 1_000_000 == 0) (n % 1_000 == 0) n)
shown_end false t = let n = t.fraction in shown_clock _ _ _ _ _ _ _ _ (subsecond_text n) (shown_subsecond (n == 0) (n % 1_000_000 == 0) (n % 1_000 == 0) n)

shown_time : (t : TimeOfDay) → clock_shown (time_text t) ≡ time_text t
shown_time t = shown_end (nat_le 1_000_000_000 t.fraction) t

-- ---- the parts

offset_written : (x : ℤ) → IsOffset x → IsIsoOffset (offset_text x) x
offset_written x small =
    let long : 6 ≤ length (offset_text x) = signed_long (offset_text x) x (inr (small, refl)) in
    inr (inr (small, sym (shown_alone (offset_text x) (λ three. omega (arith, three, long)))))

record AreParts (date time offset text : List ℕ) : Type 0 where
  date_is : date_part text ≡ date
  time_is : time_part (behind_date text) ≡ time
  offset_is : offset_part (behind_date text) ≡ offset
  separated : stands_in 84 text ≡ true

parts_of : (date time offset : List ℕ) → position_or_len (λ c. c == 84) (date ++ 84 ∷ (time ++ offset)) ≡ length date → prefix_len is_of_time (time ++ offset) ≡ length time
    → AreParts date time offset (date ++ 84 ∷ [] ++ time ++ offset)
parts_of date time offset date_end time_end =
    let text = date ++ 84 ∷ [] ++ time ++ offset in
    let rest = time ++ offset in
    let cut : text ≡ (date ++ 84 ∷ []) ++ rest = append_assoc (date ++ 84 ∷ []) time offset in
    let laid : text ≡ date ++ 84 ∷ rest = cut ∙ append_assoc date (84 ∷ []) rest in
    let at : position_or_len (λ c. c == 84) text ≡ length date = ap (λ (l : List ℕ). position_or_len (λ c. c == 84) l) laid ∙ date_end in
    let front : date_part text ≡ date = ap (λ k. take k text) at ∙ ap (λ (l : List ℕ). take (length date) l) laid ∙ take-append_seam date (84 ∷ rest) in
    let back : behind_date text ≡ rest =
    ap (λ k. drop (k + 1) text) at ∙ ap (λ (l : List ℕ). drop (length date + 1) l) cut ∙ ap (λ k. drop k ((date ++ 84 ∷ []) ++ rest)) (sym (length-append date (84 ∷ []))) ∙ drop-append_seam (date ++ 84 ∷ []) rest in
    let less : position_or_len (λ c. c == 84) text < length text = omega (arith, at, ap (λ (l : List ℕ). length l) laid, length-append date (84 ∷ rest)) in
    let ends : prefix_len is_of_time (behind_date text) ≡ length time = ap (λ (l : List ℕ). prefix_len is_of_time l) back ∙ time_end in
    record {
      date_is = front;
      time_is = ap (λ k. take k (behind_date text)) ends ∙ ap (λ (l : List ℕ). take (length time) l) back ∙ take-append_seam time offset;
      offset_is = ap (λ k. drop k (behind_date text)) ends ∙ ap (λ (l : List ℕ). drop (length time) l) back ∙ drop-append_seam time offset;
      separated = lt-ltb _ _ less;
    }

-- ---- the form

four_fit : (p q r t : Bool) → ((if p then 1 + (if q then 1 + (if r then 1 + (if t then 1 + 0 else 0) else 0) else 0) else 0) == 5) ≡ false
four_fit false q r t = refl
four_fit true false r t = refl
four_fit true true false t = refl
four_fit true true true false = refl
four_fit true true true true = refl

digits_not_basic : (a b c d : ℕ) (rest : List ℕ) → is_basic (a ∷ b ∷ c ∷ d ∷ 45 ∷ rest) ≡ false
unfolding is_basic fitting
digits_not_basic a b c d rest = ap (λ t. t || t) (four_fit (is_ascii_digit a) (is_ascii_digit b) (is_ascii_digit c) (is_ascii_digit d))

plus_not_basic : (rest : List ℕ) → is_basic (43 ∷ rest) ≡ false
unfolding is_basic fitting
plus_not_basic rest = refl

minus_not_basic : (rest : List ℕ) → is_basic (45 ∷ rest) ≡ false
unfolding is_basic fitting
minus_not_basic rest = refl

year_not_basic : (y : ℤ) (rest : List ℕ) → is_basic (year_text y ++ 45 ∷ rest) ≡ false
year_not_basic (negsuc n) rest = minus_not_basic (year_digits (suc n) ++ 45 ∷ rest)
year_not_basic (pos n) rest = by_size 10_000 n
    (λ small. ap (λ (l : List ℕ). is_basic (l ++ 45 ∷ rest)) (year_text-four n small) ∙ digits_not_basic _ _ _ _ rest)
    (λ large. ap (λ (l : List ℕ). is_basic (l ++ 45 ∷ rest)) (year_text-more n large) ∙ plus_not_basic (year_digits n ++ 45 ∷ rest))

-- the year stands in front, and a hyphen behind it
year_in_front : (year month day time offset : List ℕ) → (rest : List ℕ) × (year ++ codes "-" ++ month ++ codes "-" ++ day ++ 84 ∷ [] ++ time ++ offset ≡ year ++ 45 ∷ rest)
year_in_front year month day time offset =
    let one = append_assoc year (45 ∷ []) month in
    let two = ap (λ (l : List ℕ). l ++ codes "-") one ∙ append_assoc year (45 ∷ month) (codes "-") in
    let three = ap (λ (l : List ℕ). l ++ day) two ∙ append_assoc year (45 ∷ month ++ codes "-") day in
    let four = ap (λ (l : List ℕ). l ++ 84 ∷ []) three ∙ append_assoc year (45 ∷ month ++ codes "-" ++ day) (84 ∷ []) in
    let five = ap (λ (l : List ℕ). l ++ time) four ∙ append_assoc year (45 ∷ month ++ codes "-" ++ day ++ 84 ∷ []) time in
    let six = ap (λ (l : List ℕ). l ++ offset) five ∙ append_assoc year (45 ∷ month ++ codes "-" ++ day ++ 84 ∷ [] ++ time) offset in
    (month ++ codes "-" ++ day ++ 84 ∷ [] ++ time ++ offset, six)

calendar_not_basic : (y : ℤ) (m d : ℕ) (time offset : List ℕ) → is_basic (calendar_text y m d ++ 84 ∷ [] ++ time ++ offset) ≡ false
calendar_not_basic y m d time offset =
    let front = year_in_front (year_text y) (two_digits m) (two_digits d) time offset in
    ap is_basic front.1 ∙ year_not_basic y front.0

written_not_basic : (m : Moment) (x : ℤ) → is_basic (zoned_debug_text m x) ≡ false
written_not_basic m x = calendar_not_basic (year_of m.date) (month_of m.date) (day_of m.date) (time_text m.time) (offset_text x)

extended_written : (m : Moment) (x : ℤ) → IsMoment m → IsOffset x → m.time.fraction < 2_000_000_000 → IsEpochSecond (epoch_second m -ℤ x)
    → IsDateText (date_text m.date) m.date → IsTimeText (time_text m.time) m.time → IsExtendedText (zoned_debug_text m x) m x
extended_written m x is small fraction there date time =
    let parts = parts_of (date_text m.date) (time_text m.time) (offset_text x) (date_ends m.date (time_text m.time ++ offset_text x) is.date) (time_ends m.time x is.time fraction) in
    record {
      separated = parts.separated;
      date_is = inl (subst (λ (l : List ℕ). IsDateText l m.date) (sym parts.date_is) date);
      time_is = subst (λ (l : List ℕ). IsTimeText (clock_shown l) m.time) (sym parts.time_is) (subst (λ (l : List ℕ). IsTimeText l m.time) (sym (shown_time m.time)) time);
      offset_is = subst (λ (l : List ℕ). IsIsoOffset l x) (sym parts.offset_is) (offset_written x small);
      instant = there;
    }

pub iso_written : (m : Moment) (x : ℤ) → IsMoment m → IsOffset x → m.time.fraction < 2_000_000_000 → IsEpochSecond (epoch_second m -ℤ x)
    → IsDateText (date_text m.date) m.date → IsTimeText (time_text m.time) m.time → IsIso8601Text (zoned_debug_text m x) m x
iso_written m x is small fraction there date time =
    subst (λ (l : List ℕ). IsExtendedText l m x) (sym (form_as_it_is (zoned_debug_text m x) (written_not_basic m x))) (extended_written m x is small fraction there date time)
