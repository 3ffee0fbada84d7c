-- A text is of a date by one of the three forms at most: the last bytes tell which.
use Rattle.std.proofs.Common.{◌≡◌, ℕ, ◌+◌, ◌/◌, ◌%◌, ◌^◌, ℤ, List, [], ◌∷◌, ◌++◌, codes, length, get_or, refl, sym, ap, ◌∙◌, append_assoc, arith, inl, inr}
use Rattle.chrono_datetime.specs.Weekday.{number_from_monday}
use Rattle.chrono_reading.specs.DateTexts.{IsDateText, IsOrdinalDateText, IsWeekDateText}
use Rattle.chrono_text.proofs.TextLemmas.{same_parts}
use Rattle.chrono_stamps.specs.Iso8601.{IsIsoDate}
use Rattle.chrono_text.specs.Text.{all_digits, two_digits, week_text, year_text}

-- what stands first of the parts that end the same text
same_first : (xs ys s t : List ℕ) (text : List ℕ) → length s ≡ length t → xs ++ s ≡ text → ys ++ t ≡ text → get_or s 0 0 ≡ get_or t 0 0
same_first xs ys s t text long e f = ap (λ (l : List ℕ). get_or l 0 0) (same_parts xs ys s t long (e ∙ sym f)).1

pub calendar_or_ordinal : (text : List ℕ) (n k : ℤ) → IsDateText text n → IsOrdinalDateText text k → ⊥
calendar_or_ordinal text n k is other =
    let front = year_text is.year ++ codes "-" ++ two_digits is.month in
    omega (
      arith,
      same_first front (year_text other.year ++ codes "-") (codes "-" ++ two_digits is.day) (all_digits 3 other.ordinal) text refl
          (sym (append_assoc front (codes "-") (two_digits is.day)) ∙ is.written) other.written,
    )

week_ends : (text : List ℕ) (k : ℤ) (is : IsWeekDateText text k) → week_text is.year is.week ++ (codes "-" ++ (48 + number_from_monday is.weekday) ∷ []) ≡ text
week_ends text k is = sym (append_assoc (week_text is.year is.week) (codes "-") ((48 + number_from_monday is.weekday) ∷ [])) ∙ is.written

pub calendar_or_week : (text : List ℕ) (n k : ℤ) → IsDateText text n → IsWeekDateText text k → ⊥
calendar_or_week text n k is other =
    let front = year_text is.year ++ codes "-" ++ two_digits is.month ++ codes "-" in
    omega (arith, same_first front (week_text other.year other.week) (two_digits is.day) (codes "-" ++ (48 + number_from_monday other.weekday) ∷ []) text refl is.written (week_ends text k other))

pub ordinal_or_week : (text : List ℕ) (n k : ℤ) → IsOrdinalDateText text n → IsWeekDateText text k → ⊥
ordinal_or_week text n k is other =
    let front = year_text is.year ++ codes "-" in
    let first = (48 + is.ordinal / 10 ^ 2) ∷ [] in
    let last = all_digits 2 (is.ordinal % 10 ^ 2) in
    omega (arith, same_first (front ++ first) (week_text other.year other.week) last (codes "-" ++ (48 + number_from_monday other.weekday) ∷ []) text refl (append_assoc front first last ∙ is.written) (week_ends text k other))

pub by_form : (text : List ℕ) (n : ℤ) → {P : Type 0} → IsIsoDate text n → (IsDateText text n → P) → (IsOrdinalDateText text n → P) → (IsWeekDateText text n → P) → P
by_form text n (inl date) f g h = f date
by_form text n (inr (inl ordinal)) f g h = g ordinal
by_form text n (inr (inr week)) f g h = h week
