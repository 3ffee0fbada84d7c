-- A text has one error of a kind at most.
use Rattle.std.proofs.Common.{inl, inr, ◌≡◌, ◌+◌, ◌<◌, ℕ, ℤ, unsigned_abs, List, [], ◌∷◌, ◌++◌, codes, length, get_or, drop, refl, sym, ap, ◌∙◌, arith}
use Rattle.chrono_datetime.specs.Fields.{IsIsoYear}
use Rattle.chrono_datetime.specs.Years.{IsYear}
use Rattle.chrono_text.specs.Text.{all_digits, calendar_text, two_digits, year_text}
use Rattle.chrono_text.proofs.DigitLemmas.{all_digits-one}
use Rattle.chrono_text.proofs.TextLemmas.{calendar_text_injective, same_parts}
use Rattle.chrono_reading.specs.DateErrors.{IsDateError, IsErrorByYear, IsOrdinalDateError, IsWeekDateError, calendar_error, ordinal_error, week_error}
use Rattle.chrono_reading.specs.TimeErrors.{IsTimeError}
use Rattle.chrono_reading.specs.declared.error.ReadError.{ReadError}
use Rattle.chrono_calendar.proofs.Years.{IsYear-small}
use Rattle.chrono_datetime.proofs.DateTextLemmas.{IsIsoYear-small}
use Rattle.chrono_reading.proofs.DateLemmas.{date_parts, ordinal_parts, week_parts}

-- the byte of a text at a place
abbrev pub byte : ℕ → List ℕ → ℕ
byte k text = get_or text k 0

-- a text is that of one year
year_one : (y z : ℤ) → unsigned_abs y < 1_000_000 → unsigned_abs z < 1_000_000 → year_text y ≡ year_text z → y ≡ z
year_one y z small low e =
    let both : calendar_text y 1 1 ≡ calendar_text z 1 1 = ap (λ (t : List ℕ). t ++ codes "-" ++ two_digits 1 ++ codes "-" ++ two_digits 1) e in
    (calendar_text_injective y z 1 1 1 1 (omega arith) (omega arith) (omega arith) (omega arith) (omega arith) (omega arith) both).0

-- so by its year it has one error
by_year : (IsOne : ℤ → Type 0) (text other : List ℕ) (f g : ℤ → ReadError) (a b : ReadError) → ((y : ℤ) → IsOne y → unsigned_abs y < 1_000_000)
    → text ≡ other → ((y : ℤ) → f y ≡ g y) → IsErrorByYear IsOne text f a → IsErrorByYear IsOne other g b → a ≡ b
by_year IsOne text other f g a b small same fg (inl p) (inl q) = p.1 ∙ sym q.1
by_year IsOne text other f g a b small same fg (inl p) (inr q) = absurd (p.0 q.0 q.1 (q.2 ∙ sym same))
by_year IsOne text other f g a b small same fg (inr p) (inl q) = absurd (q.0 p.0 p.1 (p.2 ∙ same))
by_year IsOne text other f g a b small same fg (inr p) (inr q) =
    p.3 ∙ (ap f (year_one p.0 q.0 (small p.0 p.1) (small q.0 q.1) (p.2 ∙ (same ∙ sym q.2))) ∙ (fg q.0 ∙ sym q.3))

-- the parts of a text are its only ones, so it has one error
pub date_one : (text : List ℕ) (a b : ReadError) → IsDateError text a → IsDateError text b → a ≡ b
date_one text a b (inl p) (inl q) = p.1 ∙ sym q.1
date_one text a b (inl p) (inr q) = absurd (p.0 q.0 q.1 q.2 q.3)
date_one text a b (inr p) (inl q) = absurd (q.0 p.0 p.1 p.2 p.3)
date_one text a b (inr p) (inr q) =
    let parts = same_parts p.0 q.0 (45 ∷ two_digits p.1 ++ 45 ∷ two_digits p.2) (45 ∷ two_digits q.1 ++ 45 ∷ two_digits q.2) refl (sym (date_parts p.0 p.1 p.2) ∙ (p.3.written ∙ (sym q.3.written ∙ date_parts q.0 q.1 q.2))) in
    let month : p.1 ≡ q.1 = omega (arith, ap (byte 1) parts.1, ap (byte 2) parts.1) in
    let day : p.2 ≡ q.2 = omega (arith, ap (byte 4) parts.1, ap (byte 5) parts.1) in
    by_year IsYear p.0 q.0 (λ y. calendar_error y p.1 p.2 (length p.0)) (λ y. calendar_error y q.1 q.2 (length q.0)) a b IsYear-small parts.0
    (λ y. rw (parts.0, month, day) refl) p.4 q.4

pub ordinal_one : (text : List ℕ) (a b : ReadError) → IsOrdinalDateError text a → IsOrdinalDateError text b → a ≡ b
ordinal_one text a b (inl p) (inl q) = p.1 ∙ sym q.1
ordinal_one text a b (inl p) (inr q) = absurd (p.0 q.0 q.1 q.2)
ordinal_one text a b (inr p) (inl q) = absurd (q.0 p.0 p.1 p.2)
ordinal_one text a b (inr p) (inr q) =
    let parts = same_parts p.0 q.0 (45 ∷ all_digits 3 p.1) (45 ∷ all_digits 3 q.1) refl (sym (ordinal_parts p.0 p.1) ∙ (p.2.written ∙ (sym q.2.written ∙ ordinal_parts q.0 q.1))) in
    let ordinal : p.1 ≡ q.1 = all_digits-one 3 p.1 q.1 p.2.small q.2.small (ap (drop 1) parts.1) in
    by_year IsYear p.0 q.0 (λ y. ordinal_error y p.1 (length p.0)) (λ y. ordinal_error y q.1 (length q.0)) a b IsYear-small parts.0
    (λ y. rw (parts.0, ordinal) refl) p.3 q.3

pub week_one : (text : List ℕ) (a b : ReadError) → IsWeekDateError text a → IsWeekDateError text b → a ≡ b
week_one text a b (inl p) (inl q) = p.1 ∙ sym q.1
week_one text a b (inl p) (inr q) = absurd (p.0 q.0 q.1 q.2 q.3)
week_one text a b (inr p) (inl q) = absurd (q.0 p.0 p.1 p.2 p.3)
week_one text a b (inr p) (inr q) =
    let parts = same_parts p.0 q.0 (45 ∷ 87 ∷ two_digits p.1 ++ 45 ∷ (48 + p.2) ∷ []) (45 ∷ 87 ∷ two_digits q.1 ++ 45 ∷ (48 + q.2) ∷ []) refl (sym (week_parts p.0 p.1 p.2) ∙ (p.3.written ∙ (sym q.3.written ∙ week_parts q.0 q.1 q.2))) in
    let week : p.1 ≡ q.1 = omega (arith, ap (byte 2) parts.1, ap (byte 3) parts.1) in
    let weekday : p.2 ≡ q.2 = omega (arith, ap (byte 5) parts.1) in
    by_year IsIsoYear p.0 q.0 (λ y. week_error y p.1 p.2 (length p.0)) (λ y. week_error y q.1 q.2 (length q.0)) a b IsIsoYear-small parts.0
    (λ y. rw (parts.0, week, weekday) refl) p.4 q.4

pub time_one : (text : List ℕ) (a b : ReadError) → IsTimeError text a → IsTimeError text b → a ≡ b
time_one text a b (inl p) (inl q) = p.1 ∙ sym q.1
time_one text a b (inl p) (inr q) = absurd (p.0 q.0 q.1 q.2 q.3)
time_one text a b (inr p) (inl q) = absurd (q.0 p.0 p.1 p.2 p.3)
time_one text a b (inr p) (inr q) =
    let same = p.3.written ∙ sym q.3.written in
    let hour : p.0 ≡ q.0 = omega (arith, ap (byte 0) same, ap (byte 1) same) in
    let minute : p.1 ≡ q.1 = omega (arith, ap (byte 3) same, ap (byte 4) same) in
    p.4 ∙ (rw (hour, minute) refl ∙ sym q.4)
