-- The texts of offsets in six bytes.
use Rattle.std.proofs.Common.{◌≡◌, ◌≢◌, ◌⊎◌, ℕ, ◌+◌, ◌/◌, ◌%◌, ◌≤◌, Bool, true, false, if◌then◌else◌, ℤ, pos, unsigned_abs, List, [], ◌∷◌, ◌++◌, length, codes, inl, inr, refl, sym, ap, ◌∙◌, arith}
use Rattle.std.specs.Prelude.{get_or}
use Rattle.std.specs.Int.{is_negative}
use Rattle.std.proofs.lemmas.Bool.{cases_eq}
use Rattle.chrono_text.proofs.TextLemmas.{unsigned_abs-zero}
use Rattle.chrono_text.specs.Text.{colon_seconds_text, two_digits}
use Rattle.chrono_instant.specs.Offsets.{IsOffset}
use Rattle.chrono_instant.specs.OffsetText.{offset_size_text, offset_text}
use Rattle.chrono_stamps.specs.Rfc3339.{IsNumericOffset, IsOffsetText, IsSixBytes, IsZulu}
use Rattle.chrono_stamps.proofs.CutLemmas.{last_is}

-- a sign stands in front
by_sign : (b : Bool) (size : List ℕ) → (sign : ℕ) × ((if b then codes "-" else codes "+") ++ size ≡ sign ∷ size)
by_sign true size = (45, refl)
by_sign false size = (43, refl)

pub signed_text : (x : ℤ) → (sign : ℕ) × (offset_text x ≡ sign ∷ offset_size_text (unsigned_abs x))
signed_text x = by_sign (is_negative x) (offset_size_text (unsigned_abs x))

-- the seconds stand in three bytes, or in none
pub seconds_none : (k : ℕ) → k ≡ 0 → colon_seconds_text k ≡ []
seconds_none k e = rw e refl

seconds_three : (k : ℕ) → k ≢ 0 → length (colon_seconds_text k) ≡ 3
seconds_three k some = let is : colon_seconds_text k ≡ 58 ∷ two_digits k = grind arith in ap (λ (l : List ℕ). length l) is

pub no_seconds : (n : ℕ) → length (offset_size_text n) ≡ 5 → colon_seconds_text (n % 60) ≡ []
no_seconds n five = elim (cases_eq (n % 60) 0) [
  | inl none ↦ seconds_none (n % 60) none
  | inr some ↦ absurd (omega (arith, five, seconds_three (n % 60) some))
]

-- six bytes are written where there are none
pub six_bytes : (x : ℤ) → unsigned_abs x % 60 ≡ 0 → length (offset_text x) ≡ 6
six_bytes x none =
    let text = signed_text x in
    omega (arith, ap (λ (l : List ℕ). length l) text.1, ap (λ (l : List ℕ). length l) (seconds_none (unsigned_abs x % 60) none))

-- and nowhere else
pub whole_minutes : (x : ℤ) → length (offset_text x) ≡ 6 → unsigned_abs x % 60 ≡ 0
whole_minutes x six = elim (cases_eq (unsigned_abs x % 60) 0) [
  | inl none ↦ none
  | inr some ↦ absurd (omega (arith, six, ap (λ (l : List ℕ). length l) (signed_text x).1, seconds_three (unsigned_abs x % 60) some))
]

-- the last of them is a digit
pub ends_in_digit : (text : List ℕ) (x : ℤ) → IsNumericOffset text x → (start : List ℕ) × (b : ℕ) × (start ++ b ∷ [] ≡ text) × (b ≤ 57)
ends_in_digit text x is =
    let n = unsigned_abs x in
    let (sign, signed) = signed_text x in
    let five : length (offset_size_text n) ≡ 5 = omega (arith, ap (λ (l : List ℕ). length l) signed, ap (λ (l : List ℕ). length l) is.written, is.minutes_end_it) in
    let start = sign ∷ two_digits (n / 3_600) ++ 58 ∷ (48 + n / 60 % 60 / 10) ∷ [] in
    let whole : offset_size_text n ≡ two_digits (n / 3_600) ++ 58 ∷ two_digits (n / 60 % 60) =
    ap (λ (l : List ℕ). two_digits (n / 3_600) ++ codes ":" ++ two_digits (n / 60 % 60) ++ l) (no_seconds n five) in
    (start, 48 + n / 60 % 60 % 10, ap (λ (l : List ℕ). sign ∷ l) (sym whole) ∙ sym signed ∙ is.written, omega arith)

-- no offset but that of UTC is written with zeros alone
pub zeros_are_utc : (x : ℤ) → offset_text x ≡ codes "-00:00" → x ≡ pos 0
zeros_are_utc x e =
    let n = unsigned_abs x in
    let signed = signed_text x in
    let same : signed.0 ∷ offset_size_text n ≡ codes "-00:00" = sym signed.1 ∙ e in
    let hour_tens : 48 + n / 3_600 / 10 ≡ 48 = ap (λ (l : List ℕ). get_or l 1 0) same in
    let hour_ones : 48 + n / 3_600 % 10 ≡ 48 = ap (λ (l : List ℕ). get_or l 2 0) same in
    let minute_tens : 48 + n / 60 % 60 / 10 ≡ 48 = ap (λ (l : List ℕ). get_or l 4 0) same in
    let minute_ones : 48 + n / 60 % 60 % 10 ≡ 48 = ap (λ (l : List ℕ). get_or l 5 0) same in
    let six : length (offset_text x) ≡ 6 = ap (λ (l : List ℕ). length l) e in
    unsigned_abs-zero x (omega (arith, whole_minutes x six))

-- ---- the end of a text

pub six_long : (text : List ℕ) (x : ℤ) → IsSixBytes text x → length text ≡ 6
six_long text x (inl zeros) = ap (λ (l : List ℕ). length l) zeros.0
six_long text x (inr is) = is.minutes_end_it

pub zulu_last : (text front rest offset : List ℕ) (last : ℕ) → IsZulu offset → front ++ offset ≡ text → text ≡ rest ++ last ∷ [] → (last ≡ 90) ⊎ (last ≡ 122)
zulu_last text front rest offset last (inl z) e r = inl (sym (last_is front [] rest 90 last (ap (λ (l : List ℕ). front ++ l) (sym z) ∙ e ∙ r)))
zulu_last text front rest offset last (inr z) e r = inr (sym (last_is front [] rest 122 last (ap (λ (l : List ℕ). front ++ l) (sym z) ∙ e ∙ r)))

pub offset_small : (text : List ℕ) (x : ℤ) → IsOffsetText text x → IsOffset x
offset_small text x (inl zulu) = rw zulu.1 (omega arith)
offset_small text x (inr (inl zeros)) = rw zeros.1 (omega arith)
offset_small text x (inr (inr is)) = is.in_range
