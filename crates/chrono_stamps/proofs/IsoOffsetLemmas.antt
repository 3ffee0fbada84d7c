-- The bytes of an offset by ISO 8601.
use Rattle.std.proofs.Common.{◌≡◌, ◌≢◌, inl, inr, if◌then◌else◌, ℕ, ◌≤◌, ℤ, pos, List, [], ◌∷◌, ◌++◌, codes, length, get_or, Option, None, Some, IfSome, IfNone, refl, sym, ap, subst, ◌∙◌, ne_eqb, arith}
use Rattle.chrono_stamps.proofs.OffsetLemmas.{signed_text}
use Rattle.chrono_stamps.specs.Iso8601.{IsIsoOffset, IsSignedOffset, offset_shown}

-- an offset with a sign has six bytes at least
pub signed_long : (text : List ℕ) (x : ℤ) → IsSignedOffset text x → 6 ≤ length text
signed_long text x (inl utc) = omega (arith, ap (λ (l : List ℕ). length l) utc.0)
signed_long text x (inr is) =
    omega (arith, ap (λ (l : List ℕ). length l) is.1, ap (λ (l : List ℕ). length l) (signed_text x).1)

pub shown_alone : (text : List ℕ) → length text ≢ 3 → offset_shown text ≡ text
unfolding offset_shown
shown_alone text other = ap (λ b. if b then text ++ codes ":00" else text) (ne_eqb (length text) 3 other)

pub shown_hour : (text : List ℕ) → length text ≡ 3 → offset_shown text ≡ get_or text 0 0 ∷ get_or text 1 0 ∷ get_or text 2 0 ∷ 58 ∷ 48 ∷ 48 ∷ []
unfolding offset_shown
shown_hour [] e = absurd (omega (arith, e))
shown_hour (a ∷ []) e = absurd (omega (arith, e))
shown_hour (a ∷ b ∷ []) e = absurd (omega (arith, e))
shown_hour (a ∷ b ∷ c ∷ []) e = refl
shown_hour (a ∷ b ∷ c ∷ d ∷ text) e = absurd (omega (arith, e))

pub one_byte : (text : List ℕ) → length text ≡ 1 → text ≡ get_or text 0 0 ∷ []
one_byte [] e = absurd (omega (arith, e))
one_byte (a ∷ []) e = refl
one_byte (a ∷ b ∷ text) e = absurd (omega (arith, e))

-- an offset of one byte is `Z`
pub one_is_zulu : (text : List ℕ) (x : ℤ) → length text ≡ 1 → IsIsoOffset text x → (get_or text 0 0 ≡ 90) × (x ≡ pos 0)
one_is_zulu text x one (inl zulu) = (ap (λ (l : List ℕ). get_or l 0 0) zulu.0, zulu.1)
one_is_zulu text x one (inr is) =
    absurd (omega (arith, one, ap (λ (l : List ℕ). length l) (shown_alone text (λ e. omega (arith, e, one))), signed_long (offset_shown text) x is))

-- and another is not
pub not_zulu : (text : List ℕ) (x : ℤ) → length text ≢ 1 → IsIsoOffset text x → IsSignedOffset (offset_shown text) x
not_zulu text x other (inl zulu) = absurd (other (ap (λ (l : List ℕ). length l) zulu.0))
not_zulu text x other (inr is) = is

pub signed_is : (text shown : List ℕ) (r : Option ℤ) → shown ≡ offset_shown text → IfSome r (λ x. IsSignedOffset shown x) → IfSome r (λ x. IsIsoOffset text x)
signed_is text shown None e is = tt
signed_is text shown (Some x) e is = inr (subst (λ (l : List ℕ). IsSignedOffset l x) e is)

pub zulu_is : (text : List ℕ) (r : Option ℤ) → length text ≡ 1 → IfSome r (λ x. (get_or text 0 0 ≡ 90) × (x ≡ pos 0)) → IfSome r (λ x. IsIsoOffset text x)
zulu_is text None one is = tt
zulu_is text (Some x) one is = inl (one_byte text one ∙ ap (λ c. c ∷ []) is.0, is.1)

pub zulu_found : (c : ℕ) (x : ℤ) (r : Option ℤ) → IfSome r (λ y. (c ≡ 90) × (y ≡ pos 0)) → IfNone r (c ≢ 90) → c ≡ 90 → x ≡ pos 0 → r ≡ Some x
zulu_found c x None some none is utc = absurd (none is)
zulu_found c x (Some y) some none is utc = ap (λ (z : ℤ). Some z) (some.1 ∙ sym utc)
