-- The texts of offsets that are not negative.
use Rattle.std.proofs.Common.{◌≡◌, ℕ, ◌<◌, ℤ, pos, List, ◌∷◌, Option, Some, None, IfSome, to_z, w32, arith, refl, sym, ap, subst, ◌∙◌}
use Rattle.std.proofs.lemmas.Int.{to_z_pos}
use Rattle.std.specs.Option.{SomeIff}
use Rattle.chrono_text.proofs.TextLemmas.{is_negative-pos}
use Rattle.chrono_datetime.specs.Time.{seconds_per_day}
use Rattle.chrono_instant.specs.Offsets.{IsOffset}
use Rattle.chrono_instant.specs.OffsetText.{offset_size_text, offset_text}

offset_text-pos : (n : ℕ) → offset_text (pos n) ≡ 43 ∷ offset_size_text n
offset_text-pos n = rw (is_negative-pos n) refl

-- behind a `+` stands the text of the offset's seconds
pub offset_text-plus : (r : Option ℤ) (n sign : ℕ) (size text : List ℕ) → SomeIff r (IsOffset (to_z w32 n)) (to_z w32 n) → n < seconds_per_day → offset_size_text n ≡ size → sign ≡ 43 → text ≡ sign ∷ size → IfSome r (λ x. offset_text x ≡ text)
offset_text-plus None n sign size text h small s e t = tt
offset_text-plus (Some x) n sign size text h small s e t =
    let same : x ≡ pos n = h.1 ∙ to_z_pos w32 n (omega (arith, small)) in
    let written : offset_text (pos n) ≡ text = offset_text-pos n ∙ ap (λ (l : List ℕ). 43 ∷ l) s ∙ ap (λ b. b ∷ size) (sym e) ∙ sym t in
    subst (λ (y : ℤ). offset_text y ≡ text) (sym same) written
