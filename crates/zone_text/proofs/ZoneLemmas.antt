-- What a rule's text says of daylight time where there is some.
use Rattle.std.proofs.Common.{◌≡◌, ◌∙◌, ◌==◌, ap, sym, ℕ, ℤ, Bool, true, false, List, [], length, Option, None, Some, refl}
use Rattle.zone_rule.specs.Changes.{YearlyChange}
use Rattle.zone_rule.specs.declared.rule.Daylight.{Daylight}
use Rattle.zone_text.specs.ZoneTexts.{IsDaylightPart, IsDaylightText}

pub has_daylight : (standard : ℤ) (text name : List ℕ) (d : Option Daylight) → ¬ (text ≡ []) → IsDaylightPart standard text name d → (e : Daylight) × (d ≡ Some e) × IsDaylightText standard text name e
has_daylight standard text name None some is = absurd (some is.0)
has_daylight standard text name (Some e) some is = (e, refl, is)

pub same_daylight : (d : Daylight) (offset : ℤ) (begins ends : YearlyChange) → offset ≡ d.offset → begins ≡ d.begins → ends ≡ d.ends
    → ◌≡◌ {A = Daylight} (record { offset = offset; begins = begins; ends = ends }) d
same_daylight d offset begins ends o b e =
    ap (λ (x : ℤ). record { offset = x; begins = begins; ends = ends }) o
    ∙ ap (λ (x : YearlyChange). record { offset = d.offset; begins = x; ends = ends }) b
    ∙ ap (λ (x : YearlyChange). record { offset = d.offset; begins = d.begins; ends = x }) e

pub not_empty : (l : List ℕ) (b : Bool) → b ≡ (length l == 0) → b ≡ false → ¬ (l ≡ [])
not_empty l b is fails nothing = let both : true ≡ false = sym (ap (λ (m : List ℕ). length m == 0) nothing) ∙ sym is ∙ fails in cc
