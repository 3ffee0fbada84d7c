-- White space and comments, byte by byte, and the words of a text, one after another.
use Rattle.std.proofs.Common.{◌≡◌, inl, inr, ◌==◌, Bool, true, false, if◌then◌else◌, cond, ℕ, ◌+◌, ◌-◌, ◌<◌, ◌≤◌, List, [], ◌∷◌, length, take, Option, None, Some, refl, sym, ap, subst, ◌∙◌, arith}
use Rattle.std.specs.List.{prefix_len}
use Rattle.chrono_text.specs.Lists.{is_of_word}
use Rattle.chrono_stamps.specs.MailWords.{IsColonWord, IsCommaWord, IsOptional, IsSpacedWord, IsMailWord, behind_gap, gap_end, gap_step, is_white}

-- ---- a byte

pub gap_end-more : (depth : ℕ) (quoted : Bool) (c : ℕ) (text : List ℕ) (next : ℕ × Bool) → gap_step depth quoted c ≡ Some next
    → gap_end depth quoted (c ∷ text) ≡ gap_end next.0 next.1 text
unfolding gap_end
gap_end-more depth quoted c text next e =
    ap (λ (o : Option (ℕ × Bool)). elim o as (λ _. ℕ × List ℕ) [ None ↦ (depth, c ∷ text) | Some n ↦ gap_end n.0 n.1 text ]) e

pub gap_end-none : (depth : ℕ) (quoted : Bool) (c : ℕ) (text : List ℕ) → gap_step depth quoted c ≡ None
    → gap_end depth quoted (c ∷ text) ≡ (depth, c ∷ text)
unfolding gap_end
gap_end-none depth quoted c text e =
    ap (λ (o : Option (ℕ × Bool)). elim o as (λ _. ℕ × List ℕ) [ None ↦ (depth, c ∷ text) | Some n ↦ gap_end n.0 n.1 text ]) e

pub gap_end-nothing : (depth : ℕ) (quoted : Bool) → gap_end depth quoted [] ≡ (depth, [])
unfolding gap_end
gap_end-nothing depth quoted = refl

-- the same of a text that begins with the byte
pub gap_end-goes_on : (depth : ℕ) (quoted : Bool) (c : ℕ) (text behind : List ℕ) (next : ℕ × Bool) → text ≡ c ∷ behind → gap_step depth quoted c ≡ Some next
    → gap_end depth quoted text ≡ gap_end next.0 next.1 behind
gap_end-goes_on depth quoted c text behind next is step = ap (λ (l : List ℕ). gap_end depth quoted l) is ∙ gap_end-more depth quoted c behind next step

pub gap_end-stops : (depth : ℕ) (quoted : Bool) (c : ℕ) (text behind : List ℕ) → text ≡ c ∷ behind → gap_step depth quoted c ≡ None
    → gap_end depth quoted text ≡ (depth, text)
gap_end-stops depth quoted c text behind is step =
    subst (λ (l : List ℕ). gap_end depth quoted l ≡ (depth, l)) (sym is) (gap_end-none depth quoted c behind step)

pub gap_end-ends : (depth : ℕ) (quoted : Bool) (text : List ℕ) → length text ≡ 0 → gap_end depth quoted text ≡ (depth, text)
gap_end-ends depth quoted [] none = gap_end-nothing depth quoted
gap_end-ends depth quoted (c ∷ text) none = absurd (omega (arith, none))

-- a byte opens one comment at most
abbrev depth_of : Option (ℕ × Bool) → ℕ
depth_of None = 0
depth_of (Some next) = next.0

one_of : (quoted round none white closed : Bool) (a b c d e : Option (ℕ × Bool)) (most : ℕ)
    → depth_of a ≤ most → depth_of b ≤ most → depth_of c ≤ most → depth_of d ≤ most → depth_of e ≤ most
    → depth_of (if quoted then a else (if round then b else (if none then (if white then c else None) else (if closed then d else e)))) ≤ most
one_of true round none white closed a b c d e most p q r s t = p
one_of false true none white closed a b c d e most p q r s t = q
one_of false false true true closed a b c d e most p q r s t = r
one_of false false true false closed a b c d e most p q r s t = omega arith
one_of false false false white true a b c d e most p q r s t = s
one_of false false false white false a b c d e most p q r s t = t

pub gap_step-room : (depth : ℕ) (quoted : Bool) (c : ℕ) (text behind : List ℕ) (next : ℕ × Bool) (most : ℕ) → text ≡ c ∷ behind → gap_step depth quoted c ≡ Some next
    → depth + length text ≤ most → next.0 + length behind ≤ most
gap_step-room depth quoted c text behind next most is step room =
    let small : depth_of (gap_step depth quoted c) ≤ depth + 1 =
    one_of quoted (c == 40) (depth == 0) (is_white c) (c == 41) (Some (depth, false)) (Some (depth + 1, false)) (Some (0, false)) (Some (depth - 1, false)) (Some (depth, c == 92)) (depth + 1)
    (omega arith) (omega arith) (omega arith) (omega arith) (omega arith) in
    omega (arith, room, ap (λ (l : List ℕ). length l) is, small, ap depth_of step)

-- ---- words

-- no word stands where a byte is of none
no_word : (c : ℕ) (behind text word rest : List ℕ) → text ≡ c ∷ behind → is_of_word c ≡ false → IsMailWord text word rest → ⊥
no_word c behind text word rest e other is =
    let none : prefix_len is_of_word text ≡ 0 = ap (λ (l : List ℕ). prefix_len is_of_word l) e ∙ ap (λ b. cond b (1 + prefix_len is_of_word behind) 0) other in
    let nothing : take (prefix_len is_of_word text) text ≡ [] = ap (λ k. take k text) none in
    omega (arith, is.some, ap (λ (l : List ℕ). length l) (sym is.front ∙ nothing))

nothing_else : (got : List ℕ) → (0 < length got → ⊥) → got ≡ []
nothing_else [] none = refl
nothing_else (c ∷ got) none = absurd (none (omega arith))

-- where a spaced word stands, no colon does
no_colon : (text zone end got behind : List ℕ) → IsSpacedWord text zone end → IsColonWord text got behind → ⊥
no_colon text zone end got behind is colon = no_word 58 colon.after (behind_gap text) zone end colon.colon refl is.word_is

-- and behind the word that it stands behind no comma does
no_comma : (text day after_day month after_month got behind : List ℕ) → IsMailWord (behind_gap text) day after_day → IsSpacedWord after_day month after_month → IsCommaWord text got behind → ⊥
no_comma text day after_day month after_month got behind day_is month_is comma =
    no_word 44 behind (behind_gap after_day) month after_month (ap (λ (l : List ℕ). behind_gap l) (sym day_is.behind ∙ comma.word_is.behind) ∙ comma.comma) refl month_is.word_is

-- so a part that may be left out is found, or nothing is
pub comma_found : (text weekday after_weekday day after_day month after_month got behind : List ℕ)
    → ((word rest : List ℕ) → IsCommaWord text word rest → (got ≡ word) × (behind ≡ rest)) → (0 < length got → IsCommaWord text got behind) → (got ≡ [] → behind ≡ text)
    → IsOptional IsCommaWord text weekday after_weekday → IsMailWord (behind_gap after_weekday) day after_day → IsSpacedWord after_day month after_month
    → (got ≡ weekday) × (behind ≡ after_weekday)
comma_found text weekday after_weekday day after_day month after_month got behind every read nothing (inl is) day_is month_is = every weekday after_weekday is
comma_found text weekday after_weekday day after_day month after_month got behind every read nothing (inr none) day_is month_is =
    let here : IsMailWord (behind_gap text) day after_day = subst (λ (l : List ℕ). IsMailWord (behind_gap l) day after_day) none.1 day_is in
    let empty = nothing_else got (λ some. no_comma text day after_day month after_month got behind here month_is (read some)) in
    (empty ∙ sym none.0, nothing empty ∙ sym none.1)

pub colon_found : (text second after_second zone end got behind : List ℕ)
    → ((word rest : List ℕ) → IsColonWord text word rest → (got ≡ word) × (behind ≡ rest)) → (0 < length got → IsColonWord text got behind) → (got ≡ [] → behind ≡ text)
    → IsOptional IsColonWord text second after_second → IsSpacedWord after_second zone end
    → (got ≡ second) × (behind ≡ after_second)
colon_found text second after_second zone end got behind every read nothing (inl is) zone_is = every second after_second is
colon_found text second after_second zone end got behind every read nothing (inr none) zone_is =
    let here : IsSpacedWord text zone end = subst (λ (l : List ℕ). IsSpacedWord l zone end) none.1 zone_is in
    let empty = nothing_else got (λ some. no_colon text zone end got behind here (read some)) in
    (empty ∙ sym none.0, nothing empty ∙ sym none.1)
