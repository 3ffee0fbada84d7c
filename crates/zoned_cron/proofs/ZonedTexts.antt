-- What is left of a text behind the name of its zone.
use Rattle.std.proofs.Common.{if◌then◌else◌, ◌≡◌, ◌==◌, ◌+◌, arith, false, ℕ, List, drop, ap, sym, ◌∙◌}
use Rattle.std.proofs.lemmas.Bool.{false_from_ne_true}
use Rattle.std.proofs.lemmas.Bool.Decides.{nat_tests}
use Rattle.std.specs.List.{position_or_len}
use Rattle.std.proofs.lemmas.List.{drop-drop}
use Rattle.chrono_text.specs.Lists.{is_blank}
use Rattle.zoned_cron.specs.ZonedTexts.{mark_len, schedule_part}

not_zero : (n : ℕ) → (n ≡ 0 → ⊥) → (n == 0) ≡ false
not_zero n none = false_from_ne_true (n == 0) (λ same. none (grind (arith, nat_tests, same)))

pub part_is : (text named part : List ℕ) (mark len : ℕ) → mark ≡ mark_len text → (mark ≡ 0 → ⊥) → named ≡ drop mark text → len ≡ position_or_len is_blank named → part ≡ drop len named → schedule_part text ≡ part
part_is text named part mark len is none front blank back =
    let test : (mark_len text == 0) ≡ false = ap (λ n. n == 0) (sym is) ∙ not_zero mark none in
    let here : drop (mark_len text) text ≡ named = ap (λ n. drop n text) (sym is) ∙ sym front in
    let step : drop (mark_len text + position_or_len is_blank (drop (mark_len text) text)) text ≡ part =
    sym (drop-drop (position_or_len is_blank (drop (mark_len text) text)) (mark_len text) text)
    ∙ ap (λ t. drop (position_or_len is_blank t) t) here
    ∙ ap (λ n. drop n named) (sym blank) ∙ sym back in
    rw test step

pub part_whole : (text : List ℕ) (mark : ℕ) → mark ≡ mark_len text → mark ≡ 0 → schedule_part text ≡ text
part_whole text mark is none = ap (λ (n : ℕ). drop (if n == 0 then 0 else n + position_or_len is_blank (drop n text)) text) (sym is ∙ none)
