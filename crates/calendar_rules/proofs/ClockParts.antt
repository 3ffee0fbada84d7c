-- A part FREQ that counts hours, minutes or seconds is at least as long as FREQ=YEARLY.
use Rattle.std.proofs.Common.{◌≡◌, ℕ, ◌≤◌, true, false, List, length, drop, arith, refl, sym, ap, ◌∙◌, length-drop}
use Rattle.std.specs.Prelude.{codes}
use Rattle.std.specs.Char.{to_ascii_lowercase}
use Rattle.std.specs.Str.{str_eq_ignore_ascii_case, str_to_ascii_lowercase}
use Rattle.std.proofs.lemmas.Bool.{and_parts, both_ways, cond_both}
use Rattle.std.proofs.lemmas.List.{length-map}
use Rattle.std.proofs.lemmas.Slice.Eq.{bytes_eq-Decides}
use Rattle.zoned_rules.specs.declared.clock_steps.ClockUnit.TheVariants.{Day, Hour, Minute, Second}
use Rattle.calendar_rules.specs.TimedRuleTexts.{is_clock_part, is_unit, unit_of}

-- texts that are one but for the case of letters have one length
alike_length : (a b : List ℕ) → str_eq_ignore_ascii_case a b ≡ true → length a ≡ length b
alike_length a b same =
    sym (length-map a to_ascii_lowercase)
    ∙ ap length ((bytes_eq-Decides (str_to_ascii_lowercase a) (str_to_ascii_lowercase b)).0 same)
    ∙ length-map b to_ascii_lowercase

-- a word that names no day has six letters or more
unit_length : (word : List ℕ) → is_unit (unit_of word) ≡ true → 6 ≤ length word
unfolding unit_of
unit_length word =
    cond_both (str_eq_ignore_ascii_case word (codes "HOURLY")) Hour _ (λ u. is_unit u ≡ true → 6 ≤ length word)
    (λ alike unit. omega (arith, alike_length word (codes "HOURLY") alike))
    (λ other.
    cond_both (str_eq_ignore_ascii_case word (codes "MINUTELY")) Minute _ (λ u. is_unit u ≡ true → 6 ≤ length word)
    (λ alike unit. omega (arith, alike_length word (codes "MINUTELY") alike))
    (λ other.
    cond_both (str_eq_ignore_ascii_case word (codes "SECONDLY")) Second Day (λ u. is_unit u ≡ true → 6 ≤ length word)
    (λ alike unit. omega (arith, alike_length word (codes "SECONDLY") alike))
    (λ other unit. absurd (both_ways false refl unit))))

pub clock_part_length : (p : List ℕ) → is_clock_part p ≡ true → 11 ≤ length p
clock_part_length p is =
    let parts = and_parts _ (is_unit (unit_of (drop 5 p))) is in
    let word = unit_length (drop 5 p) parts.1 in
    omega (arith, word, length-drop 5 p)
