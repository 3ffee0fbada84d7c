use Rattle.std.proofs.Common.{◌≡◌, Bool, true, false, List, ℕ, ℤ, pos, [], codes, refl, ap, sym, ◌∙◌, to_z, of_z, w32}
use Rattle.std.proofs.lemmas.Int.{to_z-of_z}
use Rattle.std.specs.Int.RustNames.{int_lt}
use Rattle.std.specs.Prelude.{if◌then◌else◌}
use Rattle.chrono_pattern.specs.Numbers.{year_sign}
use Rattle.chrono_pattern.proofs.number.year_sign.Goals as goal

-- the sign by its two tests
abbrev sign : Bool → Bool → List ℕ
sign below above = if below then codes "-" else if above then codes "+" else []

by_tests : (y z : ℤ) (below above : Bool) → z ≡ y → int_lt z (pos 0) ≡ below → int_lt (pos 9_999) z ≡ above → sign below above ≡ year_sign y
by_tests y z below above same is_below is_above =
    ap (λ (b : Bool). sign b above) (sym is_below) ∙ ap (λ (a : Bool). sign (int_lt z (pos 0)) a) (sym is_above) ∙ ap (λ (x : ℤ). year_sign x) same

pub returns-then-year-lt0-clause-sign : goal.returns-then-year-lt0-clause-sign
returns-then-year-lt0-clause-sign c =
    let z = to_z w32 (of_z w32 c.args.year) in
    by_tests c.args.year z true (int_lt (pos 9_999) z) (to_z-of_z w32 c.args.year c.ranges.year) c.if-year-lt0.true refl

pub returns-then-year-gt9999-clause-sign : goal.returns-then-year-gt9999-clause-sign
returns-then-year-gt9999-clause-sign c =
    by_tests c.args.year _ false true (to_z-of_z w32 c.args.year c.ranges.year) c.if-year-lt0.false c.if-year-gt9999.true

pub returns-else-year-gt9999-clause-sign : goal.returns-else-year-gt9999-clause-sign
returns-else-year-gt9999-clause-sign c =
    by_tests c.args.year _ false false (to_z-of_z w32 c.args.year c.ranges.year) c.if-year-lt0.false c.if-year-gt9999.false
