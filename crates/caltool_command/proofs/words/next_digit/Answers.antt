use Rattle.std.proofs.Common.{◌≡◌, ℕ, ◌-◌, ◌<◌, ◌≤◌, inl, inr, arith, to_z-of_z, SFits, w64, rules}
use Rattle.std.specs.Int.{IsInRange}
use Rattle.std.proofs.lemmas.Bool.{cases_lt}
use Rattle.chrono_text.specs.Numbers.{StandsBefore}
use Rattle.caltool_command.proofs.Reading.{digit_read}
use Rattle.caltool_command.proofs.words.next_digit.Goals as goal

-- a byte that is worth 9 or less is a digit
digit_of : (code value : ℕ) → (48 ≤ code → value ≡ code - 48) → (code < 48 → 9 < value) → value ≤ 9 → IsInRange 48 57 code × (value ≡ code - 48)
digit_of code value above other small = elim (cases_lt code 48) [
  | inl low ↦ absurd (omega (arith, other low, small))
  | inr high ↦ ((high, omega (arith, above high, small)), above high)
]

pub returns-clause-some : goal.returns-clause-some
returns-clause-some c =
    let fits : SFits w64 c.from.result = search rules in
    let stands : StandsBefore 32 c.args.text.now 1 = grind arith in
    let read = digit_of c.byte.result c.digit-value.result c.digit-value.ensures.value c.digit-value.ensures.other (omega arith) in
    rw (to_z-of_z fits, c.from.ensures, c.skip.ensures)
    (digit_read c.args.text.now c.digit-value.result stands (omega (arith, c.byte.ensures, read.0), omega (arith, c.byte.ensures, read.0)) (omega (arith, read.1, c.byte.ensures)))
