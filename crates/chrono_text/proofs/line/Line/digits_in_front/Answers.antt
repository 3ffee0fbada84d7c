use Rattle.std.proofs.Common.{◌≡◌, ◌≢◌, ◌+◌, ◌-◌, ◌/◌, ◌^◌, ℕ, List, length, get_or, take, drop, refl, ap, sym, ◌∙◌, subst, arith}
use lib.Count.{count_trailing_zeros}
use Rattle.std.specs.Int.{IsInRange}
use Rattle.std.proofs.Math.Nat.{zero-div}
use Rattle.std.proofs.lemmas.List.{get_or-drop, take_rest}
use Rattle.chrono_text.specs.Marks.{marks_of}
use Rattle.chrono_text.proofs.LaneLemmas.{DigitsFrom, from_marks}
use Rattle.chrono_text.proofs.line.Line.digits_in_front.Goals as goal

-- a byte of the rest is one of all
same : (bytes : List ℕ) (at k : ℕ) → get_or bytes (at + k) 0 ≡ get_or (take (length bytes - at) (drop at bytes)) k 0
same bytes at k = sym (get_or-drop at bytes k 0) ∙ ap (λ l. get_or l k 0) (sym (take_rest bytes at))

marked : (c : goal.After-result-2-1) → DigitsFrom c.self.inside.bytes.now c.self.inside.start (count_trailing_zeros 64 (c.self.inside.marks / 2 ^ c.self.inside.start))
marked c =
    let all = c.self.inside.bytes.now in
    let start = c.self.inside.start in
    let some : c.self.inside.marks ≢ 0 = λ none. c.if-marks-eq0.false (ap (λ m. m / 2 ^ start) none ∙ zero-div (2 ^ start)) in
    let known = c.self.invariant.2 some in
    let prefix = known.1 in
    rw (← prefix.2) at (from_marks all prefix.0 start (count_trailing_zeros 64 (marks_of prefix.0 all / 2 ^ start)) prefix.1 (omega (arith, known.0, prefix.1)) (λ none. c.if-marks-eq0.false (ap (λ m. m / 2 ^ start) prefix.2 ∙ none)) refl)

pub returns-clause-digits : goal.returns-clause-digits
returns-clause-digits c = λ k to.
    let all = c.self.inside.bytes.now in
    let start = c.self.inside.start in
    subst (IsInRange 48 57) (same all start k) ((marked c).digits k to)

pub returns-clause-end : goal.returns-clause-end
returns-clause-end c = λ range.
    let all = c.self.inside.bytes.now in
    let start = c.self.inside.start in
    (marked c).end (subst (IsInRange 48 57) (sym (same all start _)) range)
