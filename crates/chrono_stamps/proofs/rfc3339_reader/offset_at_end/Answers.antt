use Rattle.std.proofs.Common.{◌≡◌, ◌∙◌, List, ℕ, Some, length, inl, inr, sym, subst}
use Rattle.chrono_stamps.specs.Rfc3339.{IsSixBytes}
use Rattle.chrono_text.proofs.TextLemmas.{end_is}
use Rattle.chrono_stamps.proofs.OffsetLemmas.{six_long, zulu_last}
use Rattle.chrono_stamps.proofs.rfc3339_reader.offset_at_end.Goals as goal

pub returns-in_err-six_bytes-clause-every : goal.returns-in_err-six_bytes-clause-every
returns-in_err-six_bytes-clause-every c = λ front offset x is e. elim is as (λ _. c.from_residual-in_err-six_bytes.result ≡ Some (x, length offset)) [
  | inl zulu ↦ elim (zulu_last c.args.text.now front _ offset _ zulu.0 e c.in_ok-last.ensures.cases.0) [ inl z ↦ absurd (c.if-last-eq90.false z) | inr z ↦ absurd (c.if-last-eq122.false z) ]
  | inr six ↦
      let cut = end_is c.args.text.now front offset 6 (six_long offset x six) e in
      let same = c.in_ok-end.ensures.cases.1 ∙ cut.1 in
      let none = c.in_err-six_bytes.ensures.every x (subst (λ (l : List ℕ). IsSixBytes l x) (sym same) six) in
      cc
]
