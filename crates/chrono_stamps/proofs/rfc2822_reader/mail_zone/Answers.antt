use Rattle.std.proofs.Common.{◌≡◌, Some, inl, inr, subst, List, ℕ, arith}
use Rattle.chrono_stamps.specs.Rfc3339.{IsSixBytes}
use Rattle.chrono_stamps.proofs.MailStampLemmas.{five_bytes}
use Rattle.chrono_stamps.proofs.rfc2822_reader.mail_zone.Goals as goal

pub returns-in-len5-clause-every : goal.returns-in-len5-clause-every
returns-in-len5-clause-every c = λ x is. elim is as (λ _. c.six_bytes.result ≡ Some x) [
  | inl digits ↦ c.six_bytes.ensures.every x (subst (λ (l : List ℕ). IsSixBytes l x) (five_bytes c.args.word.now digits.long) digits.six_bytes)
  | inr name ↦ absurd (omega (arith, name.short, c.in-len5.len_at_least))
]
