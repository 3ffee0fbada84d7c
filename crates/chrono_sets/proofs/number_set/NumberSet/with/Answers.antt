use Rattle.std.proofs.Common.{ap, ◌∙◌, bit_or}
use Rattle.std.proofs.lemmas.Nat.{one_shl}
use Rattle.chrono_sets.specs.FiniteSets.{has}
use Rattle.chrono_sets.proofs.Members.{has-with_number}
use Rattle.chrono_sets.proofs.number_set.NumberSet.with.Goals as goal

pub returns-clause-members : goal.returns-clause-members
returns-clause-members c =
    rw (← c.self.view_is)
    (λ k. ap (λ n. has (record { code = bit_or c.self.inside.digits n }) k) (one_shl c.args.number 64 c.requires) ∙ has-with_number (record { code = c.self.inside.digits }) c.args.number k)
