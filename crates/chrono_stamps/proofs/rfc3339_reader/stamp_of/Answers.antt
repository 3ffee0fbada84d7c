use Rattle.std.proofs.Common.{◌∙◌}
use Rattle.std.proofs.lemmas.Option.{some_pair_parts}
use Rattle.chrono_stamps.proofs.rfc3339_reader.stamp_of.Goals as goal

pub returns-in_err-local-clause-every : goal.returns-in_err-local-clause-every
returns-in_err-local-clause-every c = λ m x is. let none = c.in_err-local.ensures.every m x is in absurd cc

pub returns-clause-every : goal.returns-clause-every
returns-clause-every c = λ m x is.
    let same = some_pair_parts c.in_ok-local.local m c.in_ok-local.offset x (c.in_ok-local.ensures.every m x is) in
    (c.at_offset.ensures.local ∙ same.0, c.at_offset.ensures.zone ∙ same.1)
