use Rattle.std.proofs.Common.{◌≡◌, w64, arith, ◌∙◌}
use Rattle.std.proofs.lemmas.Int.{ints, to_z-of_z}
use Rattle.chrono_instant.specs.Instants.{epoch_second}
use Rattle.zoned_rules.proofs.zoned_rule.ZonedRule.without_count.Goals as goal

pub returns-in-Some-clause-same : goal.returns-in-Some-clause-same
returns-in-Some-clause-same g c = λ u.
    let end = c.last_second in
    let is : epoch_second c.in-Some.last ≡ end.result = c.in-Some.ensures.value.second ∙ to_z-of_z w64 end.result (record { sfits = end.type_inv }) in (
      λ f. record { recurs = f.recurs; within = end.ensures.inside u f.recurs (omega (arith, ints, is, f.within)) },
      λ f. record { recurs = f.recurs; within = omega (arith, ints, is, end.ensures.outside u f.recurs f.within) },
    )
