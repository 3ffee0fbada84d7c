use Rattle.std.proofs.Common.{w64}
use Rattle.std.proofs.lemmas.Int.{to_z-of_z}
use Rattle.chrono_instant.specs.Instants.{epoch_second}
use Rattle.zoned_rules.proofs.SecondsAgain.{stands_high, stands_low}
use Rattle.zoned_rules.proofs.zoned_rule.ZonedRule.start_second.Goals as goal

pub returns-clause-low : goal.returns-clause-low
returns-clause-low g c = let found = c.second_of in stands_low (epoch_second c.start.result) found.result _ (to_z-of_z w64 found.result (record { sfits = found.type_inv })) found.ensures.date found.ensures.low

pub returns-clause-high : goal.returns-clause-high
returns-clause-high g c = let found = c.second_of in stands_high (epoch_second c.start.result) found.result _ (to_z-of_z w64 found.result (record { sfits = found.type_inv })) found.ensures.date found.ensures.high
