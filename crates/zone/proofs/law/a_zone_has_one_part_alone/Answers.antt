use Rattle.std.proofs.Common.{refl}
use Rattle.zone_table.specs.Sequence.{come_by}
use Rattle.zone.proofs.law.a_zone_has_one_part_alone.Goals as goal

pub returns-clause-rule : goal.returns-clause-rule
unfolding come_by
returns-clause-rule c = λ first r u. refl
