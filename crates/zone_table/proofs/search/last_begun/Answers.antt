use Rattle.std.proofs.Common.{arith, length}
use Rattle.std.proofs.lemmas.Int.{ints}
use Rattle.zone_table.specs.Table.{row_second}
use Rattle.zone_table.proofs.SearchLemmas.{Come-none}
use Rattle.zone_table.proofs.search.last_begun.Goals as goal

pub returns-then-second-second_at-clause-none : goal.returns-then-second-second_at-clause-none
returns-then-second-second_at-clause-none c =
    Come-none (row_second c.args.rows.now) (length c.args.rows.now) c.args.second c.requires
    (omega (arith, ints, c.if-second-second_at.true, c.second_at.ensures, c.second_at.type_inv, c.ranges.second.sfits))
