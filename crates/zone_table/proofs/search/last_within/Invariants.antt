use Rattle.zone_table.proofs.SearchLemmas.{Within}
use Rattle.zone_table.proofs.search.last_within.Given as goal

abbrev pub decreases-loop-width : goal.decreases-loop-width
decreases-loop-width l = l.width

abbrev pub invariant-loop-width : goal.invariant-loop-width
invariant-loop-width l = Within l.rows l.from l.fn.second l.width
