use Rattle.std.proofs.Common.{◌-◌, length}
use Rattle.zone_table.specs.Sequence.{local_start}
use Rattle.zone_table.specs.Table.{offset_after, row_second}
use Rattle.zone_table.proofs.SequenceLemmas.{Bisected}
use Rattle.zone_table.proofs.offsets.starts_by.Given as goal

abbrev pub decreases-loop-low : goal.decreases-loop-low
decreases-loop-low l = l.high - l.low

abbrev pub invariant-loop-low : goal.invariant-loop-low
invariant-loop-low l = Bisected (local_start (row_second l.rows) (offset_after l.fn.first l.rows)) (length l.rows) l.fn.local l.low l.high
