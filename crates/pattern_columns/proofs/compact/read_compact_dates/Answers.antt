use Rattle.std.proofs.Common.{[], pos, rules}
use Rattle.pattern_columns.specs.Layouts.{IsEntryBy, compact_text}
use Rattle.pattern_columns.proofs.ColumnBlocks.{more-written}
use Rattle.pattern_columns.proofs.LayoutEntries.{entry-renamed}
use Rattle.pattern_columns.proofs.compact.read_compact_dates.Goals as goal

pub loop-i-preserved : goal.loop-i-preserved
loop-i-preserved c =
    more-written (IsEntryBy compact_text) [] (pos 0) c.args.texts.now c.loop-i.out c.loop-i.i _ (search rules) c.loop-i.invariant
    (entry-renamed compact_text _ _ _ c.iso_of_digits.ensures (search rules))
