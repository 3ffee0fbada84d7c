use Rattle.std.proofs.Common.{[], pos, rules}
use Rattle.pattern_columns.specs.Layouts.{IsEntryBy, layout_text}
use Rattle.pattern_columns.proofs.ColumnBlocks.{more-written}
use Rattle.pattern_columns.proofs.LayoutEntries.{entry-renamed}
use Rattle.pattern_columns.proofs.texts.read_each.Goals as goal

pub loop-i-preserved : goal.loop-i-preserved
loop-i-preserved c =
    more-written (IsEntryBy (layout_text c.args.layout)) [] (pos 0) c.args.texts.now c.loop-i.out c.loop-i.i _ (search rules) c.loop-i.invariant
    (entry-renamed (layout_text c.args.layout) _ _ _ c.to_iso.ensures (search rules))
