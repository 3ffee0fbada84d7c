use Rattle.std.proofs.Common.{pos, get_or, rules}
use Rattle.pattern_columns.specs.Layouts.{compact_text}
use Rattle.pattern_columns.proofs.ColumnBlocks.{more-named}
use Rattle.pattern_columns.proofs.LayoutEntries.{name-rewritten}
use Rattle.pattern_columns.proofs.compact.write_compact_names.Goals as goal

pub loop-i-preserved : goal.loop-i-preserved
loop-i-preserved c =
    let i = c.loop-i.i in
    let years = c.args.years.now in
    let months = c.args.months.now in
    let days = c.args.days.now in
    let now = name-rewritten 8 compact_text (get_or years i (pos 0)) (get_or months i 0) (get_or days i 0) _ _ (search rules) c.put_digits_of_iso.ensures.date c.put_digits_of_iso.ensures.none in
    more-named 8 compact_text years months days c.loop-i.texts i _ (search rules) c.loop-i.invariant now
