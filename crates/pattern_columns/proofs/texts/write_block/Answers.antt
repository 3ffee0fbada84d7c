use Rattle.std.proofs.lemmas.List.{length-map}
use Rattle.chrono_columns.specs.Columns.{day_entry, month_entry, year_entry}
use Rattle.chrono_columns.proofs.Blocks.{front-filled, names-two_digits}
use Rattle.pattern_columns.specs.Layouts.{layout_text}
use Rattle.pattern_columns.proofs.ColumnBlocks.{names-laid_out}
use Rattle.pattern_columns.proofs.texts.write_block.Goals as goal

pub write_names-requires-clause-two_digits : goal.write_names-requires-clause-two_digits
write_names-requires-clause-two_digits c =
    let dates = c.args.dates.now in
    names-two_digits dates _ _ _
    (front-filled _ _ _ _ c.split_dates.ensures.years (length-map dates year_entry))
    (front-filled _ _ _ _ c.split_dates.ensures.months (length-map dates month_entry))
    (front-filled _ _ _ _ c.split_dates.ensures.days (length-map dates day_entry))

pub returns : goal.returns
returns c =
    let dates = c.args.dates.now in
    names-laid_out 10 (layout_text c.args.layout) dates _ _ _ c.write_names.new.texts
    (front-filled _ _ _ _ c.split_dates.ensures.years (length-map dates year_entry))
    (front-filled _ _ _ _ c.split_dates.ensures.months (length-map dates month_entry))
    (front-filled _ _ _ _ c.split_dates.ensures.days (length-map dates day_entry))
    c.write_names.ensures
