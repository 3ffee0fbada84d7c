use Rattle.std.proofs.Common.{rules}
use Rattle.std.proofs.lemmas.List.{length-map}
use Rattle.chrono_columns.specs.Columns.{year_entry, month_entry, day_entry}
use Rattle.chrono_columns.proofs.Blocks.{front-filled, names-two_digits, names-written}
use Rattle.chrono_columns.proofs.texts.write_block.Goals as goal

pub write_names-requires-clause-two_digits : goal.write_names-requires-clause-two_digits
write_names-requires-clause-two_digits c =
    let dates = c.args.dates.now in
    names-two_digits dates _ _ _
    (front-filled _ _ _ _ c.split_dates.ensures.years (length-map dates year_entry))
    (front-filled _ _ _ _ c.split_dates.ensures.months (length-map dates month_entry))
    (front-filled _ _ _ _ c.split_dates.ensures.days (length-map dates day_entry))

pub returns : goal.returns
returns c =
    let dates = c.args.dates.now in
    names-written dates _ _ _ c.write_names.new.texts
    (front-filled _ _ _ _ c.split_dates.ensures.years (length-map dates year_entry))
    (front-filled _ _ _ _ c.split_dates.ensures.months (length-map dates month_entry))
    (front-filled _ _ _ _ c.split_dates.ensures.days (length-map dates day_entry))
    (search rules) c.write_names.ensures
