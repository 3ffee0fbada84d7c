use Rattle.std.proofs.Common.{◌∙◌, ap, rules, sym, w32}
use Rattle.std.proofs.lemmas.Int.{to_z-of_z}
use Rattle.chrono_columns.specs.Columns.{has_four_digits}
use Rattle.chrono_columns.proofs.TextEntries.{four_digits, name-short, name-long}
use Rattle.chrono_columns.proofs.written.text_of_name_entry.Goals as goal

pub returns-then-is_short_year : goal.returns-then-is_short_year
returns-then-is_short_year c =
    let y = c.args.year in
    let here = to_z-of_z w32 y c.ranges.year in
    let short = ap (λ z. has_four_digits z) (sym here) ∙ sym c.is_short_year.ensures ∙ c.if-is_short_year.true in
    let range = four_digits y short in
    let year = (rw here at c.nearest_short_year.ensures.same) range.0 range.1 in
    c.text_of_name-text.ensures ∙ name-short y _ c.args.month _ c.args.day _ year (search rules) (search rules) short

pub returns-else-is_short_year : goal.returns-else-is_short_year
returns-else-is_short_year c =
    let y = c.args.year in
    name-long y c.args.month c.args.day (ap (λ z. has_four_digits z) (sym (to_z-of_z w32 y c.ranges.year)) ∙ sym c.is_short_year.ensures ∙ c.if-is_short_year.false)
