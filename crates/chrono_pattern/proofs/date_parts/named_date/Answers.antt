use Rattle.std.proofs.Common.{sym, ◌∙◌}
use Rattle.chrono_pattern.proofs.DatePartLemmas.{from_monday_fits, from_sunday_fits, last_named}
use Rattle.chrono_pattern.proofs.date_parts.named_date.Goals as goal

pub returns-then-names_year_week : goal.returns-then-names_year_week
returns-then-names_year_week c = λ n date named fits.
    let parts = c.args.parts in
    c.year_week_date.ensures n date (sym c.names_year_week.ensures ∙ c.if-names_year_week.true) (from_sunday_fits parts n fits) fits

pub returns-else-names_year_week : goal.returns-else-names_year_week
returns-else-names_year_week c = λ n date named fits.
    let parts = c.args.parts in
    let last = last_named parts named (sym c.names_calendar.ensures ∙ c.if-names_calendar.false) (sym c.names_ordinal.ensures ∙ c.if-names_ordinal.false)
    (sym c.names_week.ensures ∙ c.if-names_week.false) (sym c.names_year_week.ensures ∙ c.if-names_year_week.false) in
    c.year_week_date-else-names_year_week.ensures n date last (from_monday_fits parts n fits) fits
