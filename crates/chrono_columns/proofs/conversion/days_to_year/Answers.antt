use Rattle.std.proofs.Common.{◌∙◌, ap, to_z-of_z, pos, ◌+ℤ◌}
use Rattle.chrono_calendar.specs.Days.{days_before_year}
use Rattle.chrono_stored.proofs.DayNumbers.{days_before_year-range}
use Rattle.chrono_columns.proofs.conversion.days_to_year.Goals as goal

pub returns-clause-in_range : goal.returns-clause-in_range
returns-clause-in_range c =
    let here = ap (λ y. days_before_year y +ℤ pos 95_839_632) (to_z-of_z c.ranges.year) in
    days_before_year-range c.args.year _ c.requires.low c.requires.high (c.days_counted_before.ensures ∙ here)
