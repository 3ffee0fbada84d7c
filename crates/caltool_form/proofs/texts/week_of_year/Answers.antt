use Rattle.std.proofs.Common.{◌+◌, ◌-◌, ◌<◌, ◌≤◌, ◌∙◌, ap, sym, arith}
use Rattle.chrono_units.specs.Years.{year_length}
use Rattle.chrono_units.specs.Weekday.{days_from_monday}
use Rattle.chrono_calendar.specs.Days.{year_of, ordinal_of}
use Rattle.chrono_calendar.proofs.Names.{ordinal_name_of-number, year_length_bounds}
use Rattle.chrono_calendar.proofs.NamedDates.{number-ordinal_name}
use Rattle.chrono_calendar.proofs.IsoWeeks.{iso_name-inside}
use Rattle.caltool_form.proofs.texts.week_of_year.Goals as goal

pub overflow_add-place : goal.overflow_add-place
overflow_add-place g c =
    let n = g.A.CommandAnswers.number c.args.date in
    omega (arith, c.requires.ordinal, (ordinal_name_of-number n).exists, year_length_bounds (year_of n))

pub returns-clause-week : goal.returns-clause-week
returns-clause-week g c =
    let n = g.A.CommandAnswers.number c.args.date in
    let monday = c.num_days_from_monday-from_monday.result in
    let is = c.num_days_from_monday-from_monday.ensures ∙ ap days_from_monday c.requires.weekday in
    let low : monday < ordinal_of n + 3 = omega (arith, c.requires.ordinal) in
    let high : ordinal_of n + 3 - monday ≤ year_length (year_of n) = omega (arith, c.requires.ordinal, year_length_bounds (year_of n)) in
    let name = iso_name-inside n (year_of n) (ordinal_of n) monday (sym (number-ordinal_name n)) is low high in
    omega (arith, c.requires.ordinal, name.1, low)

pub returns-clause-year : goal.returns-clause-year
returns-clause-year g c =
    let n = g.A.CommandAnswers.number c.args.date in
    let monday = c.num_days_from_monday-from_monday.result in
    let is = c.num_days_from_monday-from_monday.ensures ∙ ap days_from_monday c.requires.weekday in
    let low : monday < ordinal_of n + 3 = omega (arith, c.requires.ordinal) in
    let high : ordinal_of n + 3 - monday ≤ year_length (year_of n) = omega (arith, c.requires.ordinal, year_length_bounds (year_of n)) in
    (iso_name-inside n (year_of n) (ordinal_of n) monday (sym (number-ordinal_name n)) is low high).0
