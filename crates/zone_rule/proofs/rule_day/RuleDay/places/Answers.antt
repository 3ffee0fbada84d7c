use Rattle.std.proofs.Common.{arith, ap, sym, ◌∙◌}
use Rattle.chrono_calendar.proofs.Signed.{signed}
use Rattle.zone_rule.specs.Changes.{day_in_year}
use Rattle.zone_rule.specs.RuleDays.{days_later}
use Rattle.zone_rule.proofs.DaysInYears.{day_in_year-from_zero, day_in_year-julian, ordinal_of_julian-bounds}
use Rattle.zone_rule.proofs.rule_day.RuleDay.places.Goals as goal

pub returns-in-Julian-clause-least : goal.returns-in-Julian-clause-least
returns-in-Julian-clause-least c = λ y year.
    let is = ap (day_in_year y) c.in-Julian.is ∙ day_in_year-julian y c.in-Julian.n in
    omega (arith, signed, is, c.from.ensures, ordinal_of_julian-bounds y c.in-Julian.n)

pub returns-in-Julian-clause-most : goal.returns-in-Julian-clause-most
returns-in-Julian-clause-most c = λ y year.
    let is = ap (day_in_year y) c.in-Julian.is ∙ day_in_year-julian y c.in-Julian.n in
    omega (arith, signed, is, c.from.ensures, ordinal_of_julian-bounds y c.in-Julian.n)

pub returns-in-FromZero-clause-least : goal.returns-in-FromZero-clause-least
returns-in-FromZero-clause-least c = λ y year.
    let is = ap (day_in_year y) c.in-FromZero.is ∙ day_in_year-from_zero y c.in-FromZero.n in
    omega (arith, signed, is, c.from-in-FromZero.ensures)

pub returns-in-FromZero-clause-most : goal.returns-in-FromZero-clause-most
returns-in-FromZero-clause-most c = λ y year.
    let is = ap (day_in_year y) c.in-FromZero.is ∙ day_in_year-from_zero y c.in-FromZero.n in
    omega (arith, signed, is, c.from-in-FromZero.ensures)

pub returns-in-Week-clause-later : goal.returns-in-Week-clause-later
returns-in-Week-clause-later c = c.week_places.ensures.later c.in-Week.weekday ∙ sym (ap days_later c.in-Week.is)
