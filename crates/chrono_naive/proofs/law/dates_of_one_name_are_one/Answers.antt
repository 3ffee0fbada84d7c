use Rattle.std.proofs.Common.{◌∙◌, ap, arith, sym}
use Rattle.chrono_units.specs.Weekday.{days_since}
use Rattle.chrono_units.specs.declared.weekday.Weekday.TheVariants.{Mon}
use Rattle.chrono_calendar.specs.Days.{day_number_of_ymd, day_number_of_yo, day_of, month_of, ordinal_of, year_of}
use Rattle.chrono_calendar.proofs.IsoMondays.{monday-same}
use Rattle.chrono_calendar.proofs.NamedDates.{number-calendar_name, number-ordinal_name}
use Rattle.chrono_calendar.proofs.Signed.{signed}
use Rattle.chrono_naive.proofs.law.dates_of_one_name_are_one.Goals as goal

pub returns-clause-calendar : goal.returns-clause-calendar
returns-clause-calendar c = λ y m d.
    let a = c.args.first in
    let b = c.args.second in
    sym (number-calendar_name a) ∙ (ap (λ z. day_number_of_ymd z (month_of a) (day_of a)) y ∙ (ap (λ k. day_number_of_ymd (year_of b) k (day_of a)) m
    ∙ (ap (λ k. day_number_of_ymd (year_of b) (month_of b) k) d ∙ number-calendar_name b)))

pub returns-clause-ordinal : goal.returns-clause-ordinal
returns-clause-ordinal c = λ y o.
    let a = c.args.first in
    let b = c.args.second in
    sym (number-ordinal_name a) ∙ (ap (λ z. day_number_of_yo z (ordinal_of a)) y ∙ (ap (λ k. day_number_of_yo (year_of b) k) o ∙ number-ordinal_name b))

pub returns-clause-iso : goal.returns-clause-iso
returns-clause-iso c = λ y w d.
    omega (arith, signed, monday-same c.args.first c.args.second y w, ap (λ k. days_since k Mon) d)
