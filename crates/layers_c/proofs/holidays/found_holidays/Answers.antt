use Rattle.std.proofs.Common.{subst, List, IfNone, w32}
use Rattle.std.proofs.lemmas.Int.{to_z-of_z}
use Rattle.chrono_business.specs.declared.holiday_rule.HolidayRule.{HolidayRule}
use Rattle.layers_c.specs.Holidays.{AreTooManyFor}
use Rattle.layers_c.proofs.KnownHolidays.{england, fedwire, france, germany, japan, stock_exchange, target, united_states}
use Rattle.layers_c.proofs.holidays.found_holidays.Goals as goal

pub returns-in-0-clause-none : goal.returns-in-0-clause-none
returns-in-0-clause-none c = λ rules numbered.
    subst (λ (rs : List HolidayRule). IfNone c.holidays_of.result (AreTooManyFor c.args.most rs c.args.first_year c.args.last_year c.args.weekend)) (united_states c.args.which rules c.in-0.is numbered)
    (rw (to_z-of_z w32 c.args.first_year c.ranges.first_year, to_z-of_z w32 c.args.last_year c.ranges.last_year, c.us_federal.ensures.rules, c.requires) at c.holidays_of.ensures.none)

pub returns-in-1-clause-none : goal.returns-in-1-clause-none
returns-in-1-clause-none c = λ rules numbered.
    subst (λ (rs : List HolidayRule). IfNone c.holidays_of-in-1.result (AreTooManyFor c.args.most rs c.args.first_year c.args.last_year c.args.weekend)) (target c.args.which rules c.in-1.is numbered)
    (rw (to_z-of_z w32 c.args.first_year c.ranges.first_year, to_z-of_z w32 c.args.last_year c.ranges.last_year, c.target.ensures.rules, c.requires) at c.holidays_of-in-1.ensures.none)

pub returns-in-2-clause-none : goal.returns-in-2-clause-none
returns-in-2-clause-none c = λ rules numbered.
    subst (λ (rs : List HolidayRule). IfNone c.holidays_of-in-2.result (AreTooManyFor c.args.most rs c.args.first_year c.args.last_year c.args.weekend)) (england c.args.which rules c.in-2.is numbered)
    (rw (to_z-of_z w32 c.args.first_year c.ranges.first_year, to_z-of_z w32 c.args.last_year c.ranges.last_year, c.england_and_wales.ensures.rules, c.requires) at c.holidays_of-in-2.ensures.none)

pub returns-in-3-clause-none : goal.returns-in-3-clause-none
returns-in-3-clause-none c = λ rules numbered.
    subst (λ (rs : List HolidayRule). IfNone c.holidays_of-in-3.result (AreTooManyFor c.args.most rs c.args.first_year c.args.last_year c.args.weekend)) (fedwire c.args.which rules c.in-3.is numbered)
    (rw (to_z-of_z w32 c.args.first_year c.ranges.first_year, to_z-of_z w32 c.args.last_year c.ranges.last_year, c.fedwire.ensures.rules, c.requires) at c.holidays_of-in-3.ensures.none)

pub returns-in-4-clause-none : goal.returns-in-4-clause-none
returns-in-4-clause-none c = λ rules numbered.
    subst (λ (rs : List HolidayRule). IfNone c.holidays_of-in-4.result (AreTooManyFor c.args.most rs c.args.first_year c.args.last_year c.args.weekend)) (stock_exchange c.args.which rules c.in-4.is numbered)
    (rw (to_z-of_z w32 c.args.first_year c.ranges.first_year, to_z-of_z w32 c.args.last_year c.ranges.last_year, c.nyse.ensures.rules, c.requires) at c.holidays_of-in-4.ensures.none)

pub returns-in-5-clause-none : goal.returns-in-5-clause-none
returns-in-5-clause-none c = λ rules numbered.
    subst (λ (rs : List HolidayRule). IfNone c.holidays_of-in-5.result (AreTooManyFor c.args.most rs c.args.first_year c.args.last_year c.args.weekend)) (germany c.args.which rules c.in-5.is numbered)
    (rw (to_z-of_z w32 c.args.first_year c.ranges.first_year, to_z-of_z w32 c.args.last_year c.ranges.last_year, c.germany.ensures.rules, c.requires) at c.holidays_of-in-5.ensures.none)

pub returns-in-6-clause-none : goal.returns-in-6-clause-none
returns-in-6-clause-none c = λ rules numbered.
    subst (λ (rs : List HolidayRule). IfNone c.holidays_of-in-6.result (AreTooManyFor c.args.most rs c.args.first_year c.args.last_year c.args.weekend)) (france c.args.which rules c.in-6.is numbered)
    (rw (to_z-of_z w32 c.args.first_year c.ranges.first_year, to_z-of_z w32 c.args.last_year c.ranges.last_year, c.france.ensures.rules, c.requires) at c.holidays_of-in-6.ensures.none)

pub returns-in-7-clause-none : goal.returns-in-7-clause-none
returns-in-7-clause-none c = λ rules numbered.
    subst (λ (rs : List HolidayRule). IfNone c.holidays_of-in-7.result (AreTooManyFor c.args.most rs c.args.first_year c.args.last_year c.args.weekend)) (japan c.args.which rules c.in-7.is numbered)
    (rw (to_z-of_z w32 c.args.first_year c.ranges.first_year, to_z-of_z w32 c.args.last_year c.ranges.last_year, c.japan.ensures.rules, c.requires) at c.holidays_of-in-7.ensures.none)
