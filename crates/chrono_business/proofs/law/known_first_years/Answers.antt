use Rattle.std.proofs.Common.{refl}
use Rattle.chrono_business.specs.PublicHolidays.{england_and_wales_rules, fedwire_rules, france_rules, germany_rules, japan_rules, nyse_rules, target_rules, us_federal_rules}
use Rattle.chrono_business.proofs.law.known_first_years.Goals as goal

pub returns-clause-us_federal : goal.returns-clause-us_federal
unfolding us_federal_rules
returns-clause-us_federal c = refl

pub returns-clause-us_federal_none : goal.returns-clause-us_federal_none
unfolding us_federal_rules
returns-clause-us_federal_none c = refl

pub returns-clause-target : goal.returns-clause-target
unfolding target_rules
returns-clause-target c = refl

pub returns-clause-target_none : goal.returns-clause-target_none
unfolding target_rules
returns-clause-target_none c = refl

pub returns-clause-england_and_wales : goal.returns-clause-england_and_wales
unfolding england_and_wales_rules
returns-clause-england_and_wales c = refl

pub returns-clause-england_and_wales_none : goal.returns-clause-england_and_wales_none
unfolding england_and_wales_rules
returns-clause-england_and_wales_none c = refl

pub returns-clause-fedwire : goal.returns-clause-fedwire
unfolding fedwire_rules
returns-clause-fedwire c = refl

pub returns-clause-fedwire_none : goal.returns-clause-fedwire_none
unfolding fedwire_rules
returns-clause-fedwire_none c = refl

pub returns-clause-nyse : goal.returns-clause-nyse
unfolding nyse_rules
returns-clause-nyse c = refl

pub returns-clause-nyse_none : goal.returns-clause-nyse_none
unfolding nyse_rules
returns-clause-nyse_none c = refl

pub returns-clause-germany : goal.returns-clause-germany
unfolding germany_rules
returns-clause-germany c = refl

pub returns-clause-germany_none : goal.returns-clause-germany_none
unfolding germany_rules
returns-clause-germany_none c = refl

pub returns-clause-france : goal.returns-clause-france
unfolding france_rules
returns-clause-france c = refl

pub returns-clause-france_none : goal.returns-clause-france_none
unfolding france_rules
returns-clause-france_none c = refl

pub returns-clause-japan : goal.returns-clause-japan
unfolding japan_rules
returns-clause-japan c = refl

pub returns-clause-japan_none : goal.returns-clause-japan_none
unfolding japan_rules
returns-clause-japan_none c = refl
