-- The rules with a number.
use Rattle.std.proofs.Common.{◌≡◌, ℕ, List, Some}
use Rattle.chrono_business.specs.PublicHolidays.{england_and_wales_rules, fedwire_rules, france_rules, germany_rules, japan_rules, nyse_rules, target_rules, us_federal_rules}
use Rattle.chrono_business.specs.declared.holiday_rule.HolidayRule.{HolidayRule}
use Rattle.layers_c.specs.Holidays.{rules_numbered}
use Rattle.std.proofs.lemmas.Option.{same_Some}

pub united_states : (which : ℕ) (rules : List HolidayRule) → which ≡ 0 → rules_numbered which ≡ Some rules → us_federal_rules ≡ rules
united_states which rules is numbered = same_Some us_federal_rules rules (rw is at numbered)

pub target : (which : ℕ) (rules : List HolidayRule) → which ≡ 1 → rules_numbered which ≡ Some rules → target_rules ≡ rules
target which rules is numbered = same_Some target_rules rules (rw is at numbered)

pub england : (which : ℕ) (rules : List HolidayRule) → which ≡ 2 → rules_numbered which ≡ Some rules → england_and_wales_rules ≡ rules
england which rules is numbered = same_Some england_and_wales_rules rules (rw is at numbered)

pub fedwire : (which : ℕ) (rules : List HolidayRule) → which ≡ 3 → rules_numbered which ≡ Some rules → fedwire_rules ≡ rules
fedwire which rules is numbered = same_Some fedwire_rules rules (rw is at numbered)

pub stock_exchange : (which : ℕ) (rules : List HolidayRule) → which ≡ 4 → rules_numbered which ≡ Some rules → nyse_rules ≡ rules
stock_exchange which rules is numbered = same_Some nyse_rules rules (rw is at numbered)

pub germany : (which : ℕ) (rules : List HolidayRule) → which ≡ 5 → rules_numbered which ≡ Some rules → germany_rules ≡ rules
germany which rules is numbered = same_Some germany_rules rules (rw is at numbered)

pub france : (which : ℕ) (rules : List HolidayRule) → which ≡ 6 → rules_numbered which ≡ Some rules → france_rules ≡ rules
france which rules is numbered = same_Some france_rules rules (rw is at numbered)

pub japan : (which : ℕ) (rules : List HolidayRule) → which ≡ 7 → rules_numbered which ≡ Some rules → japan_rules ≡ rules
japan which rules is numbered = same_Some japan_rules rules (rw is at numbered)
