-- The year is that of one of the rules, and not later than that of a rule so far.
use Rattle.std.proofs.Common.{◌≤ℤ◌}
use Rattle.std.specs.List.{AllWithin}
use Rattle.chrono_business.specs.declared.holiday_rule.HolidayRule.{HolidayRule}
use Rattle.chrono_business.specs.KnownYears.{BeginsIn}
use Rattle.chrono_business.proofs.known_years.first_known_year.Given as goal

abbrev pub invariant-loop-rule : goal.invariant-loop-rule
invariant-loop-rule l = record {
  begins : BeginsIn l.rules l.first;
  least : AllWithin (λ (r : HolidayRule). l.first ≤ℤ r.first_year) l.rules 0 l.rule-index;
}
