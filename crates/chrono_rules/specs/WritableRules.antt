-- The rules that a text can write.
use Rattle.std.specs.Prelude.{◌≡◌, ℕ, ◌+◌, ◌^◌, ◌<◌, ◌≤◌, Bool, true, pos, ◌≤ℤ◌}
use Rattle.std.specs.List.{list_all}
use Rattle.chrono_datetime.specs.Days.{year_of}
use Rattle.chrono_sets.specs.FiniteSets.{FiniteSet, lies_within}
use Rattle.chrono_rules.specs.RuleTexts.{fits}
use Rattle.chrono_rules.specs.declared.rule.End.{End}
use Rattle.chrono_rules.specs.declared.rule.End.TheVariants.{Never, Count, Until}
use Rattle.chrono_rules.specs.declared.rule.Rule.{Rule}

-- each number of the set is from 1 to `most`
abbrev pub is_from_one_to : ℕ → FiniteSet → Bool
is_from_one_to most set = lies_within 1 (most + 1) set

-- a number of instances below 2^32, or a last day in a year of four digits
abbrev pub IsWritableEnd : End → Type 0
IsWritableEnd Never = Unit {0}
IsWritableEnd (Count n) = n < 2 ^ 32
IsWritableEnd (Until n) = (pos 0 ≤ℤ year_of n) × (year_of n ≤ℤ pos 9_999)

-- an interval from 1 on, an end that can be written, lists with numbers of their parts alone, and parts that go together
pub record IsWritableRule (r : Rule) : Type 0 where
  pub interval : (1 ≤ r.interval) × (r.interval < 2 ^ 32)
  pub end : IsWritableEnd r.end
  pub months : is_from_one_to 12 r.months ≡ true
  pub month_days : is_from_one_to 31 r.month_days ≡ true
  pub month_days_from_end : is_from_one_to 31 r.month_days_from_end ≡ true
  pub weekdays : lies_within 0 7 r.weekdays.every ≡ true
  pub numbered_weekdays : list_all (is_from_one_to 53) r.weekdays.front ≡ true
  pub numbered_weekdays_from_end : list_all (is_from_one_to 53) r.weekdays.back ≡ true
  pub year_days : is_from_one_to 366 r.year_days ≡ true
  pub year_days_from_end : is_from_one_to 366 r.year_days_from_end ≡ true
  pub weeks : is_from_one_to 53 r.weeks ≡ true
  pub weeks_from_end : is_from_one_to 53 r.weeks_from_end ≡ true
  pub positions : is_from_one_to 366 r.positions ≡ true
  pub positions_from_end : is_from_one_to 366 r.positions_from_end ≡ true
  pub fitting : fits r ≡ true
