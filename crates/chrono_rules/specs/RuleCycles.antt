-- After how many days the days of a rule repeat. Private functions alone use it.
use Rattle.std.specs.Prelude.{◌≡◌, ℕ, ℤ, pos, ◌+ℤ◌, ◌<ℤ◌}
use Rattle.chrono_rules.specs.ByParts.{passes}
use Rattle.chrono_rules.specs.Instances.{in_interval}
use Rattle.chrono_rules.specs.Periods.{period_end, period_first}
use Rattle.chrono_rules.specs.declared.rule.Frequency.{Frequency}
use Rattle.chrono_rules.specs.declared.rule.Frequency.TheVariants.{Daily, Monthly, Weekly, Yearly}
use Rattle.chrono_rules.specs.declared.rule.Rule.{Rule}

-- so many days later each day passes and counts as it does here, and its period lies there as its period lies here. So a day in the middle of the
-- calendar is a member if the day so many days later is one, unless the start or UNTIL lies between
pub record RepeatsAfter (r : Rule) (days : ℤ) : Type 0 where
  pub later : pos 0 <ℤ days
  pub passing : (start n m : ℤ) → m ≡ n +ℤ days → passes r start m ≡ passes r start n
  pub counting : (start n m : ℤ) → m ≡ n +ℤ days → in_interval r start m ≡ in_interval r start n
  pub firsts : (n m : ℤ) → m ≡ n +ℤ days → period_first r.frequency r.week_start m ≡ period_first r.frequency r.week_start n +ℤ days
  pub ends : (n m : ℤ) → m ≡ n +ℤ days → period_end r.frequency r.week_start m ≡ period_end r.frequency r.week_start n +ℤ days

-- how many periods 400 years have, which are 146,097 days or 20,871 weeks
unfoldable pub periods_of_400_years : Frequency → ℕ
periods_of_400_years Daily = 146_097
periods_of_400_years Weekly = 20_871
periods_of_400_years Monthly = 4_800
periods_of_400_years Yearly = 400
