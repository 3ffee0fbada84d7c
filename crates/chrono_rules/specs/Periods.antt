-- The periods of a rule: its days, weeks, months or years.
--
-- FREQ says which (RFC 5545, 3.3.10): it "identifies the type of recurrence rule". WKST is "the day on which the workweek starts".
-- What stands in quotation marks gives the sense of that section. Every definition takes FREQ and WKST; weeks alone need WKST.
use Rattle.std.specs.Prelude.{◌≡◌, ℤ, pos, ◌+ℤ◌, ◌-ℤ◌, refl}
use Rattle.std.specs.Int.{int_div_euclid}
use Rattle.chrono_datetime.specs.Days.{ordinal_of, year_of}
use Rattle.chrono_datetime.specs.MonthMoves.{month_first_of, month_index_of, month_last_of}
use Rattle.chrono_datetime.specs.Weeks.{week_first_of}
use Rattle.chrono_datetime.specs.Years.{year_length}
use Rattle.chrono_datetime.specs.declared.Weekday.{Weekday}
use Rattle.chrono_datetime.specs.declared.Weekday.TheVariants.{Mon, Sun}
use Rattle.chrono_rules.specs.declared.rule.Frequency.{Frequency}
use Rattle.chrono_rules.specs.declared.rule.Frequency.TheVariants.{Daily, Weekly, Monthly, Yearly}

-- the number of the period of the day n. Periods in a row have numbers in a row: first days of weeks lie 7 days apart, so each 7 days add 1
unfoldable pub period_of : Frequency → Weekday → ℤ → ℤ
period_of Daily week_start n = n
period_of Weekly week_start n = int_div_euclid (week_first_of n week_start) (pos 7)
period_of Monthly week_start n = month_index_of n
period_of Yearly week_start n = year_of n

-- the first day of the period of the day n
unfoldable pub period_first : Frequency → Weekday → ℤ → ℤ
period_first Daily week_start n = n
period_first Weekly week_start n = week_first_of n week_start
period_first Monthly week_start n = month_first_of n
period_first Yearly week_start n = (n +ℤ pos 1) -ℤ pos (ordinal_of n)

-- the day after the last of the period of the day n
unfoldable pub period_end : Frequency → Weekday → ℤ → ℤ
period_end Daily week_start n = n +ℤ pos 1
period_end Weekly week_start n = week_first_of n week_start +ℤ pos 7
period_end Monthly week_start n = month_last_of n +ℤ pos 1
period_end Yearly week_start n = ((n +ℤ pos 1) +ℤ pos (year_length (year_of n))) -ℤ pos (ordinal_of n)

-- known values: of Wednesday, 3 January of the year 1, the first day of the week, from Monday and from Sunday on
period_first-monday : period_first Weekly Mon (pos 3) ≡ pos 1
unfolding period_first
period_first-monday = refl

period_first-sunday : period_first Weekly Sun (pos 3) ≡ pos 0
unfolding period_first
period_first-sunday = refl
