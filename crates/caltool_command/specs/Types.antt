-- Numbers as months and as weekdays.
use Rattle.std.specs.Prelude.{◌+◌, ◌-◌, ◌^◌, ℤ, pos, negsuc, unsigned_abs, Option}
use Rattle.std.specs.Option.{option_map}
use Rattle.chrono_text.specs.Numbers.{within}
use Rattle.chrono_units.specs.declared.weekday.Weekday.{Weekday}
use Rattle.chrono_units.specs.Weekday.{weekday_from_monday}
use Rattle.caltool_command.specs.declared.arguments.MonthSpan.{MonthSpan}
use Rattle.caltool_command.specs.declared.arguments.MonthSpan.TheVariants.{Later, Earlier}

-- so many months on, or back
abbrev pub span_of : ℤ → MonthSpan
span_of (pos n) = Later n
span_of (negsuc n) = Earlier (n + 1)

-- a number of months, whose size fits a `u32`
unfoldable pub to_months : ℤ → Option MonthSpan
to_months z = option_map span_of (within (negsuc (2 ^ 32 - 2)) (pos (2 ^ 32 - 1)) z)

-- a day of the week, from 1 for Monday to 7 for Sunday
unfoldable pub to_weekday : ℤ → Option Weekday
to_weekday z = option_map (λ n. weekday_from_monday (unsigned_abs n - 1)) (within (pos 1) (pos 7) z)
