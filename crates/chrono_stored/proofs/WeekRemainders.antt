-- The weekday of a day by a remainder of 7, counted from Monday.
use Rattle.std.proofs.Common.{◌≡◌, ℕ, ◌+◌, ◌%◌, ◌<◌, arith}
use Rattle.std.proofs.lemmas.Bool.Decides.{nat_tests}
use Rattle.chrono_units.specs.Weekday.{weekday_from_monday, weekday_from_sunday}

-- the same weekday, counted from Monday and from Sunday
pub weekdays_agree : (k : ℕ) → k < 7 → weekday_from_monday ((k + 6) % 7) ≡ weekday_from_sunday k
weekdays_agree k h = grind (arith, nat_tests)
