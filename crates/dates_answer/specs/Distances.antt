-- How many whole units lie between two days.
use Rattle.std.specs.Prelude.{ℤ, pos, ◌-ℤ◌, ◌≤ℤ◌, ◌<ℤ◌, int_div, IfSome, IsSomeAnd}
use Rattle.chrono_datetime.specs.Days.{year_of}
use Rattle.chrono_datetime.specs.MonthMoves.{month_index_of}
use Rattle.dates_answer.specs.declared.span.Unit.{Unit}
use Rattle.dates_answer.specs.declared.span.Unit.TheVariants.{Days, Weeks, Months, Years}
use Rattle.dates_answer.specs.Moves.{unit_move}

-- z is the most by which the day from, moved on, is not past the day to
pub record IsMostForth (unit : Unit) (from to z : ℤ) : Type 0 where
  pub forth : pos 0 ≤ℤ z
  pub reached : IsSomeAnd (unit_move unit from z) (λ m. m ≤ℤ to)
  pub most : (more : ℤ) → z <ℤ more → IfSome (unit_move unit from more) (λ m. to <ℤ m)

-- z, below 0 or 0, is the most by which the day from, moved back, is not past the day to
pub record IsMostBack (unit : Unit) (from to z : ℤ) : Type 0 where
  pub back : z ≤ℤ pos 0
  pub reached : IsSomeAnd (unit_move unit from z) (λ m. to ≤ℤ m)
  pub most : (more : ℤ) → more <ℤ z → IfSome (unit_move unit from more) (λ m. m <ℤ to)

-- z whole units lie between two days: the most by which the first, moved towards the second, is not past it; below 0 where the second is the earlier
pub record IsUnitsBetween (unit : Unit) (from to z : ℤ) : Type 0 where
  pub forth : from ≤ℤ to → IsMostForth unit from to z
  pub back : to <ℤ from → IsMostBack unit from to z

-- by how many units the day to lies on from the day from: days, weeks rounded towards 0, or the numbers of their months or years alone
unfoldable pub units_apart : Unit → ℤ → ℤ → ℤ
units_apart Days from to = to -ℤ from
units_apart Weeks from to = int_div (to -ℤ from) (pos 7)
units_apart Months from to = month_index_of to -ℤ month_index_of from
units_apart Years from to = year_of to -ℤ year_of from
