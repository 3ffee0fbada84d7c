-- Years, months and days between two days.
use Rattle.std.specs.Prelude.{◌≡◌, ℤ, pos, neg_ℤ, ◌+ℤ◌, ◌-ℤ◌, ◌*ℤ◌, ◌≤ℤ◌, ◌<ℤ◌, IsSomeAnd}
use Rattle.dates_answer.specs.declared.span.Unit.TheVariants.{Months}
use Rattle.dates_answer.specs.Moves.{unit_move}
use Rattle.dates_answer.specs.Distances.{IsUnitsBetween}
use Rattle.dates_answer.specs.declared.parts.Parts.{Parts}

-- between two days lie the most whole months, of which twelve are a year, and from where they come to the days that are left. Fewer than twelve months stand beside the years, and they go the same way
pub record IsPartsBetween (from to : ℤ) (parts : Parts) : Type 0 where
  pub months : IsUnitsBetween Months from to (pos 12 *ℤ parts.years +ℤ parts.months)
  pub forth : from ≤ℤ to → (pos 0 ≤ℤ parts.months) × (parts.months <ℤ pos 12)
  pub back : to <ℤ from → (neg_ℤ (pos 12) <ℤ parts.months) × (parts.months ≤ℤ pos 0)
  pub days : IsSomeAnd (unit_move Months from (pos 12 *ℤ parts.years +ℤ parts.months)) (λ m. parts.days ≡ to -ℤ m)
