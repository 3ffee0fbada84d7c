-- Years of which holidays are known: the days in them, and the answers that look at no other day.
use Rattle.std.specs.Prelude.{◌≡◌, ℕ, ◌<◌, Bool, true, false, ◌&&◌, int_le, List, length, slice_index_or, ℤ, ◌+ℤ◌, ◌-ℤ◌, ◌≤ℤ◌, ◌<ℤ◌, Option, Some, None}
use Rattle.chrono_datetime.specs.Days.{is_date, year_of}
use Rattle.chrono_business.specs.declared.holiday_rule.HolidayRule.{HolidayRule}
use Rattle.chrono_business.specs.declared.known_years.KnownYears.{KnownYears}
use Rattle.chrono_business.specs.declared.roll.Roll.{Roll}
use Rattle.chrono_business.specs.declared.roll.Roll.TheVariants.{Unadjusted, Following, Preceding, ModifiedFollowing, ModifiedPreceding, NearestIsda, NearestQuantLib}

-- the day is a date of one of the years
unfoldable pub is_known : KnownYears → ℤ → Bool
is_known years d = is_date d && (int_le years.first (year_of d) && int_le (year_of d) years.last)

-- there is a date, and it is one of the years
abbrev pub is_some_known : KnownYears → Option ℤ → Bool
is_some_known years None = false
is_some_known years (Some d) = is_known years d

-- each day from a on and before b is a date of one of the years
abbrev pub AreKnownDays : KnownYears → ℤ → ℤ → Type 0
AreKnownDays years a b = (d : ℤ) → a ≤ℤ d → d <ℤ b → is_known years d ≡ true

-- the last day that a roll looks at on the other side of d, where it leads from d to e. `NearestQuantLib` looks at both sides
-- of d alike, and any other roll at no day on the other side
unfoldable pub other_side : Roll → ℤ → ℤ → ℤ
other_side Unadjusted d e = d
other_side Following d e = d
other_side Preceding d e = d
other_side ModifiedFollowing d e = d
other_side ModifiedPreceding d e = d
other_side NearestIsda d e = d
other_side NearestQuantLib d e = d +ℤ (d -ℤ e)

-- the days that a roll looks at, where it leads from d to e, are dates of the years
unfoldable pub is_roll_known : KnownYears → Roll → ℤ → ℤ → Bool
is_roll_known years roll d e = is_known years d && (is_known years e && is_known years (other_side roll d e))

-- one of the rules holds from the year y on
pub record BeginsIn (rules : List HolidayRule) (y : ℤ) : Type 0 where
  pub place : ℕ
  pub within : place < length rules
  pub begins : (r : HolidayRule) → (slice_index_or rules place r).first_year ≡ y
