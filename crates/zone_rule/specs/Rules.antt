-- Rules: from when to when daylight time holds in each year (POSIX.1-2017, Base Definitions, section 8.3, TZ).
use Rattle.std.specs.Prelude.{◌≡◌, ◌⊎◌, Bool, false, if◌then◌else◌, ℤ, int_le, ◌<ℤ◌, ◌≤ℤ◌, Option, Some, None}
use Rattle.zone_rule.specs.Changes.{change_second, last_by, year_of_second}
use Rattle.zone_rule.specs.declared.rule.Daylight.{Daylight}
use Rattle.zone_rule.specs.declared.rule.ZoneRule.{ZoneRule}

-- daylight time holds at the second u: it has ended no later than it has begun. The clock before each beginning is standard time,
-- `offset` ahead of UTC
unfoldable pub is_daylight : ℤ → Daylight → ℤ → Bool
is_daylight offset d u =
    int_le (last_by (change_second d.offset d.ends) (year_of_second u) u)
    (last_by (change_second offset d.begins) (year_of_second u) u)

-- the same with or without daylight time
abbrev pub is_daylight_by : ℤ → Option Daylight → ℤ → Bool
is_daylight_by offset None u = false
is_daylight_by offset (Some d) u = is_daylight offset d u

-- how far the clock is ahead of UTC at the second u, with or without daylight time
abbrev pub ahead_by : ℤ → Option Daylight → ℤ → ℤ
ahead_by offset None u = offset
ahead_by offset (Some d) u = if is_daylight offset d u then d.offset else offset

-- how far the rule's clock is ahead of UTC at the second u
abbrev pub rule_offset : ZoneRule → ℤ → ℤ
rule_offset r u = ahead_by r.standard r.daylight u

-- ---- the seconds at which the rule sets the clock

-- daylight time begins or ends at the second t, in some year; the clock before each beginning is `offset` ahead of UTC
abbrev pub IsSetBy : ℤ → Option Daylight → ℤ → Type 0
IsSetBy offset None t = ⊥
IsSetBy offset (Some d) t = (y : ℤ) × ((change_second offset d.begins y ≡ t) ⊎ (change_second d.offset d.ends y ≡ t))

-- the rule sets the clock at the second t
abbrev pub IsSetAt : ZoneRule → ℤ → Type 0
IsSetAt r t = IsSetBy r.standard r.daylight t

-- from the second s until t the clock keeps its offset
abbrev pub IsSteadyUntil : ZoneRule → ℤ → ℤ → Type 0
IsSteadyUntil r s t = (u : ℤ) → s ≤ℤ u → u <ℤ t → rule_offset r u ≡ rule_offset r s

-- t is the first second after s at which the rule sets the clock
pub record IsNextSetting (r : ZoneRule) (s t : ℤ) : Type 0 where
  pub later : s <ℤ t
  pub sets : IsSetAt r t
  pub first : (v : ℤ) → s <ℤ v → IsSetAt r v → t ≤ℤ v
