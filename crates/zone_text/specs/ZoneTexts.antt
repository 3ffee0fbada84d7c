-- The text of a time zone rule: std offset [dst [offset],start[/time],end[/time]] (POSIX.1-2017, Base Definitions, section 8.3, TZ).
use Rattle.std.specs.Prelude.{◌≡◌, ◌==◌, ℕ, List, [], ◌∷◌, length, if◌then◌else◌, ℤ, pos, neg_ℤ, ◌+ℤ◌, Option, Some, None}
use Rattle.std.specs.Option.{option_map}
use Rattle.std.specs.Str.{byte}
use Rattle.chrono_zoned.specs.Offsets.{IsOffset}
use Rattle.zone_rule.specs.declared.rule.Daylight.{Daylight}
use Rattle.zone_rule.specs.declared.rule.ZoneRule.{ZoneRule}
use Rattle.zone_text.specs.ChangeTexts.{AreChangesText}
use Rattle.zone_text.specs.HourTexts.{signed_seconds}
use Rattle.zone_text.specs.NameTexts.{IsZoneName, behind_front, front_of, is_of_offset}

-- the seconds by which a clock is ahead of UTC: the text has those by which it is behind
abbrev pub written_ahead : List ℕ → Option ℤ
written_ahead text = option_map neg_ℤ (signed_seconds text)

-- the same of daylight time: "if no offset follows dst, the alternative time is assumed to be one hour ahead of standard time"
abbrev pub daylight_ahead : ℤ → List ℕ → Option ℤ
daylight_ahead standard text = if length text == 0 then Some (standard +ℤ pos 3_600) else written_ahead text

-- such seconds are those of an offset: less than a day
pub record IsAhead (written : Option ℤ) (ahead : ℤ) : Type 0 where
  pub is : written ≡ Some ahead
  pub in_range : IsOffset ahead

-- [offset],start[/time],end[/time] behind the name of daylight time, where standard time is so far ahead of UTC
pub record IsDaylightTimes (standard : ℤ) (text : List ℕ) (d : Daylight) : Type 0 where
  pub changes : List ℕ
  pub ahead_is : IsAhead (daylight_ahead standard (front_of is_of_offset text)) d.offset
  pub comma : behind_front is_of_offset text ≡ byte "," ∷ changes
  pub changes_are : AreChangesText changes d.begins d.ends

-- dst [offset],start[/time],end[/time]
pub record IsDaylightText (standard : ℤ) (text name : List ℕ) (d : Daylight) : Type 0 where
  pub after_name : List ℕ
  pub name_is : IsZoneName text name after_name
  pub times_are : IsDaylightTimes standard after_name d

-- nothing, and so no name, or daylight time
abbrev pub IsDaylightPart : ℤ → List ℕ → List ℕ → Option Daylight → Type 0
IsDaylightPart standard text name None = (text ≡ []) × (name ≡ [])
IsDaylightPart standard text name (Some d) = IsDaylightText standard text name d

-- std offset [dst [offset],start[/time],end[/time]]: the text of a rule, with the names of standard time and of daylight time
pub record IsZoneText (text standard daylight : List ℕ) (rule : ZoneRule) : Type 0 where
  pub after_name : List ℕ
  pub rest : List ℕ
  pub name_is : IsZoneName text standard after_name
  pub ahead_is : IsAhead (written_ahead (front_of is_of_offset after_name)) rule.standard
  pub behind : behind_front is_of_offset after_name ≡ rest
  pub daylight_is : IsDaylightPart rule.standard rest daylight rule.daylight
