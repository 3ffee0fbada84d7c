-- The text that is written for a rule and its names, with as few parts as POSIX asks for (POSIX.1-2017, Base Definitions, section 8.3, TZ).
use Rattle.std.specs.Prelude.{◌≡◌, ◌==◌, ◌≤◌, ℕ, ◌/◌, ◌%◌, true, List, [], ◌++◌, length, if◌then◌else◌, codes, ℤ, pos, neg_ℤ, ◌+ℤ◌, unsigned_abs, Option, Some, None, refl}
use Rattle.std.specs.Char.{is_ascii_alphabetic}
use Rattle.std.specs.Fmt.{decimal, digits, sign_text}
use Rattle.std.specs.Int.{is_negative}
use Rattle.std.specs.List.{list_all}
use Rattle.std.specs.Ordering.{int_eq}
use Rattle.chrono_text.specs.Text.{colon_seconds_text, two_digits}
use Rattle.chrono_units.specs.Weekday.{days_from_sunday}
use Rattle.chrono_units.specs.declared.weekday.Weekday.TheVariants.{Sun, Thu}
use Rattle.chrono_zoned.specs.Offsets.{IsOffset}
use Rattle.zone_rule.specs.Changes.{IsChange, YearlyChange}
use Rattle.zone_rule.specs.declared.rule.Daylight.{Daylight}
use Rattle.zone_rule.specs.declared.rule.ZoneRule.{ZoneRule}
use Rattle.zone_rule.specs.declared.rule_day.RuleDay.{RuleDay}
use Rattle.zone_rule.specs.declared.rule_day.RuleDay.TheVariants.{Week, Julian, FromZero}
use Rattle.chrono_text.specs.Lists.{is_of_word}

-- a name, in angle brackets unless it has letters alone
abbrev pub zone_name_text : List ℕ → List ℕ
zone_name_text name = if list_all is_ascii_alphabetic name then name else codes "<" ++ name ++ codes ">"

-- the minutes and seconds of an hour, of which so many seconds have passed
abbrev pub minute_text : ℕ → List ℕ
minute_text n = if n == 0 then [] else codes ":" ++ two_digits (n / 60) ++ colon_seconds_text (n % 60)

-- so many seconds as hours, and minutes and seconds where they are not 0
abbrev pub size_text : ℕ → List ℕ
size_text n = decimal (n / 3_600) ++ minute_text (n % 3_600)

-- the same with a `-` in front of a negative number
abbrev pub hour_text : ℤ → List ℕ
hour_text x = sign_text (is_negative x) ++ size_text (unsigned_abs x)

-- `Mm.n.d`, `Jn` or `n`
abbrev pub rule_day_text : RuleDay → List ℕ
rule_day_text (Week m n d) = codes "M" ++ decimal m ++ codes "." ++ decimal n ++ codes "." ++ decimal (days_from_sunday d)
rule_day_text (Julian n) = codes "J" ++ decimal n
rule_day_text (FromZero n) = decimal n

-- the time behind a slash, or nothing for 02:00:00
abbrev pub change_time_text : ℤ → List ℕ
change_time_text x = if int_eq x (pos 7_200) then [] else codes "/" ++ hour_text x

-- date[/time]
abbrev pub change_text : YearlyChange → List ℕ
change_text c = rule_day_text c.day ++ change_time_text c.second

-- how far daylight time is behind UTC, or nothing if it is an hour ahead of standard time
abbrev pub daylight_hour_text : ℤ → ℤ → List ℕ
daylight_hour_text standard x = if int_eq x (standard +ℤ pos 3_600) then [] else hour_text (neg_ℤ x)

-- ,start[/time],end[/time]
abbrev pub changes_text : YearlyChange → YearlyChange → List ℕ
changes_text begins ends = codes "," ++ change_text begins ++ codes "," ++ change_text ends

-- dst [offset],start[/time],end[/time], where standard time is so far ahead of UTC
abbrev pub daylight_text : ℤ → List ℕ → Daylight → List ℕ
daylight_text standard name d = zone_name_text name ++ daylight_hour_text standard d.offset ++ changes_text d.begins d.ends

-- that, or nothing without daylight time
abbrev pub daylight_part : ℤ → List ℕ → Option Daylight → List ℕ
daylight_part standard name None = []
daylight_part standard name (Some d) = daylight_text standard name d

-- std offset [dst [offset],start[/time],end[/time]]
abbrev pub zone_text : List ℕ → List ℕ → ZoneRule → List ℕ
zone_text standard daylight rule = zone_name_text standard ++ hour_text (neg_ℤ rule.standard) ++ daylight_part rule.standard daylight rule.daylight

-- ---- what has a text

-- three bytes or more, each a letter, a digit or a sign
pub record IsName (name : List ℕ) : Type 0 where
  pub long : 3 ≤ length name
  pub bytes : list_all is_of_word name ≡ true

-- no name without daylight time
abbrev pub IsDaylightName : List ℕ → Option Daylight → Type 0
IsDaylightName name None = name ≡ []
IsDaylightName name (Some d) = IsName name

-- names of standard time, and of daylight time if there is some
pub record AreNames (standard daylight : List ℕ) (d : Option Daylight) : Type 0 where
  pub standard_is : IsName standard
  pub daylight_is : IsDaylightName daylight d

-- the numbers of daylight time are in range
abbrev pub IsDaylight : Option Daylight → Type 0
IsDaylight None = Unit {0}
IsDaylight (Some d) = IsOffset d.offset × IsChange d.begins × IsChange d.ends

-- the numbers of a rule are in range, as those of each `ZoneRule` are
pub record IsRule (rule : ZoneRule) : Type 0 where
  pub standard : IsOffset rule.standard
  pub daylight : IsDaylight rule.daylight

-- known values: New York, a name that is no word, and the texts of times
zone_name_text-word : zone_name_text (codes "EST") ≡ codes "EST"
zone_name_text-word = refl

zone_name_text-sign : zone_name_text (codes "+0330") ≡ codes "<+0330>"
zone_name_text-sign = refl

hour_text-zero : hour_text (pos 0) ≡ codes "0"
unfolding digits
hour_text-zero = refl

hour_text-half_hour : hour_text (neg_ℤ (pos 12_600)) ≡ codes "-3:30"
unfolding digits
hour_text-half_hour = refl

hour_text-second : hour_text (pos 36_001) ≡ codes "10:00:01"
unfolding digits
hour_text-second = refl

hour_text-last : hour_text (pos 604_799) ≡ codes "167:59:59"
unfolding digits
hour_text-last = refl

change_text-week : change_text (record { day = Week 3 4 Thu; second = pos 93_600 }) ≡ codes "M3.4.4/26"
unfolding digits
change_text-week = refl

change_text-julian : change_text (record { day = Julian 60; second = pos 7_200 }) ≡ codes "J60"
unfolding digits
change_text-julian = refl

change_text-midnight : change_text (record { day = FromZero 0; second = pos 0 }) ≡ codes "0/0"
unfolding digits
change_text-midnight = refl

zone_text-new_york : zone_text (codes "EST") (codes "EDT") (record {
  standard = neg_ℤ (pos 18_000);
  daylight = Some (record {
    offset = neg_ℤ (pos 14_400);
    begins = record { day = Week 3 2 Sun; second = pos 7_200 };
    ends = record { day = Week 11 1 Sun; second = pos 7_200 };
  });
}) ≡ codes "EST5EDT,M3.2.0,M11.1.0"
unfolding digits
zone_text-new_york = refl
