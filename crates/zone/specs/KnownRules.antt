-- Rules and rows that are known: clocks an hour ahead in daylight time, north and south of the equator.
use Rattle.std.specs.Prelude.{pos, List, [], ◌∷◌, Some}
use Rattle.zone_rule.specs.declared.rule.Daylight.{Daylight}
use Rattle.zone_rule.specs.declared.rule.ZoneRule.{ZoneRule}
use Rattle.zone_rule.specs.declared.rule_day.RuleDay.TheVariants.{Julian}
use Rattle.zone_table.specs.declared.row.Row.{Row}

-- from 1 March to 27 October, each at 02:00
abbrev pub northern_daylight : Daylight
northern_daylight = record { offset = pos 3_600; begins = record { day = Julian 60; second = pos 7_200 }; ends = record { day = Julian 300; second = pos 7_200 } }

-- from 27 October to 1 March
abbrev pub southern_daylight : Daylight
southern_daylight = record { offset = pos 3_600; begins = record { day = Julian 300; second = pos 7_200 }; ends = record { day = Julian 60; second = pos 7_200 } }

-- the rule of a clock with daylight time in the northern summer
abbrev pub northern_rule : ZoneRule
northern_rule = record { standard = pos 0; daylight = Some northern_daylight }

-- the rule of a clock with daylight time in the southern summer
abbrev pub southern_rule : ZoneRule
southern_rule = record { standard = pos 0; daylight = Some southern_daylight }

-- the rows of the northern clock in 2024
abbrev pub northern_rows : List Row
northern_rows = record { second = pos 1_709_258_400; offset = pos 3_600 } ∷ record { second = pos 1_729_990_800; offset = pos 0 } ∷ []
