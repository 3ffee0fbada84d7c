-- What has any text has names and a rule that are written.
use Rattle.std.proofs.Common.{◌≡◌, ℕ, true, List, Option, Some, None, ℤ, ⊎_elim, sym, ap, ◌∙◌, arith}
use Rattle.std.specs.Char.{is_ascii_alphabetic}
use Rattle.std.specs.List.{list_all}
use Rattle.std.proofs.lemmas.Bool.Decides.{nat_tests}
use Rattle.chrono_text.proofs.ListLemmas.{weaker}
use Rattle.zone_rule.specs.declared.rule.Daylight.{Daylight}
use Rattle.zone_rule.specs.declared.rule.ZoneRule.{ZoneRule}
use Rattle.chrono_text.specs.Lists.{is_of_word}
use Rattle.zone_text.specs.NameTexts.{IsZoneName}
use Rattle.zone_text.specs.WrittenTexts.{AreNames, IsDaylight, IsDaylightName, IsName, IsRule}
use Rattle.zone_text.specs.ZoneTexts.{IsDaylightPart, IsZoneText}
use Rattle.zone_text.proofs.CutTexts.{front_passes}

letter_quoted : (b : ℕ) → is_ascii_alphabetic b ≡ true → is_of_word b ≡ true
letter_quoted b letter = grind (arith, nat_tests)

name_is : (text name rest : List ℕ) → IsZoneName text name rest → IsName name
name_is text name rest is = record {
  long = is.long;
  bytes = ⊎_elim
      (λ plain. weaker is_ascii_alphabetic is_of_word name letter_quoted (sym (ap (list_all is_ascii_alphabetic) plain.front) ∙ front_passes is_ascii_alphabetic text))
      (λ quoted. sym (ap (list_all is_of_word) quoted.front) ∙ front_passes is_of_word quoted.inner)
      is.form;
}

daylight_named : (standard : ℤ) (text name : List ℕ) (d : Option Daylight) → IsDaylightPart standard text name d → IsDaylightName name d
daylight_named standard text name None is = is.1
daylight_named standard text name (Some d) is = name_is text name is.after_name is.name_is

daylight_in_range : (standard : ℤ) (text name : List ℕ) (d : Option Daylight) → IsDaylightPart standard text name d → IsDaylight d
daylight_in_range standard text name None is = tt
daylight_in_range standard text name (Some d) is = (
  is.times_are.ahead_is.in_range,
  is.times_are.changes_are.begins_is.in_range,
  is.times_are.changes_are.ends_is.in_range,
)

pub zone_named : (text standard daylight : List ℕ) (rule : ZoneRule) → IsZoneText text standard daylight rule → AreNames standard daylight rule.daylight
zone_named text standard daylight rule is = record {
  standard_is = name_is text standard is.after_name is.name_is;
  daylight_is = daylight_named rule.standard is.rest daylight rule.daylight is.daylight_is;
}

pub zone_in_range : (text standard daylight : List ℕ) (rule : ZoneRule) → IsZoneText text standard daylight rule → IsRule rule
zone_in_range text standard daylight rule is = record {
  standard = is.ahead_is.in_range;
  daylight = daylight_in_range rule.standard is.rest daylight rule.daylight is.daylight_is;
}
