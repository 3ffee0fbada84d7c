-- The days and times at which a clock is set, in the text of a time zone rule (POSIX.1-2017, Base Definitions, section 8.3, TZ).
use Rattle.std.specs.Prelude.{◌≡◌, ◌==◌, ℕ, true, List, [], ◌∷◌, if◌then◌else◌, codes, ℤ, pos, Option, Some, None, refl}
use Rattle.std.specs.List.{after_first, before_first}
use Rattle.std.specs.Option.{option_and_then, option_map}
use Rattle.std.specs.Str.{byte}
use Rattle.chrono_text.specs.Lists.{stands_in}
use Rattle.chrono_text.specs.Numbers.{count_of, natural_of}
use Rattle.chrono_units.specs.Weekday.{weekday_from_sunday}
use Rattle.chrono_units.specs.declared.weekday.Weekday.TheVariants.{Sun}
use Rattle.zone_rule.specs.Changes.{IsChange, YearlyChange}
use Rattle.zone_rule.specs.declared.rule_day.RuleDay.{RuleDay}
use Rattle.zone_rule.specs.declared.rule_day.RuleDay.TheVariants.{Week, Julian, FromZero}
use Rattle.zone_text.specs.HourTexts.{count_up_to, seconds_of_hours, signed_seconds}

-- "the d'th day (0 <= d <= 6) of week n", where day zero is Sunday: `n.d` behind the month
abbrev pub weekly_day_of : ℕ → List ℕ → Option RuleDay
weekly_day_of month text =
    if stands_in (byte ".") text
    then option_and_then (λ week. option_map (λ d. Week month week (weekday_from_sunday d)) (count_up_to 6 (after_first (λ x. x == byte ".") text)))
    (count_up_to 5 (before_first (λ x. x == byte ".") text))
    else None

-- `m.n.d`
abbrev pub monthly_day_of : List ℕ → Option RuleDay
monthly_day_of text =
    if stands_in (byte ".") text
    then option_and_then (λ month. weekly_day_of month (after_first (λ x. x == byte ".") text)) (count_up_to 12 (before_first (λ x. x == byte ".") text))
    else None

-- `Mm.n.d`, `Jn` or `n`. The least numbers are those of `IsChange`
unfoldable pub written_day : List ℕ → Option RuleDay
written_day [] = None
written_day (first ∷ rest) =
    if first == byte "M" then monthly_day_of rest
    else (if first == byte "J" then option_map Julian (count_up_to 365 rest)
    else option_map FromZero (count_up_to 365 (first ∷ rest)))

-- the text of the day: up to the `/` if there is one
abbrev pub day_part : List ℕ → List ℕ
day_part text = if stands_in (byte "/") text then before_first (λ x. x == byte "/") text else text

-- the seconds from midnight, behind a `/`: "the default, if time is not given, shall be 02:00:00"
abbrev pub second_part : List ℕ → Option ℤ
second_part text = if stands_in (byte "/") text then signed_seconds (after_first (λ x. x == byte "/") text) else Some (pos 7_200)

-- date[/time]
pub record IsChangeText (text : List ℕ) (c : YearlyChange) : Type 0 where
  pub day_is : written_day (day_part text) ≡ Some c.day
  pub second_is : second_part text ≡ Some c.second
  pub in_range : IsChange c

-- date[/time],date[/time]: when daylight time begins, and when it ends
pub record AreChangesText (text : List ℕ) (begins ends : YearlyChange) : Type 0 where
  pub two : stands_in (byte ",") text ≡ true
  pub begins_is : IsChangeText (before_first (λ x. x == byte ",") text) begins
  pub ends_is : IsChangeText (after_first (λ x. x == byte ",") text) ends

-- known values: each form of a day, and a fifth part
written_day-last_sunday : written_day (codes "M10.5.0") ≡ Some (Week 10 5 Sun)
unfolding written_day count_of natural_of
written_day-last_sunday = refl

written_day-julian : written_day (codes "J60") ≡ Some (Julian 60)
unfolding written_day count_of natural_of
written_day-julian = refl

written_day-from_zero : written_day (codes "60") ≡ Some (FromZero 60)
unfolding written_day count_of natural_of
written_day-from_zero = refl

written_day-four_parts : written_day (codes "M1.2.3.4") ≡ None
unfolding written_day count_of natural_of
written_day-four_parts = refl

second_part-left_out : second_part (codes "M10.5.0") ≡ Some (pos 7_200)
second_part-left_out = refl

second_part-midnight : second_part (codes "J1/0") ≡ Some (pos 0)
unfolding signed_seconds seconds_of_hours count_of natural_of
second_part-midnight = refl
