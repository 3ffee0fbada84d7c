-- The parts of a rule (RFC 5545, section 3.3.10): which of them it has, and what its BYDAY lists.
use Rattle.std.specs.Prelude.{ℕ, Bool, ◌&&◌, List, [], ◌∷◌, slice_index_or}
use Rattle.chrono_datetime.specs.declared.Weekday.TheVariants.{Mon}
use Rattle.chrono_sets.specs.FiniteSets.{FiniteSet, are_empty, has, is_empty, no_numbers}
use Rattle.chrono_rules.specs.declared.rule.End.TheVariants.{Never}
use Rattle.chrono_rules.specs.declared.rule.Frequency.{Frequency}
use Rattle.chrono_rules.specs.declared.rule.Rule.{Rule}
use Rattle.chrono_rules.specs.declared.weekday_places.WeekdayPlaces.{WeekdayPlaces}

-- a BYDAY that lists nothing
abbrev pub no_weekdays : WeekdayPlaces
no_weekdays = record {
  every = no_numbers;
  front = no_numbers ∷ no_numbers ∷ no_numbers ∷ no_numbers ∷ no_numbers ∷ no_numbers ∷ no_numbers ∷ [];
  back = no_numbers ∷ no_numbers ∷ no_numbers ∷ no_numbers ∷ no_numbers ∷ no_numbers ∷ no_numbers ∷ [];
}

-- the k-th day of the weekday w is listed: `1MO` lists it for w = 0 and k = 1. Weekdays count from 0 for Monday
abbrev pub lists_nth : List FiniteSet → ℕ → ℕ → Bool
lists_nth weekdays w k = has (slice_index_or weekdays w no_numbers) k

-- the rule that has FREQ alone
abbrev pub plain : Frequency → Rule
plain f = record {
  frequency = f;
  interval = 1;
  end = Never;
  months = no_numbers;
  month_days = no_numbers;
  month_days_from_end = no_numbers;
  weekdays = no_weekdays;
  year_days = no_numbers;
  year_days_from_end = no_numbers;
  weeks = no_numbers;
  weeks_from_end = no_numbers;
  positions = no_numbers;
  positions_from_end = no_numbers;
  week_start = Mon;
}

-- the rule has no BYMONTH
abbrev pub lacks_months : Rule → Bool
lacks_months r = is_empty r.months

-- the rule has no BYMONTHDAY
abbrev pub lacks_month_days : Rule → Bool
lacks_month_days r = is_empty r.month_days && is_empty r.month_days_from_end

-- the rule has no BYDAY
abbrev pub lacks_weekdays : Rule → Bool
lacks_weekdays r = is_empty r.weekdays.every && (are_empty r.weekdays.front && are_empty r.weekdays.back)

-- the rule has no BYYEARDAY
abbrev pub lacks_year_days : Rule → Bool
lacks_year_days r = is_empty r.year_days && is_empty r.year_days_from_end

-- the rule has no BYWEEKNO
abbrev pub lacks_weeks : Rule → Bool
lacks_weeks r = is_empty r.weeks && is_empty r.weeks_from_end

-- the rule has no BYSETPOS
abbrev pub lacks_positions : Rule → Bool
lacks_positions r = is_empty r.positions && is_empty r.positions_from_end
