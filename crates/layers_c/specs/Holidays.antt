-- Calendars of holidays by their numbers, and what is wrong with holidays.
use Rattle.std.specs.Prelude.{◌≡◌, ℕ, ◌<◌, ◌≤◌, nat_le, if◌then◌else◌, true, List, [], ◌∷◌, ◌++◌, codes, length, slice_get, slice_index_or, ℤ, pos, Option}
use Rattle.std.specs.Fmt.{decimal}
use Rattle.std.specs.List.{All}
use Rattle.std.specs.Option.{option_map}
use Rattle.chrono_datetime.specs.Days.{IsDate}
use Rattle.chrono_datetime.specs.WeekdaySet.{DaySet}
use Rattle.chrono_business.specs.HolidayLists.{AreTooMany, IsOfRules}
use Rattle.chrono_business.specs.OpenDays.{AreHolidays, is_holiday, is_workday}
use Rattle.chrono_business.specs.PublicHolidays.{england_and_wales_rules, fedwire_rules, france_rules, germany_rules, japan_rules, nyse_rules, target_rules, us_federal_rules}
use Rattle.chrono_business.specs.WrongHolidays.{IsWrong}
use Rattle.chrono_business.specs.declared.holiday_error.HolidayError.TheVariants.{NotRising, OnWeekend}
use Rattle.chrono_business.specs.declared.holiday_rule.HolidayRule.{HolidayRule}
use Rattle.layers_c.specs.Faults.{numbered}
use Rattle.layers_c.specs.declared.faults.CalendarFault.{CalendarFault}

-- the rules of the calendars, numbered from 0
abbrev pub rules_numbered : ℕ → Option (List HolidayRule)
rules_numbered n =
    slice_get (us_federal_rules ∷ target_rules ∷ england_and_wales_rules ∷ fedwire_rules ∷ nyse_rules ∷ germany_rules ∷ france_rules ∷ japan_rules ∷ []) n

-- the holidays of rules for some years, but for those on the weekend
pub record AreHolidaysOf (rules : List HolidayRule) (first last : ℤ) (weekend : DaySet) (xs : List ℤ) : Type 0 where
  pub holidays : AreHolidays weekend xs
  pub of_rules : (d : ℤ) → is_holiday xs d ≡ true → IsOfRules rules first last d
  pub each : (d : ℤ) → IsOfRules rules first last d → is_workday weekend d ≡ true → is_holiday xs d ≡ true

-- how many holidays a calendar may have, if there is room for so many
abbrev pub most_within : ℕ → ℕ
most_within room = if nat_le room 1000 then room else 1000

-- they are too many for so many places
abbrev pub AreTooManyFor : ℕ → List HolidayRule → ℤ → ℤ → DaySet → Type 0
AreTooManyFor places rules first last weekend = AreTooMany (λ d. IsOfRules rules first last d × (is_workday weekend d ≡ true)) places

-- the number at the place is the first that is no date
pub record IsFirstNoDate (xs : List ℤ) (place : ℕ) : Type 0 where
  pub within : place < length xs
  pub before : (k : ℕ) → k < place → IsDate (slice_index_or xs k (pos 0))
  pub none : IsDate (slice_index_or xs place (pos 0)) → ⊥

-- what is wrong with holidays: there are too many, a number is no date, one is not later than the one before it, or one is on the weekend
pub record IsHolidayFault (weekend : DaySet) (xs : List ℤ) (code place : ℕ) : Type 0 where
  pub numbered : (1 ≤ code) × (code ≤ 4)
  pub many : code ≡ 1 → (1000 < length xs) × (place ≡ 1000)
  pub no_date : code ≡ 2 → IsFirstNoDate xs place
  pub not_rising : code ≡ 3 → All IsDate xs × IsWrong weekend xs (NotRising place)
  pub on_weekend : code ≡ 4 → All IsDate xs × IsWrong weekend xs (OnWeekend place)

-- what is said of a wrong holiday, by the number of what is wrong
abbrev pub holiday_fault_texts : List (List ℕ)
holiday_fault_texts = codes " is one too many" ∷ codes " is no date" ∷ codes " does not come after the one before" ∷ codes " is on the weekend" ∷ []

-- what a fault of holidays says, if there is such a fault: the place of the holiday, from 0, and what is wrong with it
abbrev pub holiday_line_from_c : CalendarFault → Option (List ℕ)
holiday_line_from_c a = option_map (λ said. codes "holiday " ++ (decimal a.byte ++ said)) (numbered holiday_fault_texts a.code)
