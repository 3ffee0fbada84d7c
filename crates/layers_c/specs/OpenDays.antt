-- Calendars by the numbers of C.
use Rattle.std.specs.Prelude.{ℕ, ◌≤◌, ◌^◌, List, [], ◌∷◌, length, slice_get, ℤ, pos, neg_ℤ, Option}
use Rattle.chrono_units.specs.SetDigits.{set_at}
use Rattle.chrono_business.specs.OpenDays.{AreHolidays, Closed, closed}
use Rattle.chrono_business.specs.declared.roll.Roll.{Roll}
use Rattle.chrono_business.specs.declared.roll.Roll.TheVariants.{Unadjusted, Following, Preceding, ModifiedFollowing, ModifiedPreceding, NearestIsda, NearestQuantLib}

-- the calendar that closes the weekdays of a set and some holidays
abbrev pub closed_from_c : ℕ → List ℤ → Closed
closed_from_c weekend holidays = closed (set_at weekend) holidays

-- the numbers are the holidays of a calendar, and not too many
pub record IsCalendar (weekend : ℕ) (holidays : List ℤ) : Type 0 where
  pub are_holidays : AreHolidays (set_at weekend) holidays
  pub few : length holidays ≤ 1000

-- the least i64, which counts no days, stands for none
abbrev pub no_count : ℤ
no_count = neg_ℤ (pos (2 ^ 63))

-- the rolls, numbered from 0
abbrev pub roll_numbered : ℕ → Option Roll
roll_numbered n =
    slice_get (Unadjusted ∷ Following ∷ Preceding ∷ ModifiedFollowing ∷ ModifiedPreceding ∷ NearestIsda ∷ NearestQuantLib ∷ []) n
