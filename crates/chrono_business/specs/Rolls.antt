-- Where a day that is closed rolls to.
use Rattle.std.specs.Prelude.{◌≡◌, ◌≤◌, true, false, ◌⊎◌, [], ◌∷◌, ℤ, ◌-ℤ◌, ◌≤ℤ◌, ◌<ℤ◌, unsigned_abs}
use Rattle.chrono_datetime.specs.declared.Weekday.TheVariants.{Mon, Sun}
use Rattle.chrono_datetime.specs.WeekdaySet.{DaySet, set_of}
use Rattle.chrono_datetime.specs.Days.{IsDate}
use Rattle.chrono_datetime.specs.MonthMoves.{InSameMonth}
use Rattle.chrono_datetime.specs.Recurrence.{is_on}
use Rattle.chrono_business.specs.declared.roll.Roll.{Roll}
use Rattle.chrono_business.specs.declared.roll.Roll.TheVariants.{Unadjusted, Following, Preceding, ModifiedFollowing, ModifiedPreceding, NearestIsda, NearestQuantLib}
use Rattle.chrono_business.specs.OpenDays.{Closed, is_open}

-- e is the first open day from d on
pub record IsNextOpen (c : Closed) (d e : ℤ) : Type 0 where
  pub passes : is_open c e ≡ true
  pub not_before : d ≤ℤ e
  pub least : (f : ℤ) → d ≤ℤ f → f <ℤ e → is_open c f ≡ false

-- e is the last open day up to d
pub record IsLastOpen (c : Closed) (d e : ℤ) : Type 0 where
  pub passes : is_open c e ≡ true
  pub not_after : e ≤ℤ d
  pub greatest : (f : ℤ) → e <ℤ f → f ≤ℤ d → is_open c f ≡ false

-- the days from d to the end of its month are closed
abbrev pub MonthEndsClosed : Closed → ℤ → Type 0
MonthEndsClosed c d = (f : ℤ) → d ≤ℤ f → InSameMonth f d → is_open c f ≡ false

-- the days from the beginning of its month to d are closed
abbrev pub MonthBeginsClosed : Closed → ℤ → Type 0
MonthBeginsClosed c d = (f : ℤ) → f ≤ℤ d → InSameMonth f d → is_open c f ≡ false

-- the month of d has no open day
abbrev pub MonthIsClosed : Closed → ℤ → Type 0
MonthIsClosed c d = (f : ℤ) → InSameMonth f d → is_open c f ≡ false

-- e is the open date nearest to d, of two that are equally near the later
pub record IsNearestOpen (c : Closed) (d e : ℤ) : Type 0 where
  pub passes : is_open c e ≡ true
  pub nearest : (f : ℤ) → IsDate f → is_open c f ≡ true → unsigned_abs (e -ℤ d) ≤ unsigned_abs (f -ℤ d)
  pub later : (f : ℤ) → IsDate f → is_open c f ≡ true → unsigned_abs (e -ℤ d) ≡ unsigned_abs (f -ℤ d) → f ≤ℤ e

-- the days from which `NearestIsda` goes to the next open day
abbrev pub sunday_and_monday : DaySet
sunday_and_monday = set_of (Sun ∷ Mon ∷ [])

-- d rolls to e. `ModifiedFollowing` takes the next open day, or the last one if the rest of the month is closed.
-- `ModifiedPreceding` does so the other way round. `NearestIsda` takes the next open day on a Sunday or a Monday, and the
-- last one on other days (ISDA 2006, section 4.12(a)(iv)). `NearestQuantLib` takes the nearest (QuantLib, `Nearest`)
abbrev pub RollsTo : Closed → Roll → ℤ → ℤ → Type 0
RollsTo c Unadjusted d e = e ≡ d
RollsTo c Following d e = IsNextOpen c d e
RollsTo c Preceding d e = IsLastOpen c d e
RollsTo c ModifiedFollowing d e = (IsNextOpen c d e × InSameMonth e d) ⊎ (IsLastOpen c d e × MonthEndsClosed c d)
RollsTo c ModifiedPreceding d e = (IsLastOpen c d e × InSameMonth e d) ⊎ (IsNextOpen c d e × MonthBeginsClosed c d)
RollsTo c NearestIsda d e = (IsNextOpen c d e × (is_on sunday_and_monday d ≡ true)) ⊎ (IsLastOpen c d e × (is_on sunday_and_monday d ≡ false))
RollsTo c NearestQuantLib d e = IsNearestOpen c d e
