-- The ISO week of a day is that of its Monday.
use Rattle.std.proofs.Common.{◌≡◌, refl, ap, arith, ℤ, pos, ◌+ℤ◌}
use Rattle.chrono_units.specs.declared.weekday.Weekday.TheVariants.{Mon}
use Rattle.chrono_calendar.specs.Days.{year_of, ordinal_of, days_before_year}
use Rattle.chrono_calendar.specs.Weeks.{thursday_of_week, iso_year_of, iso_week_of, week_first_of}
use Rattle.chrono_text.proofs.Signed.{signed}
use Rattle.chrono_calendar.proofs.IsoWeeks.{days_from_monday-of, thursday_of_week-monday, before_monday}
use Rattle.chrono_calendar.proofs.IsoDates.{thursday-place}
use Rattle.chrono_units.specs.Weekday.{days_from_monday}
use Rattle.chrono_calendar.proofs.WeekDays.{weekday_of-start}

-- the Thursday lies three days after the Monday
thursday-monday : (n : ℤ) → thursday_of_week n ≡ week_first_of n Mon +ℤ pos 3
thursday-monday n = omega (arith, signed, thursday_of_week-monday n, days_from_monday-of n)

thursday-of_monday : (n : ℤ) → thursday_of_week (week_first_of n Mon) ≡ thursday_of_week n
thursday-of_monday n =
    let m = week_first_of n Mon in
    omega (arith, signed, thursday-monday n, thursday_of_week-monday m, ap days_from_monday (weekday_of-start n m Mon refl))

-- days with one Thursday are in one week
same_thursday : (n m : ℤ) → thursday_of_week n ≡ thursday_of_week m → (iso_year_of n ≡ iso_year_of m) × (iso_week_of n ≡ iso_week_of m)
same_thursday n m e = (ap year_of e, omega (arith, ap ordinal_of e))

pub iso_name-monday : (n : ℤ) → (iso_year_of (week_first_of n Mon) ≡ iso_year_of n) × (iso_week_of (week_first_of n Mon) ≡ iso_week_of n)
iso_name-monday n = same_thursday (week_first_of n Mon) n (thursday-of_monday n)

pub iso_name-same : (n m : ℤ) → week_first_of n Mon ≡ week_first_of m Mon → (iso_year_of n ≡ iso_year_of m) × (iso_week_of n ≡ iso_week_of m)
iso_name-same n m e = same_thursday n m (omega (arith, signed, thursday-monday n, thursday-monday m, e))

-- and no others
pub monday-same : (n m : ℤ) → iso_year_of n ≡ iso_year_of m → iso_week_of n ≡ iso_week_of m → week_first_of n Mon ≡ week_first_of m Mon
monday-same n m year week =
    omega (arith, signed, thursday-monday n, thursday-monday m, thursday-place n, thursday-place m, week, ap days_before_year year, ap before_monday year)
