-- Parts that name a date in the usual way.
use Rattle.std.specs.Prelude.{◌≡◌, None}
use Rattle.chrono_pattern.specs.declared.parsed.Parsed.{Parsed}

-- no part of a date is given besides a year, a month and a day
pub record IsCalendarAlone (p : Parsed) : Type 0 where
  pub century : p.year_div_100 ≡ None
  pub place : p.year_mod_100 ≡ None
  pub ordinal : p.ordinal ≡ None
  pub quarter : p.quarter ≡ None
  pub iso_year : p.isoyear ≡ None
  pub iso_place : p.isoyear_mod_100 ≡ None
  pub iso_week : p.isoweek ≡ None
  pub weekday : p.weekday ≡ None
  pub from_sunday : p.week_from_sun ≡ None
  pub from_monday : p.week_from_mon ≡ None
