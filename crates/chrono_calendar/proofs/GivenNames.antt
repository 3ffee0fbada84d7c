-- What is known of a date that a name gave: when there is one, and that it has that name.
use Rattle.std.proofs.Common.{◌≡◌, ◌↔◌, ℕ, ◌+◌, ◌*◌, ◌≤◌, Bool, true, false, ◌&&◌, cond, Option, Some, None, IsSome, IfSome, refl, sym, ap, ◌∙◌, arith, ℤ, pos, neg_ℤ, ◌≤ℤ◌, ◌<ℤ◌}
use Rattle.std.proofs.lemmas.Bool.{and_parts}
use Rattle.std.proofs.lemmas.Int.{by_lt_z}
use Rattle.std.proofs.lemmas.Option.{cond_some}
use Rattle.std.specs.Cmp.Derive.{both_true}
use Rattle.std.specs.Int.{IsInRange}
use Rattle.chrono_units.specs.Years.{IsYear, is_year, year_length}
use Rattle.chrono_units.specs.declared.weekday.Weekday.{Weekday}
use Rattle.chrono_units.specs.Weekday.{number_from_monday}
use Rattle.chrono_units.proofs.WeekdayCycle.{days_from_monday-lt}
use Rattle.chrono_calendar.specs.Days.{IsDate, is_date, IsOrdinalName, is_ordinal_name, IsCalendarName, is_calendar_name, days_before_year, day_number_of_yo, day_number_of_ymd, date_of_yo, date_of_ymd, year_of, ordinal_of, month_of, day_of}
use Rattle.chrono_calendar.specs.Weeks.{day_number_of_iso, is_iso_name, date_of_iso, days_from_sunday_of, iso_year_of, iso_week_of, weekday_of}
use Rattle.chrono_calendar.specs.Flags.{IsIsoWeek, weeks_of_iso_year}
use Rattle.chrono_text.proofs.Signed.{signed}
use Rattle.chrono_calendar.proofs.Years.{days_before_year-closed}
use Rattle.chrono_calendar.proofs.Names.{days_before_year-later, year_length_bounds}
use Rattle.chrono_calendar.proofs.Dates.{is_date-fact, is_year-fact, is_year-test, is_ordinal_name-fact, is_ordinal_name-test, is_calendar_name-fact, is_calendar_name-test}
use Rattle.chrono_calendar.proofs.NamedDates.{none-date_of_day, date_of_yo-name, date_of_ymd-name}
use Rattle.chrono_calendar.proofs.IsoWeeks.{before_monday}
use Rattle.chrono_calendar.proofs.IsoDates.{before_monday-bound, day_number_of_iso-place, date_of_iso-name, date_of_iso-named, iso_week_of-bounds}
use Rattle.chrono_calendar.proofs.Weeks.{weeks_of_iso_year-length}

-- an answer that a test gives exists exactly if the test holds
pub exists_if : (b : Bool) (o : Option ℤ) (v : ℤ) → o ≡ cond b (Some v) None → IsSome o ↔ (b ≡ true)
exists_if true (Some e) v h = ((λ _. refl), (λ _. refl))
exists_if true None v h = cc
exists_if false (Some e) v h = cc
exists_if false None v h = ((λ e. cc), (λ e. cc))

-- ---- a calendar name: there is a date exactly if the library has the year and the calendar the name, and it has that name

exists_ymd : (o : Option ℤ) (y : ℤ) (m d : ℕ) → o ≡ date_of_ymd y m d → IsSome o ↔ (IsYear y × IsCalendarName y m d)
unfolding date_of_ymd
exists_ymd o y m d h =
    let tested = exists_if (is_year y && is_calendar_name y m d) o (day_number_of_ymd y m d) h in (
      λ some.
          let parts = and_parts (is_year y) (is_calendar_name y m d) (tested.0 some) in
          (is_year-fact y parts.0, is_calendar_name-fact y m d parts.1),
      λ name. tested.1 (both_true (is_year-test y name.0) (is_calendar_name-test y m d name.1)),
    )

pub given_ymd : (o : Option ℤ) (y : ℤ) (m d : ℕ) → o ≡ date_of_ymd y m d → (IsSome o ↔ (IsYear y × IsCalendarName y m d)) × IfSome o (λ e. year_of e ≡ y) × IfSome o (λ e. month_of e ≡ m) × IfSome o (λ e. day_of e ≡ d)
given_ymd None y m d h = (exists_ymd None y m d h, tt, tt, tt)
given_ymd (Some e) y m d h =
    let name = date_of_ymd-name e y m d (sym h) in
    (exists_ymd (Some e) y m d h, sym name.0, sym name.1, sym name.2)

-- ---- an ordinal name: the same

exists_yo : (r : Option ℤ) (y : ℤ) (o : ℕ) → r ≡ date_of_yo y o → IsSome r ↔ (IsYear y × IsOrdinalName y o)
unfolding date_of_yo
exists_yo r y o h =
    let tested = exists_if (is_year y && is_ordinal_name y o) r (day_number_of_yo y o) h in (
      λ some.
          let parts = and_parts (is_year y) (is_ordinal_name y o) (tested.0 some) in
          (is_year-fact y parts.0, is_ordinal_name-fact y o parts.1),
      λ name. tested.1 (both_true (is_year-test y name.0) (is_ordinal_name-test y o name.1)),
    )

pub given_yo : (r : Option ℤ) (y : ℤ) (o : ℕ) → r ≡ date_of_yo y o → (IsSome r ↔ (IsYear y × IsOrdinalName y o)) × IfSome r (λ e. year_of e ≡ y) × IfSome r (λ e. ordinal_of e ≡ o)
given_yo None y o h = (exists_yo None y o h, tt, tt)
given_yo (Some e) y o h =
    let name = date_of_yo-name e y o (sym h) in
    (exists_yo (Some e) y o h, sym name.0, sym name.1)

-- ---- an ISO name: there is a date exactly if the ISO year has the week and the day is a date, and it has that name

date_of_iso-date : (n y : ℤ) (w : ℕ) (d : Weekday) → date_of_iso y w d ≡ Some n → IsDate (day_number_of_iso y w (number_from_monday d))
unfolding date_of_iso
date_of_iso-date n y w d e =
    let m = day_number_of_iso y w (number_from_monday d) in
    let found = cond_some (is_date m && is_iso_name y w (number_from_monday d) m) m n e in
    is_date-fact m (and_parts (is_date m) (is_iso_name y w (number_from_monday d) m) found.0).0

-- the week of a day is one of its ISO year, and the Thursday of each of these lies in the year
week_exists : (n y : ℤ) (w : ℕ) → y ≡ iso_year_of n → w ≡ iso_week_of n → IsIsoWeek y w
week_exists n y w e f =
    let bounds = iso_week_of-bounds n in
    let length = weeks_of_iso_year-length (iso_year_of n) in
    rw (e, f) (bounds.0, omega (arith, bounds.1, length))

week_within : (y : ℤ) (w : ℕ) → IsIsoWeek y w → 7 * w ≤ year_length y + before_monday y
week_within y w h = omega (arith, h.1, weeks_of_iso_year-length y)

pub given_iso : (o : Option ℤ) (y : ℤ) (w : ℕ) (d : Weekday) → o ≡ date_of_iso y w d → (IsSome o ↔ (IsIsoWeek y w × IsDate (day_number_of_iso y w (number_from_monday d)))) × IfSome o (λ e. iso_year_of e ≡ y) × IfSome o (λ e. iso_week_of e ≡ w) × IfSome o (λ e. weekday_of e ≡ d)
given_iso None y w d h =
    let n = day_number_of_iso y w (number_from_monday d) in
    (((λ some. cc), (λ is. absurd (none-date_of_day n (h ∙ date_of_iso-named y w d is.0.0 (week_within y w is.0)) is.1))), tt, tt, tt)
given_iso (Some e) y w d h =
    let name = date_of_iso-name e y w d (sym h) in
    (((λ _. (week_exists e y w name.0 name.1, date_of_iso-date e y w d (sym h))), (λ _. refl)), sym name.0, sym name.1, sym name.2)

-- a year has 52 weeks or 53
pub weeks_of_iso_year-range : (y : ℤ) → IsInRange 52 53 (weeks_of_iso_year y)
weeks_of_iso_year-range y =
    let length = weeks_of_iso_year-length y in
    (omega (arith, length, year_length_bounds y), omega (arith, length, year_length_bounds y, before_monday-bound y))

-- the days before a year past the first, and those of the last year
not_before : (y : ℤ) → neg_ℤ (pos 262_143) <ℤ y → neg_ℤ (pos 95_746_000) ≤ℤ days_before_year y
not_before y h = omega (arith, signed, days_before_year-closed y)

last_year : days_before_year (pos 262_142) ≡ pos 95_745_034
last_year = omega (arith, signed, days_before_year-closed (pos 262_142))

in_last_year : (y : ℤ) (w : ℕ) (d : Weekday) → y ≡ pos 262_142 → 7 * w ≤ year_length y + before_monday y → day_number_of_iso y w (number_from_monday d) ≤ℤ pos 95_745_399
in_last_year y w d e within =
    let before : days_before_year y ≡ pos 95_745_034 = ap days_before_year e ∙ last_year in
    let sunday : days_from_sunday_of (days_before_year y) ≡ 0 = ap days_from_sunday_of before in
    let common : year_length y ≡ 365 = ap year_length e in
    omega (arith, signed, day_number_of_iso-place y w d, days_from_monday-lt d, before, sunday, common, within)

-- so all days of an ISO year are dates, but for some of the first such year and of the last
pub iso_days_inside : (y : ℤ) (w : ℕ) (d : Weekday) → neg_ℤ (pos 262_143) <ℤ y → y <ℤ pos 262_143 → IsIsoWeek y w → IsDate (day_number_of_iso y w (number_from_monday d))
iso_days_inside y w d low high h =
    let place = day_number_of_iso-place y w d in
    let within = week_within y w h in (
      omega (arith, signed, place, h.0, before_monday-bound y, not_before y low),
      by_lt_z y (pos 262_142)
          (λ lt. omega (arith, signed, place, within, days_from_monday-lt d, days_before_year-later y (pos 262_142) lt, last_year))
          (λ le. in_last_year y w d (omega (arith, signed, le, high)) within),
    )
