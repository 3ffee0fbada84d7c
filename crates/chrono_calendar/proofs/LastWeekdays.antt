-- The last day of a month that has a weekday is the last such day up to the end of the month.
use Rattle.std.proofs.Common.{◌≡◌, ℕ, ◌<◌, inl, inr, Option, Some, None, refl, sym, ap, subst, ◌∙◌, arith, ℤ, pos, ◌+ℤ◌, ◌-ℤ◌, ◌≤ℤ◌, ◌<ℤ◌, unsigned_abs}
use Rattle.std.specs.Option.{option_or}
use Rattle.std.proofs.lemmas.Bool.{cases_lt}
use Rattle.std.proofs.lemmas.Option.{none-some, same_Some}
use Rattle.chrono_units.specs.Years.{IsYear, is_leap_year}
use Rattle.chrono_units.specs.declared.weekday.Weekday.{Weekday}
use Rattle.chrono_calendar.specs.Days.{date_of_day, date_of_ymd, year_of, month_of, day_of}
use Rattle.chrono_calendar.specs.MonthMoves.{InSameMonth, month_last_of}
use Rattle.chrono_calendar.specs.Weeks.{date_of_last_weekday, date_of_nth_weekday, week_first_of, weekday_of}
use Rattle.chrono_text.proofs.Signed.{signed}
use Rattle.chrono_calendar.proofs.GivenNames.{given_ymd}
use Rattle.chrono_calendar.proofs.GivenWeekdays.{given_nth_weekday, nth_weekday-named}
use Rattle.chrono_calendar.proofs.MonthDays.{day_of-bounds, later_in_month, month-days}
use Rattle.chrono_calendar.proofs.Months.{month_length_in-bounds}
use Rattle.chrono_calendar.proofs.NamedDates.{IsDate-year, date_of_day-Some, date_of_ymd-name}
use Rattle.chrono_calendar.proofs.NthWeekdays.{date_of_nth_weekday-no_month}
use Rattle.chrono_calendar.proofs.WeekDays.{week_first_of-only, week_first_of-place}

-- x is a day with the weekday in the month m of the year y, whose first day is `first`, and lies in the last seven days there
pub record IsLastOf (y : ℤ) (m : ℕ) (weekday : Weekday) (first x : ℤ) : Type 0 where
  pub year : year_of x ≡ y
  pub month : month_of x ≡ m
  pub on : weekday_of x ≡ weekday
  pub place : x +ℤ pos 1 ≡ first +ℤ pos (day_of x)
  pub within : x ≤ℤ month_last_of first
  pub late : month_last_of first <ℤ (x +ℤ pos 7)

-- a day of a month stands as far from the first as its place in the month says
place_in_month : (first x : ℤ) → day_of first ≡ 1 → InSameMonth x first → x +ℤ pos 1 ≡ first +ℤ pos (day_of x)
place_in_month first x one same =
    let inside = (month-days first x).0 same in
    let bounds = day_of-bounds first in
    let k = unsigned_abs (x -ℤ first) in
    let it = later_in_month first x k (omega (arith, signed, inside.0, one)) (omega (arith, signed, inside.0, inside.1, one, bounds)) in
    omega (arith, signed, it.day, inside.0, one)

-- the last day with the weekday up to the end of the month lies there
pub week_first_of-last : (y first : ℤ) (m : ℕ) (weekday : Weekday) → date_of_ymd y m 1 ≡ Some first → IsLastOf y m weekday first (week_first_of (month_last_of first) weekday)
week_first_of-last y first m weekday e =
    let x = week_first_of (month_last_of first) weekday in
    let at = week_first_of-place (month_last_of first) x weekday refl in
    let name = date_of_ymd-name first y m 1 e in
    let long = month_length_in-bounds (is_leap_year (year_of first)) (month_of first) in
    let same : InSameMonth x first = (month-days first x).1 (omega (arith, signed, at.2, name.2, long), at.1) in
    record {
      year = same.0 ∙ sym name.0;
      month = same.1 ∙ sym name.1;
      on = at.0;
      place = place_in_month first x (sym name.2) same;
      within = at.1;
      late = at.2;
    }

-- where it lies in the first 28 days, none is the fifth
no_fifth : (o : Option ℤ) (y first x : ℤ) (m : ℕ) (weekday : Weekday) → date_of_ymd y m 1 ≡ Some first → IsLastOf y m weekday first x → day_of x < 29 → o ≡ date_of_nth_weekday y m weekday 5 → o ≡ None
no_fifth None y first x m weekday e it few h = refl
no_fifth (Some z) y first x m weekday e it few h =
    let given = given_nth_weekday (Some z) y m 5 weekday h in
    let name = date_of_ymd-name first y m 1 e in
    let same : InSameMonth z first = (given.1 ∙ name.0, given.2 ∙ name.1) in
    let inside = (month-days first z).0 same in
    let place = place_in_month first z (sym name.2) same in
    let long = month_length_in-bounds (is_leap_year (year_of first)) (month_of first) in
    let again = week_first_of-only (month_last_of first) z weekday given.3 inside.1 (omega (arith, signed, place, given.4, name.2, long)) in
    let is = week_first_of-only (month_last_of first) x weekday it.on it.within it.late in
    absurd (omega (arith, signed, again, is, place, it.place, given.4, few))

-- so it is the fifth there, or the fourth if there is no fifth
last_weekday-Some : (y first : ℤ) (m : ℕ) (weekday : Weekday) → date_of_ymd y m 1 ≡ Some first → date_of_last_weekday y m weekday ≡ Some (week_first_of (month_last_of first) weekday)
last_weekday-Some y first m weekday e =
    let x = week_first_of (month_last_of first) weekday in
    let it = week_first_of-last y first m weekday e in
    let in_range : IsYear y = ((given_ymd (Some first) y m 1 (sym e)).0.0 refl).0 in
    let name = date_of_ymd-name first y m 1 e in
    let long = month_length_in-bounds (is_leap_year (year_of first)) (month_of first) in
    let fourth = date_of_nth_weekday y m weekday 4 in
    elim (cases_lt (day_of x) 29) [
      | inl few ↦
          let none = no_fifth (date_of_nth_weekday y m weekday 5) y first x m weekday e it few refl in
          ap (λ o. option_or o fourth) none
          ∙ nth_weekday-named x y m 4 weekday in_range it.year it.month it.on (omega (arith, signed, it.place, it.late, name.2, long)) (omega (arith, few))
      | inr many ↦
          ap (λ o. option_or o fourth) (nth_weekday-named x y m 5 weekday in_range it.year it.month it.on (omega (arith, many)) (omega (arith, signed, it.place, it.within, name.2, long)))
    ]

pub last_weekday-None : (y : ℤ) (m : ℕ) (weekday : Weekday) → None ≡ date_of_ymd y m 1 → date_of_last_weekday y m weekday ≡ None
last_weekday-None y m weekday none =
    ap (λ o. option_or o (date_of_nth_weekday y m weekday 4)) (sym (date_of_nth_weekday-no_month y m 5 weekday none))
    ∙ sym (date_of_nth_weekday-no_month y m 4 weekday none)

-- the same by a search back from the end of the month
pub last_weekday-back : (y first : ℤ) (m : ℕ) (weekday : Weekday) → date_of_ymd y m 1 ≡ Some first → date_of_last_weekday y m weekday ≡ date_of_day (week_first_of (month_last_of first) weekday)
last_weekday-back y first m weekday e =
    let x = week_first_of (month_last_of first) weekday in
    let it = week_first_of-last y first m weekday e in
    let in_range : IsYear y = ((given_ymd (Some first) y m 1 (sym e)).0.0 refl).0 in
    last_weekday-Some y first m weekday e ∙ sym (date_of_day-Some x (IsDate-year x (subst IsYear (sym it.year) in_range)))

-- such a day lies in a month with a first day
by_first : (o : Option ℤ) (y e : ℤ) (m : ℕ) (weekday : Weekday) → o ≡ date_of_ymd y m 1 → date_of_last_weekday y m weekday ≡ Some e → (first : ℤ) × (date_of_ymd y m 1 ≡ Some first) × IsLastOf y m weekday first e
by_first None y e m weekday h is = absurd (none-some e (sym (last_weekday-None y m weekday h) ∙ is))
by_first (Some first) y e m weekday h is =
    let same = same_Some (week_first_of (month_last_of first) weekday) e (sym (last_weekday-Some y first m weekday (sym h)) ∙ is) in
    (first, sym h, subst (λ (x : ℤ). IsLastOf y m weekday first x) same (week_first_of-last y first m weekday (sym h)))

pub last_weekday-is : (y e : ℤ) (m : ℕ) (weekday : Weekday) → date_of_last_weekday y m weekday ≡ Some e → (first : ℤ) × (date_of_ymd y m 1 ≡ Some first) × IsLastOf y m weekday first e
last_weekday-is y e m weekday is = by_first (date_of_ymd y m 1) y e m weekday refl is
