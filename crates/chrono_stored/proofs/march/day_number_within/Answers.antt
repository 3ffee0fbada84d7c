use Rattle.std.proofs.Common.{◌≡◌, ℕ, ◌/◌, ◌^◌, ◌<◌, min, arith, sym, ap, ◌∙◌, subst, pos, ◌+ℤ◌, ◌-ℤ◌, ℤ, w32, to_z, of_z}
use Rattle.chrono_units.specs.Years.{year_length}
use Rattle.chrono_calendar.specs.Days.{IsDate, days_before_year}
use Rattle.chrono_calendar.proofs.Signed.{casts}
use Rattle.chrono_calendar.proofs.Names.{year_length_bounds}
use Rattle.chrono_stored.proofs.MonthsFromMarch.{number_within-month, IsDate-in_month}
use Rattle.chrono_stored.proofs.march.day_number_within.Goals as goal
use Rattle.chrono_stored.proofs.march.day_number_within.Goals.{then-in_month-gt365, else-in_month-gt365}

-- the year is the one that was counted to
same_year : (y : ℤ) (months : ℕ) → pos (months / 12) +ℤ pos 1 ≡ y +ℤ pos 262_400 → months < 2 ^ 32 → to_z w32 (of_z w32 y) ≡ y
same_year y months e h = omega (arith, casts)

pub returns-clause-value : goal.returns-clause-value
returns-clause-value c =
    let y = c.year_after-year.result in
    let same = same_year y c.args.months c.year_after-year.ensures (omega (arith, c.ranges.months)) in
    let start : pos c.days_to_year.result ≡ days_before_year y +ℤ pos 95_839_632 = rw same at c.days_to_year.ensures.value in
    -- the place is the day's, or that of the year's last day
    let place : c.if-in_month-gt365.place ≡ min c.min-in_month.result (year_length y) =
    elim c.if-in_month-gt365.branch [
      | then-in_month-gt365 w ↦
          let length = w.year_length.ensures ∙ ap year_length same in
          omega (arith, length, w.place-is, w.min-place.ensures)
      | else-in_month-gt365 w ↦ omega (arith, w.place-is, w.if-in_month-gt365.false, year_length_bounds y)
    ] in
    let named = number_within-month c.args.months c.args.day c.days_to_year.result y (omega (arith, casts, c.year_after-year.ensures)) start in
    omega (arith, casts, named, place, c.days_to_year.ensures.in_range)

pub returns-clause-in_range : goal.returns-clause-in_range
returns-clause-in_range c =
    let D : ℤ → Type 0 = IsDate in
    subst D (sym (returns-clause-value c)) (IsDate-in_month (pos c.args.months -ℤ pos 3_148_798) c.args.day c.requires.year c.requires.day.0)
