use Rattle.std.proofs.Common.{◌∙◌, sym, ap, arith, ◌+◌, ◌≤◌, w32}
use Rattle.std.specs.Int.{IsInRange}
use Rattle.std.proofs.lemmas.Int.{to_z-of_z}
use Rattle.chrono_units.specs.Years.{is_year, year_length}
use Rattle.chrono_calendar.proofs.Dates.{is_year-fact}
use Rattle.chrono_calendar.proofs.Signed.{casts}
use Rattle.chrono_calendar.proofs.Names.{year_length_bounds}
use Rattle.chrono_stored.proofs.FromMarch.{day_of_month-from_march, day_of_month-to_march, day_number-from_march, day_number-to_march}
use Rattle.chrono_stored.proofs.march.day_number.Goals as goal
use Rattle.chrono_stored.proofs.march.day_number.Goals.{then-month-gt2, else-month-gt2, else-place-gt365-via-then-place-gt365+else-place-from-2, else-place-gt365-via-else-place-gt365}

-- the place is in the year
in_year : (c : goal.After-day_number_at) → c.days_before_month.result + c.args.day ≤ year_length c.args.year
in_year c =
    elim c.else-place-gt365.branch [
      | else-place-gt365-via-then-place-gt365+else-place-from-2 w ↦
          let length = w.year_length.ensures ∙ ap year_length (to_z-of_z w32 c.args.year c.ranges.year) in
          omega (arith, length, w.from-then-place-gt365.ensures, w.if-place-from-2.false, c.from.ensures, c.from-2.ensures)
      | else-place-gt365-via-else-place-gt365 w ↦ omega (arith, w.if-place-gt365.false, c.from.ensures, c.from-2.ensures, year_length_bounds c.args.year)
    ]

pub returns : goal.returns
returns c =
    let y = c.args.year in
    let m = c.args.month in
    let same = to_z-of_z w32 y c.ranges.year in
    let year = is_year-fact y (sym (ap (λ z. is_year z) same) ∙ sym c.is_year.ensures ∙ c.if-not-is_year.false) in
    let month : IsInRange 1 12 m = (omega (arith, c.if-month-lt1.false), omega (arith, c.if-month-gt12.false)) in
    let first : 1 ≤ c.args.day = omega (arith, c.if-day-lt1.false) in
    elim c.if-month-gt2.branch [
      | then-month-gt2 w ↦
          let start = rw w.from_march-is at c.days_before_month.ensures in
          let next = rw w.from_march-is at c.days_before_month-else-day-lt1.ensures in
          let late = w.if-month-gt2.true in
          let last = day_of_month-from_march y m c.args.day month late (omega (arith, start, next, c.if-place-from.false, c.from.ensures, c.from-2.ensures, c.from-else-day-lt1.ensures)) (omega (arith, in_year c, start)) in
          ((year, (month, (first, last))), omega (arith, casts, same, start, rw same at c.day_number_at.ensures.late late, day_number-from_march y m c.args.day month late))
      | else-month-gt2 w ↦
          let start = rw w.from_march-is at c.days_before_month.ensures in
          let next = rw w.from_march-is at c.days_before_month-else-day-lt1.ensures in
          let early : m ≤ 2 = omega (arith, w.if-month-gt2.false) in
          let last = day_of_month-to_march y m c.args.day month early (omega (arith, start, next, c.if-place-from.false, c.from.ensures, c.from-2.ensures, c.from-else-day-lt1.ensures)) (omega (arith, in_year c, start)) in
          ((year, (month, (first, last))), omega (arith, casts, same, start, rw same at c.day_number_at.ensures.early early, day_number-to_march y m c.args.day month early))
    ]
