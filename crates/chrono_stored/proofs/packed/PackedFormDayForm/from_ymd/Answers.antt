use Rattle.std.proofs.Common.{None, ◌∙◌, sym, ap, w32}
use Rattle.std.proofs.lemmas.Bool.{false≢true}
use Rattle.std.proofs.lemmas.Int.{to_z-of_z}
use Rattle.chrono_units.specs.Years.{IsYear, is_year}
use Rattle.chrono_calendar.specs.Days.{IsCalendarName, day_number_of_ymd}
use Rattle.chrono_calendar.proofs.Dates.{date_of_ymd-SomeIff, is_year-test, is_year-fact}
use Rattle.chrono_stored.proofs.YearAnswers.{SomeIff-in_year}
use Rattle.chrono_stored.proofs.packed.PackedFormDayForm.from_ymd.Goals as goal

pub returns-then-not-is_year : goal.returns-then-not-is_year
returns-then-not-is_year c =
    date_of_ymd-SomeIff None c.args.year c.args.month c.args.day
    (λ h. absurd (false≢true (sym c.if-not-is_year.true ∙ c.is_year.ensures ∙ ap (λ y. is_year y) (to_z-of_z w32 c.args.year c.ranges.year) ∙ is_year-test c.args.year h.0)))

pub returns : goal.returns
returns c =
    let same = to_z-of_z w32 c.args.year c.ranges.year in
    let year = is_year-fact c.args.year (sym (ap (λ y. is_year y) same) ∙ sym c.is_year.ensures ∙ c.if-not-is_year.false) in
    let given = rw same at c.of_month.ensures in
    date_of_ymd-SomeIff _ c.args.year c.args.month c.args.day
    (SomeIff-in_year c.of_month.result (IsYear c.args.year) (IsCalendarName c.args.year c.args.month c.args.day) (day_number_of_ymd c.args.year c.args.month c.args.day) year given)
