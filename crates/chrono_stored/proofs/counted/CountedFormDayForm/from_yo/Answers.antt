use Rattle.std.proofs.Common.{None, ◌∙◌, sym, ap, w32}
use Rattle.std.proofs.lemmas.Bool.{false≢true}
use Rattle.std.proofs.lemmas.Int.{to_z-of_z}
use Rattle.chrono_units.specs.Years.{IsYear, is_year}
use Rattle.chrono_calendar.specs.Days.{IsOrdinalName, day_number_of_yo}
use Rattle.chrono_calendar.proofs.Dates.{date_of_yo-SomeIff, is_year-test, is_year-fact}
use Rattle.chrono_stored.proofs.YearAnswers.{SomeIff-in_year}
use Rattle.chrono_stored.proofs.counted.CountedFormDayForm.from_yo.Goals as goal

pub returns-then-not-is_year : goal.returns-then-not-is_year
returns-then-not-is_year c =
    date_of_yo-SomeIff None c.args.year c.args.ordinal
    (λ h. absurd (false≢true (sym c.if-not-is_year.true ∙ c.is_year.ensures ∙ ap (λ y. is_year y) (to_z-of_z w32 c.args.year c.ranges.year) ∙ is_year-test c.args.year h.0)))

pub returns : goal.returns
returns c =
    let same = to_z-of_z w32 c.args.year c.ranges.year in
    let year = is_year-fact c.args.year (sym (ap (λ y. is_year y) same) ∙ sym c.is_year.ensures ∙ c.if-not-is_year.false) in
    let given = rw same at c.of_ordinal.ensures in
    date_of_yo-SomeIff _ c.args.year c.args.ordinal
    (SomeIff-in_year c.of_ordinal.result (IsYear c.args.year) (IsOrdinalName c.args.year c.args.ordinal) (day_number_of_yo c.args.year c.args.ordinal) year given)
