use Rattle.std.proofs.Common.{ap, ◌∙◌, ℕ, ℤ, subst}
use Rattle.std.specs.Int.{IsInRange}
use Rattle.chrono_datetime.specs.Fields.{IsIsoYear, IsoYearAndWeek}
use Rattle.chrono_reading.proofs.DateLemmas.{IsWeekDateText-named}
use Rattle.chrono_reading.proofs.law.week_names_are_read.Goals as goal

pub returns : goal.returns
returns c =
    let year = c.year-year.ensures.value ∙ ap (λ (w : IsoYearAndWeek). w.year) c.iso_week-week.ensures in
    let week = c.week-week.ensures.value ∙ ap (λ (w : IsoYearAndWeek). w.week) c.iso_week-week.ensures in
    IsWeekDateText-named c.args.date (rw c.num_days_from_ce-number.ensures.value at c.num_days_from_ce-number.ensures.in_range)
    (subst (λ (y : ℤ). IsIsoYear y) year c.year-year.ensures.in_range) (subst (λ (w : ℕ). IsInRange 1 53 w) week c.week-week.ensures.in_range)
    c.dates_have_one_iso_name.ensures
