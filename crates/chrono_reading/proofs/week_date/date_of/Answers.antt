use Rattle.std.proofs.Common.{sym, ◌∙◌}
use Rattle.std.proofs.lemmas.Int.{to_z-of_z}
use Rattle.chrono_reading.proofs.DateLemmas.{IsWeekDateText-found, found_by_week, iso_year_fits, week_date_text-joined, week_date_text-split}
use Rattle.chrono_reading.proofs.week_date.date_of.Goals as goal

pub returns-in_err-week-clause-every : goal.returns-in_err-week-clause-every
returns-in_err-week-clause-every c = λ n is.
    let parts = week_date_text-split _ is.year is.week is.weekday is.written in
    let none = c.in_err-week.ensures.every is.week is.weekday is.week_in_year (parts.1 ∙ sym c.in_ok-front.ensures.cases.1) in
    cc

pub returns-in_err-year-clause-every : goal.returns-in_err-year-clause-every
returns-in_err-year-clause-every c = λ n is.
    let parts = week_date_text-split _ is.year is.week is.weekday is.written in
    let none = c.in_err-year.ensures.every is.year is.year_in_range (parts.0 ∙ sym c.in_ok-front.ensures.cases.0) in
    cc

pub returns-clause-read : goal.returns-clause-read
returns-clause-read c =
    let year = c.in_ok-year.year in
    let week = c.in_ok-week.week in
    let weekday = c.in_ok-week.weekday in
    let fits = iso_year_fits year c.in_ok-year.ensures.some.0 in
    let found = simp to_z-of_z at c.from_isoywd_opt.ensures.date in
    IsWeekDateText-found _ _ year week weekday found c.in_ok-year.ensures.some.0 c.in_ok-week.ensures.range
    (week_date_text-joined _ year week weekday _ (c.in_ok-year.ensures.some.1 ∙ c.in_ok-front.ensures.cases.0) (c.in_ok-week.ensures.some ∙ c.in_ok-front.ensures.cases.1))

pub returns-clause-every : goal.returns-clause-every
returns-clause-every c = λ n is.
    let parts = week_date_text-split _ is.year is.week is.weekday is.written in
    let tail = c.in_ok-week.ensures.every is.week is.weekday is.week_in_year (parts.1 ∙ sym c.in_ok-front.ensures.cases.1) in
    let year = c.in_ok-year.ensures.every is.year is.year_in_range (parts.0 ∙ sym c.in_ok-front.ensures.cases.0) in
    let fits = iso_year_fits c.in_ok-year.year c.in_ok-year.ensures.some.0 in
    let found = simp to_z-of_z at c.from_isoywd_opt.ensures.date in
    found_by_week _ c.in_ok-year.year is.year c.in_ok-week.week is.week c.in_ok-week.weekday is.weekday n found year tail is.names
