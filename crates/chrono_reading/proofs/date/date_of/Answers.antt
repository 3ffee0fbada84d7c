use Rattle.std.proofs.Common.{sym, ◌∙◌}
use Rattle.chrono_reading.proofs.DateLemmas.{IsDateText-found, calendar_text-split, calendar_text-joined, date_of_ymd-small, found_by_name, year_fits}
use Rattle.std.proofs.lemmas.Int.{to_z-of_z}
use Rattle.chrono_reading.proofs.date.date_of.Goals as goal

pub returns-in_err-month-clause-every : goal.returns-in_err-month-clause-every
returns-in_err-month-clause-every c = λ n is.
    let small = date_of_ymd-small is.year is.month is.day n is.names in
    let parts = calendar_text-split _ is.year is.month is.day is.written in
    let none = c.in_err-month.ensures.every is.month is.day small.1 small.2 (parts.1 ∙ sym c.in_ok-front.ensures.cases.1) in
    cc

pub returns-in_err-year-clause-every : goal.returns-in_err-year-clause-every
returns-in_err-year-clause-every c = λ n is.
    let small = date_of_ymd-small is.year is.month is.day n is.names in
    let parts = calendar_text-split _ is.year is.month is.day is.written in
    let none = c.in_err-year.ensures.every is.year small.0 (parts.0 ∙ sym c.in_ok-front.ensures.cases.0) in
    cc

pub returns-clause-read : goal.returns-clause-read
returns-clause-read c =
    let year = c.in_ok-year.year in
    let fits = year_fits year c.in_ok-year.ensures.some.0 in
    let found = simp to_z-of_z at c.from_ymd_opt.ensures.date in
    let month = c.in_ok-month.month in
    let day = c.in_ok-month.day in
    IsDateText-found _ _ year month day found
    (calendar_text-joined _ year month day _ (c.in_ok-year.ensures.some.1 ∙ c.in_ok-front.ensures.cases.0) (c.in_ok-month.ensures.some ∙ c.in_ok-front.ensures.cases.1))

pub returns-clause-every : goal.returns-clause-every
returns-clause-every c = λ n is.
    let small = date_of_ymd-small is.year is.month is.day n is.names in
    let parts = calendar_text-split _ is.year is.month is.day is.written in
    let tail = c.in_ok-month.ensures.every is.month is.day small.1 small.2 (parts.1 ∙ sym c.in_ok-front.ensures.cases.1) in
    let year = c.in_ok-year.ensures.every is.year small.0 (parts.0 ∙ sym c.in_ok-front.ensures.cases.0) in
    let fits = year_fits c.in_ok-year.year c.in_ok-year.ensures.some.0 in
    let found = simp to_z-of_z at c.from_ymd_opt.ensures.date in
    found_by_name _ c.in_ok-year.year is.year c.in_ok-month.month is.month c.in_ok-month.day is.day n found year tail is.names
