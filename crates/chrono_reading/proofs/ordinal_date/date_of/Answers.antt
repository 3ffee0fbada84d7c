use Rattle.std.proofs.Common.{sym, ◌∙◌}
use Rattle.std.proofs.lemmas.Int.{to_z-of_z}
use Rattle.chrono_reading.proofs.DateLemmas.{IsOrdinalDateText-found, date_of_yo-small, found_by_ordinal, ordinal_text-joined, ordinal_text-split, year_fits}
use Rattle.chrono_reading.proofs.ordinal_date.date_of.Goals as goal

pub returns-in_err-ordinal-clause-every : goal.returns-in_err-ordinal-clause-every
returns-in_err-ordinal-clause-every c = λ n is.
    let small = date_of_yo-small is.year is.ordinal n is.names in
    let parts = ordinal_text-split _ is.year is.ordinal is.written in
    let none = c.in_err-ordinal.ensures.every is.ordinal small.1 (parts.1 ∙ sym c.in_ok-front.ensures.cases.1) in
    cc

pub returns-in_err-year-clause-every : goal.returns-in_err-year-clause-every
returns-in_err-year-clause-every c = λ n is.
    let small = date_of_yo-small is.year is.ordinal n is.names in
    let parts = ordinal_text-split _ is.year is.ordinal is.written in
    let none = c.in_err-year.ensures.every is.year small.0 (parts.0 ∙ sym c.in_ok-front.ensures.cases.0) in
    cc

pub returns-clause-read : goal.returns-clause-read
returns-clause-read c =
    let year = c.in_ok-year.year in
    let fits = year_fits year c.in_ok-year.ensures.some.0 in
    let found = simp to_z-of_z at c.from_yo_opt.ensures.date in
    let ordinal = c.in_ok-ordinal.ordinal in
    IsOrdinalDateText-found _ _ year ordinal found
    (ordinal_text-joined _ year ordinal _ (c.in_ok-year.ensures.some.1 ∙ c.in_ok-front.ensures.cases.0) (c.in_ok-ordinal.ensures.some ∙ c.in_ok-front.ensures.cases.1))

pub returns-clause-every : goal.returns-clause-every
returns-clause-every c = λ n is.
    let small = date_of_yo-small is.year is.ordinal n is.names in
    let parts = ordinal_text-split _ is.year is.ordinal is.written in
    let tail = c.in_ok-ordinal.ensures.every is.ordinal small.1 (parts.1 ∙ sym c.in_ok-front.ensures.cases.1) in
    let year = c.in_ok-year.ensures.every is.year small.0 (parts.0 ∙ sym c.in_ok-front.ensures.cases.0) in
    let fits = year_fits c.in_ok-year.year c.in_ok-year.ensures.some.0 in
    let found = simp to_z-of_z at c.from_yo_opt.ensures.date in
    found_by_ordinal _ c.in_ok-year.year is.year c.in_ok-ordinal.ordinal is.ordinal n found year tail is.names
