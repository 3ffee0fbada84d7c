use Rattle.std.proofs.Common.{◌≡◌, ◌∙◌, ℕ, ap, rules, sym, of_z, to_z, w32}
use Rattle.std.proofs.lemmas.Bool.{and_parts}
use Rattle.std.proofs.lemmas.Int.{to_z-of_z}
use Rattle.chrono_units.specs.Years.{IsYear, is_year, month_length_in}
use Rattle.chrono_calendar.specs.Days.{day_number_of_ymd}
use Rattle.chrono_calendar.proofs.Dates.{is_year-fact}
use Rattle.chrono_columns.proofs.NameTests.{a_month, name_test, name-there, name-none}
use Rattle.chrono_columns.proofs.named.date_of_name.Goals as goal

pub returns-then-is_year-is_month : goal.returns-then-is_year-is_month
returns-then-is_year-is_month c =
    let y = c.args.year in
    let here = to_z-of_z w32 y c.ranges.year in
    let there = to_z-of_z w32 c.nearest_year-near_year.result (search rules) in
    let years : IsYear y → to_z w32 (of_z w32 c.nearest_year-near_year.result) ≡ y = λ h. there ∙ (rw here at c.nearest_year-near_year.ensures.same) h in
    let months = c.nearest_month-near_month.ensures.same in
    let is_year = c.is_year.ensures ∙ ap (λ z. is_year z) here in
    let long = c.month_length-length.ensures ∙ ap (λ b. month_length_in b c.nearest_month-near_month.result) c.is_leap.ensures in
    let test = name_test y _ c.args.month _ c.args.day _ c.is_year.result c.is_month.result c.has_day.result is_year c.is_month.ensures c.has_day.ensures years months long in
    let all = and_parts _ _ c.if-is_year-is_month.true in
    let both = and_parts _ _ all.0 in
    let year = years (is_year-fact y (sym is_year ∙ both.0)) in
    let month = months (a_month c.args.month (sym c.is_month.ensures ∙ both.1)) in
    let number = c.number_of-number.ensures ∙ ap (λ z. day_number_of_ymd z c.nearest_month-near_month.result c.from.result) year
    ∙ ap (λ (m : ℕ). day_number_of_ymd y m c.from.result) month ∙ ap (λ (d : ℕ). day_number_of_ymd y c.args.month d) c.from.ensures in
    to_z-of_z w32 c.number_of-number.result (search rules)
    ∙ name-there c.number_of-number.result y c.args.month c.args.day (sym c.if-is_year-is_month.true ∙ test) number

pub returns-else-is_year-is_month : goal.returns-else-is_year-is_month
returns-else-is_year-is_month c =
    let y = c.args.year in
    let here = to_z-of_z w32 y c.ranges.year in
    let there = to_z-of_z w32 c.nearest_year-near_year.result (search rules) in
    let years : IsYear y → to_z w32 (of_z w32 c.nearest_year-near_year.result) ≡ y = λ h. there ∙ (rw here at c.nearest_year-near_year.ensures.same) h in
    let is_year = c.is_year.ensures ∙ ap (λ z. is_year z) here in
    let long = c.month_length-length.ensures ∙ ap (λ b. month_length_in b c.nearest_month-near_month.result) c.is_leap.ensures in
    let test = name_test y _ c.args.month _ c.args.day _ c.is_year.result c.is_month.result c.has_day.result is_year c.is_month.ensures c.has_day.ensures years c.nearest_month-near_month.ensures.same long in
    name-none y c.args.month c.args.day (sym c.if-is_year-is_month.false ∙ test)
