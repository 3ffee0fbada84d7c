use Rattle.std.proofs.Common.{◌≡◌, ◌∙◌, ap, arith, rules, to_z, of_z, w32}
use Rattle.std.proofs.lemmas.Int.{to_z-of_z}
use Rattle.chrono_calendar.specs.Days.{days_before_year}
use Rattle.chrono_calendar.proofs.Signed.{casts}
use Rattle.chrono_calendar.proofs.Names.{day_number_in_range, year_length_bounds}
use Rattle.chrono_stored.proofs.counted.CountedForm.at_ordinal.Goals as goal

-- the days before the year as the code has them
before : (c : goal.After-days_before_year) → to_z w32 (of_z w32 c.days_before_year.result) ≡ days_before_year c.args.year
before c =
    to_z-of_z w32 c.days_before_year.result (search rules) ∙ c.days_before_year.ensures ∙ ap (λ y. days_before_year y) (to_z-of_z w32 c.args.year c.ranges.year)

pub overflow_add-result : goal.overflow_add-result
overflow_add-result c =
    omega (arith, casts, before c, day_number_in_range c.args.year c.args.ordinal c.requires.year c.requires.exists, year_length_bounds c.args.year, c.requires.exists)

pub invariant_of-result : goal.invariant_of-result
invariant_of-result c =
    let date = day_number_in_range c.args.year c.args.ordinal c.requires.year c.requires.exists in
    (omega (arith, casts, before c, date, year_length_bounds c.args.year, c.requires.exists), omega (arith, casts, before c, date, year_length_bounds c.args.year, c.requires.exists))

pub returns : goal.returns
returns c =
    omega (arith, casts, before c, day_number_in_range c.args.year c.args.ordinal c.requires.year c.requires.exists, year_length_bounds c.args.year, c.requires.exists)
