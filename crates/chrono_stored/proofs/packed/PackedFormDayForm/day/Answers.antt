use Rattle.std.proofs.Common.{◌≡◌, ◌∙◌, arith, ap, rules, w32, to_z, of_z}
use Rattle.std.proofs.lemmas.Int.{to_z-of_z}
use Rattle.chrono_calendar.specs.Days.{days_before_year, year_of, ordinal_of}
use Rattle.chrono_calendar.proofs.Signed.{casts}
use Rattle.chrono_calendar.proofs.Names.{ordinal_name_of-number, day_number_in_range, year_length_bounds}
use Rattle.chrono_stored.proofs.packed.PackedFormDayForm.day.Goals as goal

-- the two parts of the sum
before : (c : goal.After-ordinal) → to_z w32 (of_z w32 c.days_before_year.result) ≡ days_before_year (year_of c.args.self.now)
before c =
    to_z-of_z w32 c.days_before_year.result (search rules) ∙ c.days_before_year.ensures
    ∙ ap (λ y. days_before_year y) (to_z-of_z w32 c.year.result (search rules) ∙ c.year.ensures.value)

pub overflow_add-result : goal.overflow_add-result
overflow_add-result c =
    omega (arith, casts, before c, c.ordinal.ensures.value, ordinal_name_of-number c.args.self.now, day_number_in_range (year_of c.args.self.now) (ordinal_of c.args.self.now) c.year.ensures.in_range c.ordinal.ensures.exists, year_length_bounds (year_of c.args.self.now))

pub returns-clause-value : goal.returns-clause-value
returns-clause-value c =
    omega (arith, casts, before c, c.ordinal.ensures.value, ordinal_name_of-number c.args.self.now, day_number_in_range (year_of c.args.self.now) (ordinal_of c.args.self.now) c.year.ensures.in_range c.ordinal.ensures.exists, year_length_bounds (year_of c.args.self.now))

pub returns-clause-in_range : goal.returns-clause-in_range
returns-clause-in_range c =
    rw (ordinal_name_of-number c.args.self.now).number (day_number_in_range (year_of c.args.self.now) (ordinal_of c.args.self.now) c.year.ensures.in_range c.ordinal.ensures.exists)
