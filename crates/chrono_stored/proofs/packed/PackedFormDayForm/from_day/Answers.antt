use Rattle.std.proofs.Common.{◌≡◌, ◌∙◌, ℕ, Bool, cond, Some, None, sym, ap, arith, rules, w32, to_z, of_z}
use Rattle.std.proofs.lemmas.Bool.{false_from_ne_true}
use Rattle.std.proofs.lemmas.Int.{to_z-of_z}
use Rattle.chrono_calendar.specs.Days.{IsDate, is_date, year_of, ordinal_of, day_number_of_yo}
use Rattle.chrono_calendar.proofs.Signed.{casts}
use Rattle.chrono_calendar.proofs.Names.{ordinal_name_of-number}
use Rattle.chrono_calendar.proofs.Dates.{date_of_day-SomeIff, is_date-fact, is_date-test}
use Rattle.chrono_calendar.proofs.MonthMoveLaws.{year_of-range}
use Rattle.chrono_stored.proofs.packed.PackedFormDayForm.from_day.Goals as goal
use Rattle.chrono_stored.proofs.packed.PackedFormDayForm.from_day.Goals.{then-days-lt-FIRST_DAY-via-then-days-lt-FIRST_DAY, then-days-lt-FIRST_DAY-via-else-days-lt-FIRST_DAY+then-days-gt-LAST_DAY}

pub returns-then-days-lt-FIRST_DAY-clause-date : goal.returns-then-days-lt-FIRST_DAY-clause-date
returns-then-days-lt-FIRST_DAY-clause-date c =
    date_of_day-SomeIff None c.args.days
    (λ h. elim c.then-days-lt-FIRST_DAY.branch [
      | then-days-lt-FIRST_DAY-via-then-days-lt-FIRST_DAY w ↦ absurd (omega (arith, casts))
      | then-days-lt-FIRST_DAY-via-else-days-lt-FIRST_DAY+then-days-gt-LAST_DAY w ↦ absurd (omega (arith, casts))
    ])

pub returns-then-days-lt-FIRST_DAY-clause-taken : goal.returns-then-days-lt-FIRST_DAY-clause-taken
returns-then-days-lt-FIRST_DAY-clause-taken c =
    let none = false_from_ne_true (is_date c.args.days)
    (λ t.
    let h = is_date-fact c.args.days t in
    elim c.then-days-lt-FIRST_DAY.branch [
      | then-days-lt-FIRST_DAY-via-then-days-lt-FIRST_DAY w ↦ absurd (omega (arith, casts))
      | then-days-lt-FIRST_DAY-via-else-days-lt-FIRST_DAY+then-days-gt-LAST_DAY w ↦ absurd (omega (arith, casts))
    ]) in
    omega (arith, ap (λ (b : Bool). cond {A = ℕ} b 1 0) none)

date : (c : goal.After-from_year_counted-flags) → IsDate c.args.days
date c = (omega (arith, casts), omega (arith, casts))

year : (c : goal.After-from_year_counted-flags) → to_z w32 (of_z w32 c.year_and_ordinal-year.result.0) ≡ year_of c.args.days
year c =
    to_z-of_z w32 c.year_and_ordinal-year.result.0 (search rules) ∙ c.year_and_ordinal-year.ensures.year
    ∙ ap (λ n. year_of n) (to_z-of_z w32 c.args.days c.ranges.days)

ordinal : (c : goal.After-from_year_counted-flags) → c.year_and_ordinal-year.result.1 ≡ ordinal_of c.args.days
ordinal c = c.year_and_ordinal-year.ensures.ordinal ∙ ap (λ n. ordinal_of n) (to_z-of_z w32 c.args.days c.ranges.days)

pub pack-requires-clause-year : goal.pack-requires-clause-year
pack-requires-clause-year c = rw (year c) (year_of-range c.args.days (date c))

pub pack-requires-clause-ordinal : goal.pack-requires-clause-ordinal
pack-requires-clause-ordinal c = rw (year c, ordinal c) (ordinal_name_of-number c.args.days).exists

pub returns-clause-date : goal.returns-clause-date
returns-clause-date c =
    let number = c.pack.ensures ∙ ap (λ y. day_number_of_yo y c.year_and_ordinal-year.result.1) (year c.before) ∙ ap (λ o. day_number_of_yo (year_of c.args.days) o) (ordinal c.before) ∙ sym (ordinal_name_of-number c.args.days).number in
    date_of_day-SomeIff (Some c.pack.result) c.args.days (date c.before, number)

pub returns-clause-taken : goal.returns-clause-taken
returns-clause-taken c =
    let one = is_date-test c.args.days (date c.before) in
    omega (arith, ap (λ (b : Bool). cond {A = ℕ} b 1 0) one)
