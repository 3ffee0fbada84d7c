use Rattle.std.proofs.Common.{◌≡◌, arith, get_or, pos, subst, ℤ, inl, inr, FitsSigned, rules, w32}
use Rattle.std.proofs.lemmas.Bool.{cases_lt}
use Rattle.std.proofs.lemmas.Int.{to_z-of_z}
use Rattle.std.proofs.lemmas.List.{get_or_default}
use Rattle.chrono_calendar.proofs.NamedDates.{none-date_of_day, some-date_of_day}
use Rattle.chrono_datetime.specs.Days.{IsDate}
use Rattle.layers_c.proofs.holidays.first_no_date.Goals as goal

pub returns-in_default-clause-place : goal.returns-in_default-clause-place
returns-in_default-clause-place c =
    let number = get_or c.args.numbers.now c.loop-place.place (pos 0) in
    let fits : FitsSigned w32 (get_or c.args.numbers.now c.loop-place.place (pos 0)) = search rules in
    record {
      within = c.loop-place-test.true;
      before = c.loop-place.invariant;
      none = λ date. none-date_of_day number (rw (to_z-of_z w32 number fits) at c.in_default.ensures.date) date;
    }

pub loop-place-preserved : goal.loop-place-preserved
loop-place-preserved c = λ k below.
    let number = get_or c.args.numbers.now c.loop-place.place (pos 0) in
    let fits : FitsSigned w32 (get_or c.args.numbers.now c.loop-place.place (pos 0)) = search rules in
    let date = (some-date_of_day number c.in-Some.field-0 (rw (to_z-of_z w32 number fits) at c.in-Some.ensures.date)).0 in
    elim (cases_lt k c.loop-place.place) [
      | inl less ↦ c.loop-place.invariant k less
      | inr more ↦ let same : k ≡ c.loop-place.place = omega (arith, more, below) in rw same date
    ]

pub returns-clause-all : goal.returns-clause-all
returns-clause-all c = λ k d below.
    subst (λ (n : ℤ). IsDate n) (get_or_default c.args.numbers.now k (pos 0) d below) (c.loop-place.invariant k (omega (arith, below, c.loop-place-test.false)))
