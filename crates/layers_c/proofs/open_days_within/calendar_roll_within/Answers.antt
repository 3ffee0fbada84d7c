use Rattle.std.proofs.Common.{◌≡◌, true, ◌∙◌, sym, subst, ℤ, Option, IfSome, FitsSigned, rules, w32, to_z, of_z}
use Rattle.std.proofs.lemmas.Int.{to_z-of_z}
use Rattle.chrono_calendar.proofs.NamedDates.{date_of_day-number, none-date_of_day}
use Rattle.chrono_calendar.specs.Days.{IsDate}
use Rattle.chrono_text.proofs.AnswerLemmas.{the_one}
use Rattle.chrono_business.specs.KnownYears.{is_roll_known}
use Rattle.chrono_business.specs.Rolls.{RollsTo}
use Rattle.chrono_business.specs.declared.roll.Roll.{Roll}
use Rattle.layers_c.specs.OpenDays.{closed_from_c}
use Rattle.layers_c.specs.OpenDaysWithin.{years_from_c}
use Rattle.layers_c.proofs.FoundNumbers.{found-holds, named-is-date, none-again, none-holds, number-again}
use Rattle.layers_c.proofs.open_days_within.calendar_roll_within.Goals as goal

pub returns-in-Some-date_of-clause-rolled : goal.returns-in-Some-date_of-clause-rolled
returns-in-Some-date_of-clause-rolled c =
    let fits : FitsSigned w32 c.number_or_none.result = search rules in
    let number = to_z-of_z w32 c.number_or_none.result fits in
    let day = (date_of_day-number c.in-Some-date_of.date c.args.date (sym (rw (to_z-of_z w32 c.args.date c.ranges.date) at c.in-Some-date_of.ensures.date))).1 in
    let rolled = rw (c.in-Some.ensures.calendar, ← day) at c.roll_within.ensures.rolled in
    λ some.
    subst (λ (o : Option Roll). IfSome o (λ r. RollsTo (closed_from_c c.args.weekend c.args.holidays.now) r c.args.date (to_z w32 (of_z w32 c.number_or_none.result)))) c.in-Some-roll_of.ensures
    (found-holds c.roll_within.result (RollsTo (closed_from_c c.args.weekend c.args.holidays.now) c.in-Some-roll_of.roll c.args.date) _ (number ∙ c.number_or_none.ensures.number) rolled some)

pub returns-in-Some-date_of-clause-known : goal.returns-in-Some-date_of-clause-known
returns-in-Some-date_of-clause-known c =
    let fits : FitsSigned w32 c.number_or_none.result = search rules in
    let number = to_z-of_z w32 c.number_or_none.result fits in
    let day = (date_of_day-number c.in-Some-date_of.date c.args.date (sym (rw (to_z-of_z w32 c.args.date c.ranges.date) at c.in-Some-date_of.ensures.date))).1 in
    let known = rw (← day, c.years-known.ensures, to_z-of_z w32 c.args.first_year c.ranges.first_year, to_z-of_z w32 c.args.last_year c.ranges.last_year) at c.roll_within.ensures.known in
    λ some.
    subst (λ (o : Option Roll). IfSome o (λ r. is_roll_known (years_from_c c.args.first_year c.args.last_year) r c.args.date (to_z w32 (of_z w32 c.number_or_none.result)) ≡ true)) c.in-Some-roll_of.ensures
    (found-holds c.roll_within.result (λ e. is_roll_known (years_from_c c.args.first_year c.args.last_year) c.in-Some-roll_of.roll c.args.date e ≡ true) _ (number ∙ c.number_or_none.ensures.number) known some)

pub returns-in-Some-date_of-clause-none : goal.returns-in-Some-date_of-clause-none
returns-in-Some-date_of-clause-none c =
    let fits : FitsSigned w32 c.number_or_none.result = search rules in
    let number = to_z-of_z w32 c.number_or_none.result fits in
    let day = (date_of_day-number c.in-Some-date_of.date c.args.date (sym (rw (to_z-of_z w32 c.args.date c.ranges.date) at c.in-Some-date_of.ensures.date))).1 in
    let unrolled = rw (c.in-Some.ensures.calendar, ← day, c.years-known.ensures, to_z-of_z w32 c.args.first_year c.ranges.first_year, to_z-of_z w32 c.args.last_year c.ranges.last_year) at c.roll_within.ensures.none in
    λ r none numbered _ _.
    subst (λ (r : Roll). (e : ℤ) → is_roll_known (years_from_c c.args.first_year c.args.last_year) r c.args.date e ≡ true → RollsTo (closed_from_c c.args.weekend c.args.holidays.now) r c.args.date e → ⊥) (the_one _ _ _ c.in-Some-roll_of.ensures numbered)
    (none-holds c.roll_within.result ((e : ℤ) → is_roll_known (years_from_c c.args.first_year c.args.last_year) c.in-Some-roll_of.roll c.args.date e ≡ true → RollsTo (closed_from_c c.args.weekend c.args.holidays.now) c.in-Some-roll_of.roll c.args.date e → ⊥) _
    (number ∙ c.number_or_none.ensures.number) c.roll_within.ensures.exists unrolled none)

pub returns-in-None-clause-none : goal.returns-in-None-clause-none
returns-in-None-clause-none c =
    λ r _ _ _ date. absurd (none-date_of_day c.args.date (rw (to_z-of_z w32 c.args.date c.ranges.date) at c.in-None.ensures.date) date)

pub returns-in-Some-date_of-clause-no_date : goal.returns-in-Some-date_of-clause-no_date
returns-in-Some-date_of-clause-no_date c =
    let date = named-is-date c.in-Some-date_of.date c.args.date (sym (rw (to_z-of_z w32 c.args.date c.ranges.date) at c.in-Some-date_of.ensures.date)) in
    λ none. absurd (none date)

pub returns-in-Some-date_of-clause-number : goal.returns-in-Some-date_of-clause-number
returns-in-Some-date_of-clause-number c =
    let fits : FitsSigned w32 c.number_or_none.result = search rules in
    number-again c.roll_within.result c.number_or_none.result _ (to_z-of_z w32 c.number_or_none.result fits) c.number_or_none.ensures.number c.number_or_none.ensures.exists

pub returns-in-None-clause-number : goal.returns-in-None-clause-number
returns-in-None-clause-number c = none-again

pub returns-in_default-clause-number : goal.returns-in_default-clause-number
returns-in_default-clause-number c = none-again

pub returns-in_default-roll_of-clause-number : goal.returns-in_default-roll_of-clause-number
returns-in_default-roll_of-clause-number c = none-again
