use Rattle.std.proofs.Common.{◌≡◌, true, ◌∙◌, sym, refl, ℤ, FitsSigned, rules, w32}
use Rattle.std.proofs.lemmas.Int.{to_z-of_z}
use Rattle.chrono_calendar.proofs.NamedDates.{date_of_day-number, none-date_of_day}
use Rattle.chrono_business.specs.KnownYears.{is_roll_known}
use Rattle.chrono_business.specs.Rolls.{RollsTo}
use Rattle.layers_c.proofs.FoundNumbers.{found-holds, named-is-date, none-again, none-holds, number-again}
use Rattle.layers_c.proofs.open_day_columns_within.rolled_of.Goals as goal

pub returns-in-Some : goal.returns-in-Some
returns-in-Some c =
    let fits : FitsSigned w32 c.number_or_none.result = search rules in
    let number = to_z-of_z w32 c.number_or_none.result fits in
    let answer = number ∙ c.number_or_none.ensures.number in
    let date = sym (rw (to_z-of_z w32 c.args.number c.ranges.number) at c.in-Some.ensures.date) in
    let day = (date_of_day-number c.in-Some.date c.args.number date).1 in
    let rolled = rw (← day) at c.roll_within.ensures.rolled in
    let known = rw (← day) at c.roll_within.ensures.known in
    let unrolled = rw (← day) at c.roll_within.ensures.none in
    record {
      number = number-again c.roll_within.result c.number_or_none.result _ number c.number_or_none.ensures.number c.number_or_none.ensures.exists;
      rolled = found-holds c.roll_within.result (RollsTo c.args.calendar.now c.args.roll c.args.number) _ answer rolled;
      known = found-holds c.roll_within.result (λ e. is_roll_known c.args.years c.args.roll c.args.number e ≡ true) _ answer known;
      none = λ none _. none-holds c.roll_within.result ((e : ℤ) → is_roll_known c.args.years c.args.roll c.args.number e ≡ true → RollsTo c.args.calendar.now c.args.roll c.args.number e → ⊥) _
          answer c.roll_within.ensures.exists unrolled none;
      no_date = λ none. absurd (none (named-is-date c.in-Some.date c.args.number date));
    }

pub returns-in-None : goal.returns-in-None
returns-in-None c = record {
  number = none-again;
  rolled = λ some. absurd (some refl);
  known = λ some. absurd (some refl);
  none = λ _ date. absurd (none-date_of_day c.args.number (rw (to_z-of_z w32 c.args.number c.ranges.number) at c.in-None.ensures.date) date);
  no_date = λ _. refl;
}
