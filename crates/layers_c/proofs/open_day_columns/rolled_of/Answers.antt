use Rattle.std.proofs.Common.{◌∙◌, sym, refl, ℤ, FitsSigned, rules, w32}
use Rattle.std.proofs.lemmas.Int.{to_z-of_z}
use Rattle.chrono_calendar.proofs.NamedDates.{date_of_day-number, none-date_of_day}
use Rattle.chrono_calendar.specs.Days.{IsDate}
use Rattle.chrono_business.specs.Rolls.{RollsTo}
use Rattle.layers_c.proofs.FoundNumbers.{found-holds, named-is-date, none-again, none-holds, number-again}
use Rattle.layers_c.proofs.open_day_columns.rolled_of.Goals as goal

pub returns-in-Some : goal.returns-in-Some
returns-in-Some c =
    let fits : FitsSigned w32 c.number_or_none.result = search rules in
    let number = to_z-of_z w32 c.number_or_none.result fits in
    let day = (date_of_day-number c.in-Some.date c.args.number (sym (rw (to_z-of_z w32 c.args.number c.ranges.number) at c.in-Some.ensures.date))).1 in
    let rolled = rw (← day) at c.roll.ensures.rolled in
    let unrolled = rw (← day) at c.roll.ensures.none in
    record {
      number = number-again c.roll.result c.number_or_none.result _ number c.number_or_none.ensures.number c.number_or_none.ensures.exists;
      rolled = found-holds c.roll.result (RollsTo c.args.calendar.now c.args.roll c.args.number) _ (number ∙ c.number_or_none.ensures.number) rolled;
      none = λ none _. none-holds c.roll.result ((e : ℤ) → IsDate e → RollsTo c.args.calendar.now c.args.roll c.args.number e → ⊥) _
          (number ∙ c.number_or_none.ensures.number) c.roll.ensures.exists unrolled none;
      no_date = λ none. absurd (none (named-is-date c.in-Some.date c.args.number (sym (rw (to_z-of_z w32 c.args.number c.ranges.number) at c.in-Some.ensures.date))));
    }

pub returns-in-None : goal.returns-in-None
returns-in-None c = record {
  number = none-again;
  rolled = λ some. absurd (some refl);
  none = λ _ date. absurd (none-date_of_day c.args.number (rw (to_z-of_z w32 c.args.number c.ranges.number) at c.in-None.ensures.date) date);
  no_date = λ _. refl;
}
