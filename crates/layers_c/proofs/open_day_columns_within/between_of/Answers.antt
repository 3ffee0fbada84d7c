use Rattle.std.proofs.Common.{◌∙◌, sym, refl, FitsSigned, rules, w32, w64}
use Rattle.std.proofs.lemmas.Int.{to_z-of_z}
use Rattle.chrono_calendar.proofs.NamedDates.{date_of_day-number, none-date_of_day}
use Rattle.layers_c.proofs.FoundNumbers.{named-is-date}
use Rattle.layers_c.proofs.open_day_columns_within.between_of.Goals as goal

pub returns-in_default : goal.returns-in_default
returns-in_default c =
    let missing = none-date_of_day c.args.from (rw (to_z-of_z w32 c.args.from c.ranges.from) at c.in_default.ensures.date) in
    record { count = λ from _ _ _. absurd (missing from); unknown = λ _ _ _. refl; no_from = λ _. refl; no_to = λ _. refl }

pub returns-in_default-date_of : goal.returns-in_default-date_of
returns-in_default-date_of c =
    let missing = none-date_of_day c.args.to (rw (to_z-of_z w32 c.args.to c.ranges.to) at c.in_default-date_of.ensures.date) in
    record { count = λ _ to _ _. absurd (missing to); unknown = λ _ _ _. refl; no_from = λ _. refl; no_to = λ _. refl }

pub returns-in-Some-open_days_within : goal.returns-in-Some-open_days_within
returns-in-Some-open_days_within c =
    let fits : FitsSigned w64 c.in-Some-open_days_within.count = search rules in
    let from_date = sym (rw (to_z-of_z w32 c.args.from c.ranges.from) at c.in-Some.ensures.date) in
    let to_date = sym (rw (to_z-of_z w32 c.args.to c.ranges.to) at c.in-Some-date_of.ensures.date) in
    let from = (date_of_day-number c.in-Some.from c.args.from from_date).1 in
    let to = (date_of_day-number c.in-Some-date_of.to c.args.to to_date).1 in
    let counted = rw (← from, ← to) at c.in-Some-open_days_within.ensures.value in
    let known = rw (← from, ← to) at c.in-Some-open_days_within.ensures.known in
    record {
      count = λ _ _ _ _. to_z-of_z w64 c.in-Some-open_days_within.count fits ∙ counted;
      unknown = λ _ _ unknown. absurd (unknown known.0 known.1);
      no_from = λ none. absurd (none (named-is-date c.in-Some.from c.args.from from_date));
      no_to = λ none. absurd (none (named-is-date c.in-Some-date_of.to c.args.to to_date));
    }

pub returns-in-None : goal.returns-in-None
returns-in-None c =
    let from_date = sym (rw (to_z-of_z w32 c.args.from c.ranges.from) at c.in-Some.ensures.date) in
    let to_date = sym (rw (to_z-of_z w32 c.args.to c.ranges.to) at c.in-Some-date_of.ensures.date) in
    let from = (date_of_day-number c.in-Some.from c.args.from from_date).1 in
    let to = (date_of_day-number c.in-Some-date_of.to c.args.to to_date).1 in
    let unknown = rw (← from, ← to) at c.in-None.ensures.none in
    record {
      count = λ _ _ there back. absurd (unknown there back);
      unknown = λ _ _ _. refl;
      no_from = λ none. absurd (none (named-is-date c.in-Some.from c.args.from from_date));
      no_to = λ none. absurd (none (named-is-date c.in-Some-date_of.to c.args.to to_date));
    }
