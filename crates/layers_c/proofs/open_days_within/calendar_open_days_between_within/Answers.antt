use Rattle.std.proofs.Common.{◌∙◌, sym, FitsSigned, rules, w32, w64}
use Rattle.std.proofs.lemmas.Int.{to_z-of_z}
use Rattle.chrono_calendar.proofs.NamedDates.{date_of_day-number, none-date_of_day}
use Rattle.layers_c.proofs.FoundNumbers.{named-is-date}
use Rattle.layers_c.proofs.open_days_within.calendar_open_days_between_within.Goals as goal

pub returns-in_default-date_of-clause-count : goal.returns-in_default-date_of-clause-count
returns-in_default-date_of-clause-count c =
    λ _ from _ _ _. absurd (none-date_of_day c.args.from (rw (to_z-of_z w32 c.args.from c.ranges.from) at c.in_default-date_of.ensures.date) from)

pub returns-in_default-date_of-2-clause-count : goal.returns-in_default-date_of-2-clause-count
returns-in_default-date_of-2-clause-count c =
    λ _ _ to _ _. absurd (none-date_of_day c.args.to (rw (to_z-of_z w32 c.args.to c.ranges.to) at c.in_default-date_of-2.ensures.date) to)

pub returns-in-Some-open_days_within-clause-count : goal.returns-in-Some-open_days_within-clause-count
returns-in-Some-open_days_within-clause-count c =
    let fits : FitsSigned w64 c.in-Some-open_days_within.count = search rules in
    let from = (date_of_day-number c.in-Some-date_of.from c.args.from (sym (rw (to_z-of_z w32 c.args.from c.ranges.from) at c.in-Some-date_of.ensures.date))).1 in
    let to = (date_of_day-number c.in-Some-date_of-2.to c.args.to (sym (rw (to_z-of_z w32 c.args.to c.ranges.to) at c.in-Some-date_of-2.ensures.date))).1 in
    let counted = rw (c.in-Some.ensures.calendar, ← from, ← to) at c.in-Some-open_days_within.ensures.value in
    λ _ _ _ _ _. to_z-of_z w64 c.in-Some-open_days_within.count fits ∙ counted

pub returns-in-Some-open_days_within-clause-unknown : goal.returns-in-Some-open_days_within-clause-unknown
returns-in-Some-open_days_within-clause-unknown c =
    let from = (date_of_day-number c.in-Some-date_of.from c.args.from (sym (rw (to_z-of_z w32 c.args.from c.ranges.from) at c.in-Some-date_of.ensures.date))).1 in
    let to = (date_of_day-number c.in-Some-date_of-2.to c.args.to (sym (rw (to_z-of_z w32 c.args.to c.ranges.to) at c.in-Some-date_of-2.ensures.date))).1 in
    let known = rw (← from, ← to, c.years.ensures, to_z-of_z w32 c.args.first_year c.ranges.first_year, to_z-of_z w32 c.args.last_year c.ranges.last_year) at c.in-Some-open_days_within.ensures.known in
    λ _ _ unknown. absurd (unknown known.0 known.1)

pub returns-in-None-clause-count : goal.returns-in-None-clause-count
returns-in-None-clause-count c =
    let from = (date_of_day-number c.in-Some-date_of.from c.args.from (sym (rw (to_z-of_z w32 c.args.from c.ranges.from) at c.in-Some-date_of.ensures.date))).1 in
    let to = (date_of_day-number c.in-Some-date_of-2.to c.args.to (sym (rw (to_z-of_z w32 c.args.to c.ranges.to) at c.in-Some-date_of-2.ensures.date))).1 in
    let unknown = rw (← from, ← to, c.years.ensures, to_z-of_z w32 c.args.first_year c.ranges.first_year, to_z-of_z w32 c.args.last_year c.ranges.last_year) at c.in-None.ensures.none in
    λ _ _ _ there back. absurd (unknown there back)

pub returns-in-Some-open_days_within-clause-no_from : goal.returns-in-Some-open_days_within-clause-no_from
returns-in-Some-open_days_within-clause-no_from c =
    let date = named-is-date c.in-Some-date_of.from c.args.from (sym (rw (to_z-of_z w32 c.args.from c.ranges.from) at c.in-Some-date_of.ensures.date)) in
    λ none. absurd (none date)

pub returns-in-Some-open_days_within-clause-no_to : goal.returns-in-Some-open_days_within-clause-no_to
returns-in-Some-open_days_within-clause-no_to c =
    let date = named-is-date c.in-Some-date_of-2.to c.args.to (sym (rw (to_z-of_z w32 c.args.to c.ranges.to) at c.in-Some-date_of-2.ensures.date)) in
    λ none. absurd (none date)
