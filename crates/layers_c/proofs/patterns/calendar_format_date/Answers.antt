use Rattle.std.proofs.Common.{◌≡◌, ◌∙◌, ◌≤◌, List, ℕ, Option, length, ap, refl, subst, sym, FitsSigned, rules, w32}
use Rattle.std.proofs.lemmas.Int.{to_z-of_z}
use Rattle.chrono_calendar.proofs.NamedDates.{none-date_of_day, some-date_of_day}
use Rattle.chrono_clock.specs.Time.{time_at}
use Rattle.chrono_pattern.specs.Patterns.{pattern_text}
use Rattle.numbers_c.specs.Texts.{overwritten}
use Rattle.layers_c.specs.Patterns.{midnight_of}
use Rattle.layers_c.proofs.SaidLemmas.{said}
use Rattle.layers_c.proofs.WrittenLemmas.{whole-text, within-room}
use Rattle.layers_c.proofs.patterns.calendar_format_date.Goals as goal

pub returns-in_default-date_of-clause-every : goal.returns-in_default-date_of-clause-every
returns-in_default-date_of-clause-every c = λ date _ _.
    none-date_of_day c.args.date (rw (to_z-of_z w32 c.args.date c.ranges.date) at c.in_default-date_of.ensures.date) date

pub returns-in-Some-format_date-clause-written : goal.returns-in-Some-format_date-clause-written
returns-in-Some-format_date-clause-written c = λ some.
    let fits : FitsSigned w32 c.write_over.result = search rules in
    let number = to_z-of_z w32 c.write_over.result fits in
    let found = some-date_of_day c.args.date c.in-Some.date (rw (to_z-of_z w32 c.args.date c.ranges.date) at c.in-Some.ensures.date) in
    let text : List ℕ = pattern_text c.args.pattern.now (midnight_of c.args.date) in
    let same : c.as_bytes.result.now ≡ text = c.as_bytes.ensures.value ∙ rw (c.in-Ok.ensures.bytes, found.1) at (c.in-Some-format_date.ensures.text (time_at 0 0 0 0)) in
    let it = said (length c.args.text.now) c.as_bytes.result.now text c.write_over.result c.write_over.ensures.length (λ none. some (number ∙ none)) same in (
      c.in-Ok.ensures.exists.0 refl,
      found.0,
      record {
        bytes = c.write_over.ensures.bytes ∙ ap (λ (o : Option (List ℕ)). overwritten o c.args.text.now) it.0;
        count = number ∙ it.1;
      },
    )

pub returns-in-Some-format_date-clause-every : goal.returns-in-Some-format_date-clause-every
returns-in-Some-format_date-clause-every c = λ _ h none.
    let fits : FitsSigned w32 c.write_over.result = search rules in
    let number = to_z-of_z w32 c.write_over.result fits in
    let found = some-date_of_day c.args.date c.in-Some.date (rw (to_z-of_z w32 c.args.date c.ranges.date) at c.in-Some.ensures.date) in
    let text : List ℕ = pattern_text c.args.pattern.now (midnight_of c.args.date) in
    let same : c.as_bytes.result.now ≡ text = c.as_bytes.ensures.value ∙ rw (c.in-Ok.ensures.bytes, found.1) at (c.in-Some-format_date.ensures.text (time_at 0 0 0 0)) in
    whole-text (length c.args.text.now) c.as_bytes.result.now c.write_over.result c.write_over.ensures.length
    (subst (λ (t : List ℕ). length t ≤ length c.args.text.now) (sym same) h.within) (sym number ∙ none)

pub returns-in-None-clause-every : goal.returns-in-None-clause-every
returns-in-None-clause-every c = λ _ h _.
    let found = some-date_of_day c.args.date c.in-Some.date (rw (to_z-of_z w32 c.args.date c.ranges.date) at c.in-Some.ensures.date) in
    search (rules, h.timeless, h.local, h.short, found.1, c.in-Ok.ensures.bytes, c.in-None.ensures.exists)

pub returns-in-Some-format_date-clause-fits : goal.returns-in-Some-format_date-clause-fits
returns-in-Some-format_date-clause-fits c = λ some.
    let fits : FitsSigned w32 c.write_over.result = search rules in
    let number = to_z-of_z w32 c.write_over.result fits in
    let found = some-date_of_day c.args.date c.in-Some.date (rw (to_z-of_z w32 c.args.date c.ranges.date) at c.in-Some.ensures.date) in
    let text : List ℕ = pattern_text c.args.pattern.now (midnight_of c.args.date) in
    let same : c.as_bytes.result.now ≡ text = c.as_bytes.ensures.value ∙ rw (c.in-Ok.ensures.bytes, found.1) at (c.in-Some-format_date.ensures.text (time_at 0 0 0 0)) in
    let may = rw (c.in-Ok.ensures.bytes, found.1) at (c.in-Some-format_date.ensures.exists.0 refl) in
    record {
      pattern_is = c.in-Ok.ensures.exists.0 refl;
      timeless = may.0;
      local = may.1;
      short = may.2;
      within = subst (λ (t : List ℕ). length t ≤ length c.args.text.now) same
          (within-room (length c.args.text.now) c.as_bytes.result.now c.write_over.result c.write_over.ensures.length (λ none. some (number ∙ none)));
    }
