use Rattle.std.proofs.Common.{◌∙◌, ◌≤◌, List, ℕ, length, refl, subst, FitsSigned, rules, w32}
use Rattle.std.proofs.lemmas.Int.{to_z-of_z}
use Rattle.chrono_text.proofs.AnswerLemmas.{the_one}
use Rattle.layers_c.proofs.WrittenLemmas.{within-room}
use Rattle.layers_c.proofs.patterns.calendar_format_date_time.Goals as goal

pub returns-in-Some-format-clause-fits : goal.returns-in-Some-format-clause-fits
returns-in-Some-format-clause-fits c = λ m is some.
    let fits : FitsSigned w32 c.write_over.result = search rules in
    let number = to_z-of_z w32 c.write_over.result fits in
    let moment = the_one _ _ _ c.in-Some.ensures is in
    let same = c.as_bytes.ensures.value ∙ rw (c.in-Ok.ensures.bytes, moment) at c.in-Some-format.ensures.text in
    let may = rw (c.in-Ok.ensures.bytes, moment) at (c.in-Some-format.ensures.exists.0 refl) in
    record {
      pattern_is = c.in-Ok.ensures.exists.0 refl;
      local = may.0;
      short = may.1;
      within = subst (λ (t : List ℕ). length t ≤ length c.args.text.now) same
          (within-room (length c.args.text.now) c.as_bytes.result.now c.write_over.result c.write_over.ensures.length (λ none. some (number ∙ none)));
    }
