use Rattle.std.proofs.Common.{◌<◌, length, arith, inl, inr, ap, ◌∙◌, get_or}
use Rattle.std.proofs.lemmas.Bool.{both_ways, cases_lt}
use Rattle.chrono_text.specs.Lists.{is_blank}
use Rattle.timed_cron.proofs.words.next_word.Goals as goal

pub returns-then-place-end-clause-none : goal.returns-then-place-end-clause-none
returns-then-place-end-clause-none c = λ k low high.
    let text = c.args.text.now in
    let place = c.blanks_end-place.result in
    let same = c.if-place-end.true in
    elim (cases_lt k place) [
      | inl before ↦ c.blanks_end-place.ensures.blanks k low before
      | inr past ↦
          let less : place < length text = omega (arith, past, high) in
          absurd (both_ways (is_blank (get_or text place 0)) (c.blanks_end-place.ensures.end less)
          (ap (λ n. is_blank (get_or text n 0)) same ∙ c.word_end-end.ensures.behind (omega (arith, less, same))))
    ]
