use Rattle.std.proofs.Common.{length, ap, sym, ◌∙◌, arith}
use Rattle.timed_cron.proofs.TextWords.{front, none_at, within, word_at}
use Rattle.timed_cron.proofs.robfig_reader.only_word.Goals as goal

pub returns-in_default-clause-none : goal.returns-in_default-clause-none
returns-in_default-clause-none c = λ w one.
    let none = none_at c.args.text.now 0 (omega arith) c.in_default.ensures.none in
    absurd (omega (arith, ap length (sym none ∙ one)))

pub returns-in-Some-next_word-clause-none : goal.returns-in-Some-next_word-clause-none
returns-in-Some-next_word-clause-none c = λ w one.
    let text = c.args.text.now in
    let two = front text 0 _ _ _ c.in-Some.ensures.some (word_at text c.in-Some.first.end _ _ c.in-Some-next_word.ensures.some) in
    absurd (omega (arith, ap length (sym two ∙ one)))

pub returns-in-None-clause-some : goal.returns-in-None-clause-some
returns-in-None-clause-some c =
    let text = c.args.text.now in
    record {
      words = front text 0 _ _ _ c.in-Some.ensures.some (none_at text c.in-Some.first.end c.in-Some.ensures.some.within c.in-None.ensures.none);
      within = within text 0 c.in-Some.first c.in-Some.ensures.some;
    }
