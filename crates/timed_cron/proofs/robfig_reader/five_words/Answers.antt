use Rattle.std.proofs.Common.{sym, arith}
use Rattle.std.proofs.Math.Path.{subst}
use Rattle.timed_cron.specs.Private.{IsOtherCount}
use Rattle.timed_cron.proofs.RobfigWords.{other_count}
use Rattle.timed_cron.proofs.TextWords.{front, none_at, within, word_at}
use Rattle.timed_cron.proofs.robfig_reader.five_words.Goals as goal

pub returns-in_default-clause-count : goal.returns-in_default-clause-count
returns-in_default-clause-count c =
    let text = c.args.text.now in
    other_count text _ (none_at text 0 (omega arith) c.in_default.ensures.none) (λ five. absurd (omega (arith, five)))

pub returns-in_default-next_word-clause-count : goal.returns-in_default-next_word-clause-count
returns-in_default-next_word-clause-count c =
    let text = c.args.text.now in
    subst (λ count. IsOtherCount text count) (sym c.one_word_fault.ensures.value)
    (other_count text _ (front text 0 _ _ _ c.in-Some.ensures.some
    (none_at text c.in-Some.minute.end c.in-Some.ensures.some.within c.in_default-next_word.ensures.none)) (λ five. absurd (omega (arith, five))))

pub returns-in_default-next_word-2-clause-count : goal.returns-in_default-next_word-2-clause-count
returns-in_default-next_word-2-clause-count c =
    let text = c.args.text.now in
    other_count text _ (front text 0 _ _ _ c.in-Some.ensures.some
    (front text c.in-Some.minute.end _ _ _ c.in-Some-next_word.ensures.some
    (none_at text c.in-Some-next_word.hour.end c.in-Some-next_word.ensures.some.within c.in_default-next_word-2.ensures.none))) (λ five. absurd (omega (arith, five)))

pub returns-in_default-next_word-3-clause-count : goal.returns-in_default-next_word-3-clause-count
returns-in_default-next_word-3-clause-count c =
    let text = c.args.text.now in
    other_count text _ (front text 0 _ _ _ c.in-Some.ensures.some
    (front text c.in-Some.minute.end _ _ _ c.in-Some-next_word.ensures.some
    (front text c.in-Some-next_word.hour.end _ _ _ c.in-Some-next_word-2.ensures.some
    (none_at text c.in-Some-next_word-2.day.end c.in-Some-next_word-2.ensures.some.within c.in_default-next_word-3.ensures.none)))) (λ five. absurd (omega (arith, five)))

pub returns-in_default-next_word-4-clause-count : goal.returns-in_default-next_word-4-clause-count
returns-in_default-next_word-4-clause-count c =
    let text = c.args.text.now in
    other_count text _ (front text 0 _ _ _ c.in-Some.ensures.some
    (front text c.in-Some.minute.end _ _ _ c.in-Some-next_word.ensures.some
    (front text c.in-Some-next_word.hour.end _ _ _ c.in-Some-next_word-2.ensures.some
    (front text c.in-Some-next_word-2.day.end _ _ _ c.in-Some-next_word-3.ensures.some
    (none_at text c.in-Some-next_word-3.month.end c.in-Some-next_word-3.ensures.some.within c.in_default-next_word-4.ensures.none))))) (λ five. absurd (omega (arith, five)))

pub returns-in-Some-next_word-5-clause-count : goal.returns-in-Some-next_word-5-clause-count
returns-in-Some-next_word-5-clause-count c =
    let text = c.args.text.now in
    other_count text _ (front text 0 _ _ _ c.in-Some.ensures.some
    (front text c.in-Some.minute.end _ _ _ c.in-Some-next_word.ensures.some
    (front text c.in-Some-next_word.hour.end _ _ _ c.in-Some-next_word-2.ensures.some
    (front text c.in-Some-next_word-2.day.end _ _ _ c.in-Some-next_word-3.ensures.some
    (front text c.in-Some-next_word-3.month.end _ _ _ c.in-Some-next_word-4.ensures.some
    (word_at text c.in-Some-next_word-4.weekday.end _ _ c.in-Some-next_word-5.ensures.some)))))) (λ five. absurd (omega (arith, five)))

pub returns-clause-words : goal.returns-clause-words
returns-clause-words c =
    let text = c.args.text.now in
    record {
      words = (front text 0 _ _ _ c.in-Some.ensures.some
          (front text c.in-Some.minute.end _ _ _ c.in-Some-next_word.ensures.some
          (front text c.in-Some-next_word.hour.end _ _ _ c.in-Some-next_word-2.ensures.some
          (front text c.in-Some-next_word-2.day.end _ _ _ c.in-Some-next_word-3.ensures.some
          (front text c.in-Some-next_word-3.month.end _ _ _ c.in-Some-next_word-4.ensures.some
          (none_at text c.in-Some-next_word-4.weekday.end c.in-Some-next_word-4.ensures.some.within c.in_default-next_word-5.ensures.none))))));
      minute = within text 0 c.in-Some.minute c.in-Some.ensures.some;
      hour = within text c.in-Some.minute.end c.in-Some-next_word.hour c.in-Some-next_word.ensures.some;
      day = within text c.in-Some-next_word.hour.end c.in-Some-next_word-2.day c.in-Some-next_word-2.ensures.some;
      month = within text c.in-Some-next_word-2.day.end c.in-Some-next_word-3.month c.in-Some-next_word-3.ensures.some;
      weekday = within text c.in-Some-next_word-3.month.end c.in-Some-next_word-4.weekday c.in-Some-next_word-4.ensures.some;
    }
