use Rattle.std.proofs.Common.{length, Err, None, refl, sym, ap, ◌∙◌, arith}
use Rattle.std.proofs.Math.Path.{subst}
use Rattle.chrono_cron.specs.PlacedWords.{placed_words}
use Rattle.chrono_cron.specs.ScheduleErrors.{front_or, schedule_error_at}
use Rattle.timed_cron.specs.Private.{AreQuartzWords}
use Rattle.timed_cron.specs.declared.quartz_reader.Words.{Words}
use Rattle.timed_cron.specs.declared.timed_error.TimedError.TheVariants.{Fields as InFields}
use Rattle.timed_cron.proofs.QuartzWords.{told}
use Rattle.timed_cron.proofs.TextWords.{front, none_at, within, word_at}
use Rattle.timed_cron.proofs.quartz_reader.quartz_words.Goals as goal

pub returns-in_default-clause-count : goal.returns-in_default-clause-count
returns-in_default-clause-count c =
    let text = c.args.text.now in
    told (length text) _ _ _ (none_at text 0 (omega arith) c.in_default.ensures.none) refl

pub returns-in_default-next_word-clause-count : goal.returns-in_default-next_word-clause-count
returns-in_default-next_word-clause-count c =
    let text = c.args.text.now in
    told (length text) _ _ _ (front text 0 _ _ _ c.in-Some.ensures.some
    (none_at text c.in-Some.second.end c.in-Some.ensures.some.within c.in_default-next_word.ensures.none)) refl
    ∙ ap (λ count. Err (InFields (schedule_error_at None (front_or (placed_words 0 text) count)))) (sym c.one_word_fault.ensures.value)

pub returns-in_default-next_word-2-clause-count : goal.returns-in_default-next_word-2-clause-count
returns-in_default-next_word-2-clause-count c =
    let text = c.args.text.now in
    told (length text) _ _ _ (front text 0 _ _ _ c.in-Some.ensures.some
    (front text c.in-Some.second.end _ _ _ c.in-Some-next_word.ensures.some
    (none_at text c.in-Some-next_word.minute.end c.in-Some-next_word.ensures.some.within c.in_default-next_word-2.ensures.none))) refl

pub returns-in_default-next_word-3-clause-count : goal.returns-in_default-next_word-3-clause-count
returns-in_default-next_word-3-clause-count c =
    let text = c.args.text.now in
    told (length text) _ _ _ (front text 0 _ _ _ c.in-Some.ensures.some
    (front text c.in-Some.second.end _ _ _ c.in-Some-next_word.ensures.some
    (front text c.in-Some-next_word.minute.end _ _ _ c.in-Some-next_word-2.ensures.some
    (none_at text c.in-Some-next_word-2.hour.end c.in-Some-next_word-2.ensures.some.within c.in_default-next_word-3.ensures.none)))) refl

pub returns-in_default-next_word-4-clause-count : goal.returns-in_default-next_word-4-clause-count
returns-in_default-next_word-4-clause-count c =
    let text = c.args.text.now in
    told (length text) _ _ _ (front text 0 _ _ _ c.in-Some.ensures.some
    (front text c.in-Some.second.end _ _ _ c.in-Some-next_word.ensures.some
    (front text c.in-Some-next_word.minute.end _ _ _ c.in-Some-next_word-2.ensures.some
    (front text c.in-Some-next_word-2.hour.end _ _ _ c.in-Some-next_word-3.ensures.some
    (none_at text c.in-Some-next_word-3.day.end c.in-Some-next_word-3.ensures.some.within c.in_default-next_word-4.ensures.none))))) refl

pub returns-in_default-next_word-5-clause-count : goal.returns-in_default-next_word-5-clause-count
returns-in_default-next_word-5-clause-count c =
    let text = c.args.text.now in
    told (length text) _ _ _ (front text 0 _ _ _ c.in-Some.ensures.some
    (front text c.in-Some.second.end _ _ _ c.in-Some-next_word.ensures.some
    (front text c.in-Some-next_word.minute.end _ _ _ c.in-Some-next_word-2.ensures.some
    (front text c.in-Some-next_word-2.hour.end _ _ _ c.in-Some-next_word-3.ensures.some
    (front text c.in-Some-next_word-3.day.end _ _ _ c.in-Some-next_word-4.ensures.some
    (none_at text c.in-Some-next_word-4.month.end c.in-Some-next_word-4.ensures.some.within c.in_default-next_word-5.ensures.none)))))) refl

pub returns-in-Some-next_word-6-clause-count : goal.returns-in-Some-next_word-6-clause-count
returns-in-Some-next_word-6-clause-count c =
    let text = c.args.text.now in
    told (length text) _ _ _ (front text 0 _ _ _ c.in-Some.ensures.some
    (front text c.in-Some.second.end _ _ _ c.in-Some-next_word.ensures.some
    (front text c.in-Some-next_word.minute.end _ _ _ c.in-Some-next_word-2.ensures.some
    (front text c.in-Some-next_word-2.hour.end _ _ _ c.in-Some-next_word-3.ensures.some
    (front text c.in-Some-next_word-3.day.end _ _ _ c.in-Some-next_word-4.ensures.some
    (front text c.in-Some-next_word-4.month.end _ _ _ c.in-Some-next_word-5.ensures.some
    (front text c.in-Some-next_word-5.weekday.end _ _ _ c.in-Some-year.ensures.some (word_at text c.in-Some-year.year.end _ _ c.in-Some-next_word-6.ensures.some)))))))) refl

pub returns-in_default-next_word-6-clause-words : goal.returns-in_default-next_word-6-clause-words
returns-in_default-next_word-6-clause-words c =
    let text = c.args.text.now in
    record {
      words = (front text 0 _ _ _ c.in-Some.ensures.some
          (front text c.in-Some.second.end _ _ _ c.in-Some-next_word.ensures.some
          (front text c.in-Some-next_word.minute.end _ _ _ c.in-Some-next_word-2.ensures.some
          (front text c.in-Some-next_word-2.hour.end _ _ _ c.in-Some-next_word-3.ensures.some
          (front text c.in-Some-next_word-3.day.end _ _ _ c.in-Some-next_word-4.ensures.some
          (front text c.in-Some-next_word-4.month.end _ _ _ c.in-Some-next_word-5.ensures.some
          (front text c.in-Some-next_word-5.weekday.end _ _ _ c.in-Some-year.ensures.some (none_at text c.in-Some-year.year.end c.in-Some-year.ensures.some.within c.in_default-next_word-6.ensures.none))))))));
      second = within text 0 c.in-Some.second c.in-Some.ensures.some;
      minute = within text c.in-Some.second.end c.in-Some-next_word.minute c.in-Some-next_word.ensures.some;
      hour = within text c.in-Some-next_word.minute.end c.in-Some-next_word-2.hour c.in-Some-next_word-2.ensures.some;
      day = within text c.in-Some-next_word-2.hour.end c.in-Some-next_word-3.day c.in-Some-next_word-3.ensures.some;
      month = within text c.in-Some-next_word-3.day.end c.in-Some-next_word-4.month c.in-Some-next_word-4.ensures.some;
      weekday = within text c.in-Some-next_word-4.month.end c.in-Some-next_word-5.weekday c.in-Some-next_word-5.ensures.some;
      year = within text c.in-Some-next_word-5.weekday.end c.in-Some-year.year c.in-Some-year.ensures.some;
    }

pub returns-in_default-year-clause-words : goal.returns-in_default-year-clause-words
returns-in_default-year-clause-words c =
    let text = c.args.text.now in
    let words : AreQuartzWords text (record { second = c.in-Some.second; minute = c.in-Some-next_word.minute; hour = c.in-Some-next_word-2.hour; day = c.in-Some-next_word-3.day; month = c.in-Some-next_word-4.month; weekday = c.in-Some-next_word-5.weekday; year = None }) = record {
      words = (front text 0 _ _ _ c.in-Some.ensures.some
          (front text c.in-Some.second.end _ _ _ c.in-Some-next_word.ensures.some
          (front text c.in-Some-next_word.minute.end _ _ _ c.in-Some-next_word-2.ensures.some
          (front text c.in-Some-next_word-2.hour.end _ _ _ c.in-Some-next_word-3.ensures.some
          (front text c.in-Some-next_word-3.day.end _ _ _ c.in-Some-next_word-4.ensures.some
          (front text c.in-Some-next_word-4.month.end _ _ _ c.in-Some-next_word-5.ensures.some
          (none_at text c.in-Some-next_word-5.weekday.end c.in-Some-next_word-5.ensures.some.within c.in_default-year.ensures.none)))))));
      second = within text 0 c.in-Some.second c.in-Some.ensures.some;
      minute = within text c.in-Some.second.end c.in-Some-next_word.minute c.in-Some-next_word.ensures.some;
      hour = within text c.in-Some-next_word.minute.end c.in-Some-next_word-2.hour c.in-Some-next_word-2.ensures.some;
      day = within text c.in-Some-next_word-2.hour.end c.in-Some-next_word-3.day c.in-Some-next_word-3.ensures.some;
      month = within text c.in-Some-next_word-3.day.end c.in-Some-next_word-4.month c.in-Some-next_word-4.ensures.some;
      weekday = within text c.in-Some-next_word-4.month.end c.in-Some-next_word-5.weekday c.in-Some-next_word-5.ensures.some;
      year = tt;
    } in
    subst (λ year. let w : Words = record { second = c.in-Some.second; minute = c.in-Some-next_word.minute; hour = c.in-Some-next_word-2.hour; day = c.in-Some-next_word-3.day; month = c.in-Some-next_word-4.month; weekday = c.in-Some-next_word-5.weekday; year = year } in AreQuartzWords text w) (sym c.in_default-year.is) words
