use Rattle.std.proofs.Common.{length, None, Err, ap, sym, ◌∙◌}
use Rattle.std.specs.Option.{ok_or}
use Rattle.chrono_cron.specs.PlacedWords.{placed_words}
use Rattle.chrono_cron.specs.ScheduleErrors.{front_or, schedule_error_at, words_fault}
use Rattle.chrono_cron.specs.ScheduleTexts.{nickname_meaning}
use Rattle.timed_cron.specs.Private.{word_of}
use Rattle.timed_cron.specs.declared.timed_error.TimedError.TheVariants.{Fields as InFields}
use Rattle.timed_cron.proofs.RobfigWords.{by_meaning, no_fields}
use Rattle.timed_cron.proofs.robfig_reader.read_nickname.Goals as goal

pub returns-in_default-clause-read : goal.returns-in_default-clause-read
returns-in_default-clause-read c =
    let text = c.args.text.now in
    let words = placed_words 0 text in
    ap Err (c.count_error.ensures.error ∙ ap (λ count. InFields (schedule_error_at None (front_or words count))) c.requires.count.told)
    ∙ sym (no_fields (length text) words c.requires.count.others c.in_default.ensures.none)

pub returns-in-Some-read_meaning-clause-read : goal.returns-in-Some-read_meaning-clause-read
returns-in-Some-read_meaning-clause-read c =
    let text = c.args.text.now in
    let words = placed_words 0 text in
    let meaning = by_meaning (length text) words (word_of text c.in-Some.alone) _ _ c.in-Some.ensures.some.words
    (c.nickname_meaning.ensures ∙ ap nickname_meaning c.word.ensures.bytes) c.read_meaning.ensures in
    sym (meaning ∙ ap (λ o. ok_or o (InFields (schedule_error_at None (words_fault (length text) words)))) c.in-Some-read_meaning.is)

pub returns-in-None-clause-read : goal.returns-in-None-clause-read
returns-in-None-clause-read c =
    let text = c.args.text.now in
    let words = placed_words 0 text in
    let meaning = by_meaning (length text) words (word_of text c.in-Some.alone) _ _ c.in-Some.ensures.some.words
    (c.nickname_meaning.ensures ∙ ap nickname_meaning c.word.ensures.bytes) c.read_meaning.ensures in
    ap Err (c.count_error-in-None.ensures.error ∙ ap (λ count. InFields (schedule_error_at None (front_or words count))) c.requires.count.told)
    ∙ sym (meaning ∙ ap (λ o. ok_or o (InFields (schedule_error_at None (words_fault (length text) words)))) c.in-None.is)
