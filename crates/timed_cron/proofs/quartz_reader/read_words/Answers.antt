use Rattle.std.proofs.Common.{length, Err, ap, sym, ◌∙◌}
use Rattle.chrono_cron.specs.ScheduleErrors.{front_fault}
use Rattle.timed_cron.specs.Private.{word_of, year_word_of}
use Rattle.timed_cron.specs.DialectTexts.{unless_in_front}
use Rattle.timed_cron.specs.QuartzTexts.{fields_read}
use Rattle.timed_cron.proofs.QuartzWords.{words_by}
use Rattle.timed_cron.proofs.quartz_reader.read_words.Goals as goal

pub returns-in-Some-clause-read : goal.returns-in-Some-clause-read
returns-in-Some-clause-read c =
    let text = c.args.text.now in
    let w = c.args.words in
    let fields = fields_read (word_of text w.second) (word_of text w.minute) (word_of text w.hour) (word_of text w.day) (word_of text w.month) (word_of text w.weekday) (year_word_of text w.year) in
    ap Err c.text_error.ensures
    ∙ sym (words_by (length text) _ (word_of text w.second) (word_of text w.minute) (word_of text w.hour) (word_of text w.day) (word_of text w.month) (word_of text w.weekday) (year_word_of text w.year) c.requires.words
    ∙ ap (λ fault. unless_in_front fault w.second.place fields) (ap front_fault (sym c.word.ensures.bytes) ∙ sym c.front_fault.ensures ∙ c.in-Some.is))

pub returns-clause-read : goal.returns-clause-read
returns-clause-read c =
    let text = c.args.text.now in
    let w = c.args.words in
    let fields = fields_read (word_of text w.second) (word_of text w.minute) (word_of text w.hour) (word_of text w.day) (word_of text w.month) (word_of text w.weekday) (year_word_of text w.year) in
    c.read_fields.ensures.read
    ∙ sym (words_by (length text) _ (word_of text w.second) (word_of text w.minute) (word_of text w.hour) (word_of text w.day) (word_of text w.month) (word_of text w.weekday) (year_word_of text w.year) c.requires.words
    ∙ ap (λ fault. unless_in_front fault w.second.place fields) (ap front_fault (sym c.word.ensures.bytes) ∙ sym c.front_fault.ensures ∙ c.in_default.is))
