use Rattle.std.proofs.Common.{length, Err, ap, sym, ◌∙◌}
use Rattle.chrono_cron.specs.ScheduleErrors.{front_fault}
use Rattle.timed_cron.specs.DialectTexts.{unless_in_front}
use Rattle.timed_cron.specs.Private.{word_of}
use Rattle.timed_cron.specs.RobfigTexts.{robfig_fields_read, robfig_words_read}
use Rattle.timed_cron.proofs.robfig_reader.read_words.Goals as goal

pub returns-in-Some-clause-read : goal.returns-in-Some-clause-read
returns-in-Some-clause-read c =
    let text = c.args.text.now in
    let w = c.args.words in
    let fields = robfig_fields_read (word_of text w.minute) (word_of text w.hour) (word_of text w.day) (word_of text w.month) (word_of text w.weekday) in
    ap Err c.text_error.ensures
    ∙ sym (ap (robfig_words_read (length text)) c.requires.words
    ∙ ap (λ fault. unless_in_front fault w.minute.place fields) (ap front_fault (sym c.word.ensures.bytes) ∙ sym c.front_fault.ensures ∙ c.in-Some.is))

pub returns-clause-read : goal.returns-clause-read
returns-clause-read c =
    let text = c.args.text.now in
    let w = c.args.words in
    let fields = robfig_fields_read (word_of text w.minute) (word_of text w.hour) (word_of text w.day) (word_of text w.month) (word_of text w.weekday) in
    c.read_fields.ensures.read
    ∙ sym (ap (robfig_words_read (length text)) c.requires.words
    ∙ ap (λ fault. unless_in_front fault w.minute.place fields) (ap front_fault (sym c.word.ensures.bytes) ∙ sym c.front_fault.ensures ∙ c.in_default.is))
