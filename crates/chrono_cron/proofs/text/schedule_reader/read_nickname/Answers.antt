use Rattle.std.proofs.Common.{◌∙◌, ◌∷◌, ap, sym, drop}
use Rattle.chrono_cron.specs.PlacedWords.{placed_words}
use Rattle.chrono_cron.proofs.FirstWrong.{none-wrong}
use Rattle.chrono_cron.proofs.TextWords.{fields_more, fields_none, fields_unmeant, nickname_fields, words_of}
use Rattle.chrono_cron.proofs.text.schedule_reader.read_nickname.Goals as goal

pub returns-in_default-clause-none : goal.returns-in_default-clause-none
returns-in_default-clause-none c = λ s is. fields_none c.args.text.now s c.in_default.ensures.none is

pub returns-in-Some-next_word-clause-none : goal.returns-in-Some-next_word-clause-none
returns-in-Some-next_word-clause-none c = λ s is.
    let text = c.args.text.now in
    let word = c.in-Some.word in
    let next = ap (λ p. placed_words p (drop p text)) (sym c.end.ensures) ∙ c.in-Some-next_word.ensures.some in
    fields_more text s _ _ _ (c.in-Some.ensures.some ∙ ap (λ words. (word.place, word.text.now) ∷ words) next) c.requires is

pub returns-in-Ok-read_fields-clause-read : goal.returns-in-Ok-read_fields-clause-read
returns-in-Ok-read_fields-clause-read c =
    let word = c.in-Some.word in
    let meant = nickname_fields c.args.text.now c.nickname_meaning.result.now (word.place, word.text.now) c.end.result c.in-Some.ensures.some c.end.ensures c.in_default-next_word.ensures.none c.nickname_meaning.ensures in
    c.in-Ok-read_fields.ensures.read c.args.text.now (meant ∙ words_of 0 c.nickname_meaning.result.now _ c.in-Ok.ensures.five)

pub returns-in-Err-read_fields-clause-none : goal.returns-in-Err-read_fields-clause-none
returns-in-Err-read_fields-clause-none c = λ s is.
    let word = c.in-Some.word in
    let meant = nickname_fields c.args.text.now c.nickname_meaning.result.now (word.place, word.text.now) c.end.result c.in-Some.ensures.some c.end.ensures c.in_default-next_word.ensures.none c.nickname_meaning.ensures in
    none-wrong c.args.text.now _ s _ (meant ∙ words_of 0 c.nickname_meaning.result.now _ c.in-Ok.ensures.five) c.in-Err-read_fields.ensures.wrong is

pub returns-in-Err-clause-none : goal.returns-in-Err-clause-none
returns-in-Err-clause-none c = λ s is.
    let word = c.in-Some.word in
    let meant = nickname_fields c.args.text.now c.nickname_meaning.result.now (word.place, word.text.now) c.end.result c.in-Some.ensures.some c.end.ensures c.in_default-next_word.ensures.none c.nickname_meaning.ensures in
    fields_unmeant c.args.text.now c.nickname_meaning.result.now s meant c.in-Err.ensures.others is
