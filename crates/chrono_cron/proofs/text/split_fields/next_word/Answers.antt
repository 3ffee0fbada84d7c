use Rattle.std.proofs.Common.{◌∙◌, arith}
use Rattle.chrono_cron.proofs.TextWords.{no_word, word_split}
use Rattle.chrono_cron.proofs.text.split_fields.next_word.Goals as goal

pub returns-then-len-eq0-clause-none : goal.returns-then-len-eq0-clause-none
returns-then-len-eq0-clause-none c =
    let len = rw c.text_from-behind.ensures at c.blank_place-len.ensures.place in
    c.blanks_end-place.ensures.passed
    ∙ no_word c.blanks_end-place.result c.args.text.now c.blanks_end-place.ensures.within c.blanks_end-place.ensures.end (len ∙ c.if-len-eq0.true)

pub returns-clause-some : goal.returns-clause-some
returns-clause-some c =
    let len = rw c.text_from-behind.ensures at c.blank_place-len.ensures.place in
    let within = rw c.text_from-behind.ensures at c.blank_place-len.ensures.within in
    rw c.text_from-behind.ensures
    (c.blanks_end-place.ensures.passed
    ∙ word_split c.blanks_end-place.result c.blank_place-len.result c.args.text.now len (omega arith) c.blanks_end-place.ensures.within within)
