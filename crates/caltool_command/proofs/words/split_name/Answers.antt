use Rattle.std.proofs.Common.{◌∷◌, take, drop, ap, sym, ◌∙◌}
use Rattle.caltool_command.specs.Words.{words}
use Rattle.caltool_command.proofs.Splits.{words_at, ends_at}
use Rattle.caltool_command.proofs.words.split_name.Goals as goal

pub returns-clause-words : goal.returns-clause-words
returns-clause-words c =
    let line = c.args.line.now in
    let len = c.bytes_before-len.result in
    let found = c.bytes_before-len.ensures in
    words_at line len found.before (ends_at line len found.here)
    ∙ ap (λ first. first ∷ drop 1 (words (drop len line))) (sym (c.split_at.ensures.front ∙ ap (take len) c.as_slice.ensures))
    ∙ ap (λ rest. c.split_at.result.0.now ∷ drop 1 (words rest)) (sym c.skip.ensures)
