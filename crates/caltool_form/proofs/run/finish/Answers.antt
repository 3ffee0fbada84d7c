use Rattle.std.proofs.Common.{length, sym, subst, arith}
use Rattle.std.proofs.KnownBytes.{Appends-kept}
use Rattle.std.proofs.lemmas.List.{take_all}
use Rattle.std.specs.Io.KnownBytes.{Appends}
use Rattle.caltool_form.specs.Lines.{last_line}
use Rattle.caltool_form.specs.Answers.{answer_of, answers_of}
use Rattle.caltool_form.proofs.Pieces.{on_err_any}
use Rattle.caltool_form.proofs.run.finish.Goals as goal

pub returns-clause-err : goal.returns-clause-err
returns-clause-err g c =
    let text = answers_of answer_of (last_line c.args.carried.now) in
    on_err_any c.flush.result _
    (length text, subst (Appends _ _) (sym (take_all (length text) text (omega arith))) (Appends-kept _ _ _ _ c.in_ok-answer_last.ensures.ok c.flush.ensures.bytes))
