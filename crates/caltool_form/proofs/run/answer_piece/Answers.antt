use Rattle.std.proofs.Common.{rules}
use Rattle.std.proofs.lemmas.Result.{on_ok_weaker, on_err_weaker}
use Rattle.caltool_form.proofs.Pieces.{on_err_any}
use Rattle.caltool_form.proofs.Progress.{progress_start, progress_more, progress_end, progress_fault, progress_left}
use Rattle.caltool_form.proofs.run.answer_piece.Goals as goal

pub loop-line-init : goal.loop-line-init
loop-line-init g c = record { answered = progress_start _ _ _ _ c.requires.nothing; writable = search rules; same = search rules }

pub returns-in_err-make_room-clause-err : goal.returns-in_err-make_room-clause-err
returns-in_err-make_room-clause-err g c = on_err_any c.from_residual.result _
    (progress_fault _ _ _ _ _ _ _ _ c.loop-line.invariant.answered c.in_err-make_room.ensures.err)

pub loop-line-preserved : goal.loop-line-preserved
loop-line-preserved g c =
    let (done, wrote, parts) = c.in_ok-make_room.ensures.ok in
    record {
      answered =
          progress_more _ _ _ _ _ _ _ _ _ _ c.in-Some.line c.in-Some.after.now done _ c.loop-line.invariant.answered
          c.in-Some.ensures.some c.in-Some.ensures.first wrote parts c.answer_carried.ensures.nothing c.answer_carried.ensures.answer;
      writable = search rules;
      same = search rules;
    }

pub returns-clause-ok : goal.returns-clause-ok
returns-clause-ok g c = on_ok_weaker c.send.result (λ wrote.
    progress_end _ _ _ _ _ _ _ _ c.loop-line.invariant.answered c.in_default.ensures.none wrote) c.send.ensures.ok

pub returns-clause-carries : goal.returns-clause-carries
returns-clause-carries g c = on_ok_weaker c.send.result (λ wrote.
    progress_left _ _ _ _ _ _ _ _ c.loop-line.invariant.answered c.in_default.ensures.none c.push_clipped.ensures) c.send.ensures.ok

pub returns-clause-err : goal.returns-clause-err
returns-clause-err g c = on_err_weaker c.send.result (λ part.
    progress_fault _ _ _ _ _ _ _ _ c.loop-line.invariant.answered part) c.send.ensures.err
