-- The piece up to `rest` is answered.
use Rattle.std.proofs.Common.{◌≡◌, length}
use Rattle.caltool_form.specs.declared.watch.Mark.TheVariants.{Open}
use Rattle.caltool_form.proofs.Progress.{Progress}
use Rattle.caltool_form.proofs.run.answer_piece.Given as goal

abbrev pub invariant-loop-line : goal.invariant-loop-line
invariant-loop-line g l = record {
  answered : Progress (g.W.Write.contents l.fn.w.inner.now) (g.W.Write.contents l.w.inner.now) l.carried l.out l.fn.carried l.fn.piece l.rest;
  writable : l.w.mark ≡ Open;
  same : l.w.inner.ghost_name ≡ l.fn.w.inner.ghost_name;
}

abbrev pub decreases-loop-line : goal.decreases-loop-line
decreases-loop-line g l = length l.rest
