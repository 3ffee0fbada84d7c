-- Each line that a newline ends among the bytes read is answered, and the last piece is carried.
use Rattle.std.proofs.Common.{◌≡◌, ◌-◌, ◌^◌, []}
use Rattle.caltool_form.specs.declared.watch.Mark.TheVariants.{Open}
use Rattle.caltool_form.proofs.Progress.{Ran}
use Rattle.caltool_form.proofs.run.answer_watched.Given as goal

abbrev pub invariant-loop-piece : goal.invariant-loop-piece
invariant-loop-piece g l = record {
  nothing : l.out ≡ [];
  ran : Ran (g.R.Read.remaining l.fn.r.inner.now) (g.R.Read.remaining l.r.inner.now) (g.W.Write.contents l.fn.w.inner.now) (g.W.Write.contents l.w.inner.now) l.carried;
  reader : l.r.mark ≡ Open;
  writer : l.w.mark ≡ Open;
  same_reader : l.r.inner.ghost_name ≡ l.fn.r.inner.ghost_name;
  same_writer : l.w.inner.ghost_name ≡ l.fn.w.inner.ghost_name;
}

abbrev pub decreases-loop-piece : goal.decreases-loop-piece
decreases-loop-piece g l = 2 ^ 64 - 1 - l.r.reads
