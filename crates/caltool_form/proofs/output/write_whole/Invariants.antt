-- The first `at` bytes were appended.
use Rattle.std.proofs.Common.{◌≡◌, ◌≤◌, ◌-◌, length, take}
use Rattle.std.specs.Io.KnownBytes.{Appends}
use Rattle.caltool_form.specs.declared.watch.Mark.TheVariants.{Open}
use Rattle.caltool_form.proofs.output.write_whole.Given as goal

abbrev pub invariant-loop-at : goal.invariant-loop-at
invariant-loop-at g l = record {
  within : l.at ≤ length l.bytes;
  wrote : Appends (g.W.Write.contents l.initial.w.inner.now) (g.W.Write.contents l.w.inner.now) (take l.at l.bytes);
  writable : l.w.mark ≡ Open;
  same : l.w.inner.ghost_name ≡ l.initial.w.inner.ghost_name;
}

abbrev pub decreases-loop-at : goal.decreases-loop-at
decreases-loop-at g l = length l.bytes - l.at
