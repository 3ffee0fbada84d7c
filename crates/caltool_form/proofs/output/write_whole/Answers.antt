use Rattle.std.proofs.Common.{◌≡◌, ◌+◌, ◌-◌, ◌++◌, length, take, drop, refl, subst, rules}
use Rattle.std.proofs.Math.Seq.{take-add}
use Rattle.std.proofs.lemmas.List.{take_rest}
use Rattle.std.proofs.KnownBytes.{Appends-trans}
use Rattle.std.specs.Io.KnownBytes.{Appends}
use Rattle.caltool_form.proofs.output.write_whole.Goals as goal

pub loop-at-preserved : goal.loop-at-preserved
loop-at-preserved g c =
    let at = c.loop-at.at in
    let n = c.in_ok-n.n in
    let bytes = c.args.bytes.now in
    let more : take at bytes ++ take n (take (length bytes - at) (drop at bytes)) ≡ take (at + n) bytes = rw (take_rest bytes at, take-add at n bytes) refl in
    record {
      within = search rules;
      wrote = subst (Appends _ _) more (Appends-trans _ _ _ _ _ c.loop-at.invariant.wrote c.in_ok-n.ensures.bytes);
      writable = search rules;
      same = search rules;
    }
