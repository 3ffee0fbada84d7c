use Rattle.std.proofs.Common.{◌+◌, ◌++◌, length, take, drop, set, slice_index, ap, sym, ◌∙◌, arith, length-set}
use Rattle.calendar_text.specs.Folds.{is_left_out, unfolded_behind}
use Rattle.calendar_text.proofs.FoldLemmas.{nothing_left, step_over, step_written}
use Rattle.calendar_text.proofs.folds.unfold.Goals as goal
use Rattle.calendar_text.proofs.folds.unfold.Goals.{then-not-is_left_out, else-not-is_left_out}

pub loop-at-preserved : goal.loop-at-preserved
loop-at-preserved c =
    let text = c.args.text.now in
    let at = c.loop-at.at in
    let known = c.is_left_out.ensures ∙ ap (is_left_out c.loop-at.before (slice_index text at)) c.byte_at.ensures in
    let rest = unfolded_behind (slice_index text at) (drop (at + 1) text) in
    elim c.if-not-is_left_out.branch [
      | then-not-is_left_out w ↦
          let written = step_written text c.loop-at.buffer at c.loop-at.len c.loop-at.before (omega arith) (omega arith) (sym known ∙ w.if-not-is_left_out.true) in
          record {
            within = omega arith;
            fewer = omega (arith, w.len-is);
            size = ap length w.buffer-is ∙ length-set _ _ _ ∙ c.loop-at.invariant.size;
            same = ap (λ b. take c.if-not-is_left_out.len b ++ rest) w.buffer-is ∙ ap (λ n. take n (set c.loop-at.buffer c.loop-at.len (slice_index text at)) ++ rest) w.len-is ∙ written ∙ c.loop-at.invariant.same;
          }
      | else-not-is_left_out w ↦
          let over = step_over text at c.loop-at.before (omega arith) (sym known ∙ w.if-not-is_left_out.false) in
          record {
            within = omega arith;
            fewer = omega (arith, w.len-is);
            size = ap length w.buffer-is ∙ c.loop-at.invariant.size;
            same = ap (λ b. take c.if-not-is_left_out.len b ++ rest) w.buffer-is ∙ ap (λ n. take n c.loop-at.buffer ++ rest) w.len-is ∙ ap (λ t. take c.loop-at.len c.loop-at.buffer ++ t) (sym over) ∙ c.loop-at.invariant.same;
          }
    ]

pub returns-clause-text : goal.returns-clause-text
returns-clause-text c =
    sym (nothing_left c.args.text.now _ c.loop-at.at c.loop-at.before (omega (arith, c.loop-at-test.false))) ∙ c.loop-at.invariant.same
