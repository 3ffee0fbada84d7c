use Rattle.std.proofs.Common.{◌≡◌, ◌+◌, ◌++◌, length, take, drop, slice_index, ap, sym, ◌∙◌, arith, append_assoc, length-append}
use Rattle.calendar_text.specs.Folds.{column_behind, folded_behind, folded_byte}
use Rattle.calendar_text.proofs.FoldBack.{fold_end, fold_step}
use Rattle.calendar_text.proofs.folds.fold.Goals as goal

pub returns-in_err-len-clause-none : goal.returns-in_err-len-clause-none
returns-in_err-len-clause-none c =
    let text = c.args.text.now in
    let at = c.loop-at.at in
    let column = c.loop-at.column in
    let b = slice_index text at in
    let front = folded_byte column b in
    let rest = folded_behind (column_behind column b) (drop (at + 1) text) in
    let size : length (folded_behind column (drop at text)) ≡ length front + length rest = ap length (fold_step text at column (omega arith)) ∙ length-append front rest in
    rw c.from_residual.ensures (omega (arith, size, c.in_err-len.ensures.none, c.loop-at.invariant.count, c.loop-at.invariant.size))

pub loop-at-preserved : goal.loop-at-preserved
loop-at-preserved c =
    let text = c.args.text.now in
    let at = c.loop-at.at in
    let column = c.loop-at.column in
    let b = slice_index text at in
    let front = folded_byte column b in
    let step = fold_step text at column (omega arith) in
    let rest = folded_behind (column_behind column b) (drop (at + 1) text) in
    let size : length (folded_behind column (drop at text)) ≡ length front + length rest = ap length step ∙ length-append front rest in
    let now = ap (λ k. folded_behind k (drop (at + 1) text)) c.column_behind-column.ensures.value in
    let put = c.in_ok-len.ensures.put in
    let counted = ap length now in
    record {
      within = omega arith;
      room = put.within;
      few = c.column_behind-column.ensures.small;
      size = c.put_folded.ensures.length ∙ c.loop-at.invariant.size;
      count = omega (arith, counted, size, put.end, c.loop-at.invariant.count);
      same = ap (λ r. take c.in_ok-len.len c.put_folded.new.buffer ++ r) now ∙ ap (λ f. f ++ rest) put.text
          ∙ append_assoc (take c.loop-at.len c.loop-at.buffer) front rest ∙ ap (λ r. take c.loop-at.len c.loop-at.buffer ++ r) (sym step) ∙ c.loop-at.invariant.same;
    }

pub returns-clause-text : goal.returns-clause-text
returns-clause-text c =
    sym (fold_end c.args.text.now (take c.loop-at.len c.loop-at.buffer) c.loop-at.at c.loop-at.column (omega (arith, c.loop-at-test.false))) ∙ c.loop-at.invariant.same
