use Rattle.std.proofs.Common.{◌+◌, drop, slice_index, ap, sym, ◌∙◌, arith, eq-eqb, ne_eqb}
use Rattle.calendar_text.specs.Folds.{is_left_out, place_behind}
use Rattle.calendar_text.proofs.FoldLemmas.{place_end, place_here, place_kept, place_over}
use Rattle.calendar_text.proofs.folds.folded_place.Goals as goal
use Rattle.calendar_text.proofs.folds.folded_place.Goals.{then-not-is_left_out+else-left-eq0, else-not-is_left_out}

pub returns-then-left-eq0-clause-place : goal.returns-then-left-eq0-clause-place
returns-then-left-eq0-clause-place c =
    let text = c.args.text.now in
    let at = c.loop-at.at in
    let known = c.is_left_out.ensures ∙ ap (is_left_out c.loop-at.before (slice_index text at)) c.byte_at.ensures in
    let here = place_here text at c.loop-at.before c.loop-at.left (omega arith) (sym known ∙ c.if-not-is_left_out.true) (eq-eqb c.loop-at.left 0 c.if-left-eq0.true) in
    omega (arith, here, c.loop-at.invariant.same)

pub loop-at-preserved : goal.loop-at-preserved
loop-at-preserved c =
    let text = c.args.text.now in
    let at = c.loop-at.at in
    let known = c.is_left_out.ensures ∙ ap (is_left_out c.loop-at.before (slice_index text at)) c.byte_at.ensures in
    elim c.if-not-is_left_out.branch [
      | then-not-is_left_out+else-left-eq0 w ↦
          let kept = place_kept text at c.loop-at.before c.loop-at.left (omega arith) (sym known ∙ w.if-not-is_left_out.true) (ne_eqb c.loop-at.left 0 w.if-left-eq0.false) in
          let left = ap (place_behind (slice_index text at) (drop (at + 1) text)) w.left-is in
          record { within = omega arith; same = omega (arith, kept, left, c.loop-at.invariant.same) }
      | else-not-is_left_out w ↦
          let over = place_over text at c.loop-at.before c.loop-at.left (omega arith) (sym known ∙ w.if-not-is_left_out.false) in
          let left = ap (place_behind (slice_index text at) (drop (at + 1) text)) w.left-is in
          record { within = omega arith; same = omega (arith, over, left, c.loop-at.invariant.same) }
    ]

pub returns-clause-place : goal.returns-clause-place
returns-clause-place c =
    let end = place_end c.args.text.now c.loop-at.at c.loop-at.before c.loop-at.left (omega (arith, c.loop-at-test.false)) in
    omega (arith, end, c.loop-at.invariant.same)
