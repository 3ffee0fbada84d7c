use Rattle.std.proofs.Common.{◌-◌, arith, sym, ◌∙◌}
use Rattle.chrono_sets.specs.FiniteSets.{with_number}
use Rattle.timed_cron.specs.DialectFields.{span_lists}
use Rattle.timed_cron.proofs.PieceLemmas.{chosen, left_out, listed_step}
use Rattle.timed_cron.proofs.span_set.PlaceSetSpanSet.with_span.Goals as goal
use Rattle.timed_cron.proofs.span_set.PlaceSetSpanSet.with_span.Goals.{then-lists, else-lists}

pub loop-number-preserved : goal.loop-number-preserved
loop-number-preserved c =
    let form = c.args.form in
    let s = c.args.span in
    let n = c.loop-number.number in
    let so_far = c.loop-number.invariant in
    let inside = c.loop-number-test.true in (
      omega (arith, so_far.0),
      omega (arith, inside),
      elim c.if-lists.branch [
        | then-lists w ↦
            so_far.2 ∙ listed_step form s c.loop-number.set c.if-lists.set n (omega (arith, inside))
            (chosen (span_lists form s n) (with_number c.loop-number.set (n - form.base)) c.loop-number.set (sym c.lists.ensures ∙ w.if-lists.true) ∙ sym (w.set-is ∙ w.with-set.ensures))
        | else-lists w ↦
            so_far.2 ∙ listed_step form s c.loop-number.set c.if-lists.set n (omega (arith, inside))
            (left_out (span_lists form s n) (with_number c.loop-number.set (n - form.base)) c.loop-number.set (sym c.lists.ensures ∙ w.if-lists.false) ∙ sym w.set-is)
      ],
    )
