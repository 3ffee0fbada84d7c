use Rattle.std.proofs.Common.{◌∙◌, ◌+◌, ap, sym, arith, length, length-drop}
use Rattle.chrono_cron.specs.ScheduleErrors.{field_fault}
use Rattle.chrono_cron.proofs.FieldFaults.{field_last, field_passed, field_stopped}
use Rattle.chrono_cron.proofs.text.first_error.field_fault.Goals as goal

pub returns-then-not-has_item-clause-value : goal.returns-then-not-has_item-clause-value
returns-then-not-has_item-clause-value c =
    c.fault_in.ensures.value
    ∙ (field_stopped c.args.field c.loop-len.place c.loop-len.len c.loop-len.rest.now c.loop-len.invariant.at (omega (arith, c.loop-len-test.true)) (sym c.has_item.ensures ∙ c.if-not-has_item.true)
    ∙ sym c.loop-len.invariant.same)

pub loop-len-preserved : goal.loop-len-preserved
loop-len-preserved c = record {
  at = c.byte_place-len-in-loop-len.ensures.place;
  within = c.byte_place-len-in-loop-len.ensures.within;
  end = omega (arith, c.loop-len.invariant.end, c.loop-len-test.true, ap length c.text_behind-rest.ensures, length-drop (c.loop-len.len + 1) c.loop-len.rest.now);
  same = c.loop-len.invariant.same
      ∙ (field_passed c.args.field c.loop-len.place c.loop-len.len c.loop-len.rest.now c.loop-len.invariant.at (omega (arith, c.loop-len-test.true)) (sym c.has_item.ensures ∙ c.if-not-has_item.false)
      ∙ ap (λ text. field_fault c.args.field (c.loop-len.place + (c.loop-len.len + 1), text)) (sym c.text_behind-rest.ensures));
}

pub returns-clause-value : goal.returns-clause-value
returns-clause-value c =
    c.fault_in-2.ensures.value
    ∙ (field_last c.args.field c.loop-len.place c.loop-len.len c.loop-len.rest.now c.loop-len.invariant.at (omega (arith, c.loop-len-test.false)) ∙ sym c.loop-len.invariant.same)
