use Rattle.std.proofs.Common.{◌∙◌, ◌+◌, ap, sym, arith}
use Rattle.std.specs.Prelude.{is_some}
use Rattle.chrono_cron.specs.ScheduleErrors.{step_fault}
use Rattle.chrono_cron.proofs.FieldFaults.{item_alone, item_stepped, nothing_stepped, number_stepped}
use Rattle.chrono_cron.proofs.text.first_error.field_item_fault.Goals as goal

pub returns-then-len-text-clause-value : goal.returns-then-len-text-clause-value
returns-then-len-text-clause-value c =
    c.span_fault.ensures.value ∙ item_alone c.args.names c.args.low c.args.high c.byte_place-len.result c.args.text.now c.byte_place-len.ensures.place c.if-len-text.true

pub returns-then-is_some-clause-value : goal.returns-then-is_some-clause-value
returns-then-is_some-clause-value c =
    let len = c.byte_place-len.result in
    let range = ap is_some (sym c.read_range.ensures.range) ∙ (sym c.is_some.ensures ∙ c.if-is_some.true) in
    ap (λ fault. (len + 1, fault)) (c.step_fault.ensures ∙ ap step_fault c.text_behind.ensures)
    ∙ item_stepped c.args.names c.args.low c.args.high len c.args.text.now c.byte_place-len.ensures.place (omega arith) range

pub returns-then-is_some-2-clause-value : goal.returns-then-is_some-2-clause-value
returns-then-is_some-2-clause-value c =
    let range = ap is_some (sym c.read_range.ensures.range) ∙ (sym c.is_some.ensures ∙ c.if-is_some.false) in
    let number = ap is_some (sym c.read_number.ensures.number) ∙ (sym c.is_some-2.ensures ∙ c.if-is_some-2.true) in
    number_stepped c.args.names c.args.low c.args.high c.byte_place-len.result c.args.text.now c.byte_place-len.ensures.place (omega arith) range number

pub returns-clause-value : goal.returns-clause-value
returns-clause-value c =
    let range = ap is_some (sym c.read_range.ensures.range) ∙ (sym c.is_some.ensures ∙ c.if-is_some.false) in
    let number = ap is_some (sym c.read_number.ensures.number) ∙ (sym c.is_some-2.ensures ∙ c.if-is_some-2.false) in
    c.span_fault-2.ensures.value
    ∙ nothing_stepped c.args.names c.args.low c.args.high c.byte_place-len.result c.args.text.now c.byte_place-len.ensures.place (omega arith) range number
