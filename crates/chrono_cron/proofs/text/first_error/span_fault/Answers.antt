use Rattle.std.proofs.Common.{◌∙◌, ◌+◌, ap, sym, arith}
use Rattle.std.specs.Prelude.{is_some}
use Rattle.chrono_cron.specs.ScheduleErrors.{last_fault}
use Rattle.chrono_cron.proofs.FieldFaults.{span_alone, span_end, span_unread}
use Rattle.chrono_cron.proofs.text.first_error.span_fault.Goals as goal

pub returns-then-len-text-clause-value : goal.returns-then-len-text-clause-value
returns-then-len-text-clause-value c =
    ap (λ fault. (0, fault)) c.field_number_fault.ensures
    ∙ span_alone c.args.names c.args.low c.args.high c.byte_place-len.result c.args.text.now c.byte_place-len.ensures.place c.if-len-text.true

pub returns-in_default-clause-value : goal.returns-in_default-clause-value
returns-in_default-clause-value c =
    ap (λ fault. (0, fault)) c.field_number_fault.ensures
    ∙ span_unread c.args.names c.args.low c.args.high c.byte_place-len.result c.args.text.now c.byte_place-len.ensures.place (omega arith) (ap is_some (sym c.read_number.ensures.number ∙ c.in_default.is))

pub returns-clause-value : goal.returns-clause-value
returns-clause-value c =
    let len = c.byte_place-len.result in
    ap (λ fault. (len + 1, fault)) (c.last_fault.ensures ∙ ap (last_fault c.args.names c.args.low c.args.high) c.text_behind-last.ensures)
    ∙ span_end c.args.names c.args.low c.args.high len c.args.text.now c.byte_place-len.ensures.place (omega arith) (ap is_some (sym c.read_number.ensures.number ∙ c.in-Some.is))
