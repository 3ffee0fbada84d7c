use Rattle.std.proofs.Common.{◌∙◌, sym}
use Rattle.chrono_cron.proofs.FieldTexts.{span_number, span_range}
use Rattle.chrono_cron.proofs.text.field.read_span.Goals as goal

pub returns-in-Some-clause-span : goal.returns-in-Some-clause-span
returns-in-Some-clause-span c = sym (span_number c.args.names c.args.low c.args.high c.in-Some.number c.args.text.now (sym c.read_number.ensures.number ∙ c.in-Some.is))

pub returns-clause-span : goal.returns-clause-span
returns-clause-span c = c.read_range.ensures.range ∙ sym (span_range c.args.names c.args.low c.args.high c.args.text.now (sym c.read_number.ensures.number ∙ c.in_default.is))
