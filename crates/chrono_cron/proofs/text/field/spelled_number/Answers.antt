use Rattle.std.proofs.Common.{◌∙◌, sym}
use Rattle.chrono_cron.proofs.FieldTexts.{spelled_digits, spelled_name}
use Rattle.chrono_cron.proofs.text.field.spelled_number.Goals as goal

pub returns-in-Some : goal.returns-in-Some
returns-in-Some c = sym (spelled_digits c.args.names c.args.text.now c.in-Some.number (sym c.read_digits.ensures.value ∙ c.in-Some.is))

pub returns : goal.returns
returns c = c.number_of.ensures ∙ sym (spelled_name c.args.names c.args.text.now (sym c.read_digits.ensures.value ∙ c.in_default.is))
