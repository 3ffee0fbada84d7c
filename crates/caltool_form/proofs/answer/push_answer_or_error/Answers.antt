use Rattle.std.proofs.Common.{ℕ, length, length-append, ap, arith}
use Rattle.caltool_form.proofs.answer.push_answer_or_error.Goals as goal

pub returns-in-None-clause-fits : goal.returns-in-None-clause-fits
returns-in-None-clause-fits g c = omega (arith, length-append {A = ℕ}, ap length c.push_text.ensures)
