use Rattle.std.proofs.Common.{◌∙◌, refl}
use Rattle.layers_c.proofs.schedule_texts.calendar_schedule_read.Goals as goal

pub returns-in-Ok-clause-every : goal.returns-in-Ok-clause-every
returns-in-Ok-clause-every c = λ s written. (refl, c.numbers_of.ensures ∙ c.in-Ok.ensures.sets s written)

pub returns-in-Err-clause-every : goal.returns-in-Err-clause-every
returns-in-Err-clause-every c = λ s written. let none = c.in-Err.ensures.every s written in absurd cc
