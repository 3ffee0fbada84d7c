use Rattle.calendar_text.specs.TextParts.{parts_read}
use Rattle.layers_c.proofs.calendar_faults.calendar_text_zone.Goals as goal

pub returns-in-Ok-clause-no_text : goal.returns-in-Ok-clause-no_text
returns-in-Ok-clause-no_text c = λ none. absurd (none (parts_read c.in-Ok.calendar) c.in-Ok.ensures.read)
