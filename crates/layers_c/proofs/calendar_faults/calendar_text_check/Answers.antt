use Rattle.std.proofs.Common.{subst}
use Rattle.zone.specs.Parts.{ZoneParts}
use Rattle.layers_c.specs.Calendars.{MeansNoRecurrence}
use Rattle.layers_c.proofs.calendar_faults.calendar_text_check.Goals as goal

pub returns-in-Some-clause-every : goal.returns-in-Some-clause-every
returns-in-Some-clause-every c = λ z held some.
    absurd (some (subst (λ (y : ZoneParts). MeansNoRecurrence c.args.text.now y) (c.in-Ok.ensures.only z held) c.in-Some.ensures.some))
