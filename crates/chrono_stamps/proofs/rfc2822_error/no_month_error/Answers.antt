use Rattle.chrono_stamps.proofs.NameLemmas.{no_month}
use Rattle.chrono_stamps.proofs.rfc2822_error.no_month_error.Goals as goal

pub returns-in-Ok : goal.returns-in-Ok
returns-in-Ok c = absurd (no_month c.args.front.now c.in-Ok.field-0 c.requires.short c.in-Ok.ensures.read c.requires.none)
