use Rattle.std.proofs.Common.{◌∙◌}
use Rattle.chrono_units.proofs.NamesInFront.{month_in_front}
use Rattle.chrono_units.proofs.names.month_in_front.Goals as goal

pub returns : goal.returns
returns c = λ m e. c.from_letters.ensures ∙ month_in_front c.args.letters m e
