use Rattle.std.proofs.Common.{◌∙◌}
use Rattle.chrono_units.proofs.NamesInFront.{weekday_in_front}
use Rattle.chrono_units.proofs.names.weekday_in_front.Goals as goal

pub returns : goal.returns
returns c = λ d e. c.from_letters.ensures ∙ weekday_in_front c.args.letters d e
