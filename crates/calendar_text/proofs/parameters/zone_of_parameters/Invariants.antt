-- No parameter so far names a zone.
use Rattle.std.proofs.Common.{◌≡◌, length}
use Rattle.std.specs.Str.{byte}
use Rattle.chrono_text.specs.Lists.{pieces}
use Rattle.calendar_text.specs.Lines.{zone_of_parameters}
use Rattle.calendar_text.proofs.parameters.zone_of_parameters.Given as goal

abbrev pub invariant-loop-name : goal.invariant-loop-name
invariant-loop-name l = zone_of_parameters (pieces (byte ";") l.initial.rest) ≡ zone_of_parameters (pieces (byte ";") l.rest)

abbrev pub decreases-loop-name : goal.decreases-loop-name
decreases-loop-name l = length l.rest
