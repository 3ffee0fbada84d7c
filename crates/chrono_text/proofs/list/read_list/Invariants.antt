-- The list so far, with the items of the rest, is that of the text.
use Rattle.std.proofs.Common.{◌≡◌, length}
use Rattle.chrono_text.specs.Lists.{pieces, through}
use Rattle.chrono_text.proofs.list.read_list.Given as goal

abbrev pub invariant-loop-item : goal.invariant-loop-item
invariant-loop-item g l =
    through (g.R.ItemReader.step l.reader) l.initial.list (pieces l.separator l.initial.rest) ≡ through (g.R.ItemReader.step l.reader) l.list (pieces l.separator l.rest)

abbrev pub decreases-loop-item : goal.decreases-loop-item
decreases-loop-item g l = length l.rest
