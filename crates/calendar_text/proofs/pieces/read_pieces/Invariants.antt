-- What was read, with the pieces of the rest behind it, is what all pieces make; and the rest begins at the place.
use Rattle.std.proofs.Common.{◌≡◌, ◌+◌, length}
use Rattle.chrono_text.specs.Lists.{pieces}
use Rattle.calendar_text.specs.Reads.{placed_through}
use Rattle.calendar_text.proofs.pieces.read_pieces.Given as goal

abbrev pub invariant-loop-next : goal.invariant-loop-next
invariant-loop-next g l = record {
  same : placed_through (g.R.PieceReader.step l.reader) l.initial.read 0 (pieces l.separator l.initial.rest) ≡ placed_through (g.R.PieceReader.step l.reader) l.read l.place (pieces l.separator l.rest);
  whole : l.place + length l.rest ≡ length l.initial.rest;
}

abbrev pub decreases-loop-next : goal.decreases-loop-next
decreases-loop-next g l = length l.rest
