-- What is written so far, what waits to be written, and the text of the pattern that is left, are the text.
use denote.Shadow.{shadow}
use denote.Text.{Utf8}
use Rattle.std.proofs.Common.{◌≡◌, List, ℕ, ◌++◌, length}
use Rattle.std.specs.Fmt.{HasWritten, HasWrittenStyled, IsFlush, IsPlainFormatter}
use Rattle.std.specs.Str.{IsAscii}
use Rattle.chrono_pattern.specs.Patterns.{text_from}
use Rattle.chrono_pattern.specs.declared.item.State.TheVariants.{Outside}
use Rattle.chrono_pattern.proofs.delayed_format.write_items.Given as goal

abbrev pub invariant-loop-piece : goal.invariant-loop-piece
invariant-loop-piece g l =
    (done : List ℕ)
    × (IsPlainFormatter l.initial.f → HasWritten g.W.Write.write_str_gives l.initial.f done l.f)
    × (IsFlush l.initial.f → HasWrittenStyled g.W.Write.write_str_gives l.initial.f done l.f)
    × ((done ++ l.piece) ++ text_from Outside l.rest l.fn.moment l.fn.offset ≡ text_from Outside l.initial.rest l.fn.moment l.fn.offset)
    × IsAscii l.piece
    × shadow (Utf8 l.rest)

abbrev pub decreases-loop-piece : goal.decreases-loop-piece
decreases-loop-piece g l = length l.rest
