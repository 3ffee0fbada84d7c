-- How a text is read by the bytes of a pattern.
use Rattle.std.specs.Prelude.{ℕ, ◌-◌, ◌==◌, if◌then◌else◌, List, [], ◌∷◌, length, Some, None, Result, Ok, Err}
use Rattle.chrono_pattern.specs.ItemReads.{item_read}
use Rattle.chrono_pattern.specs.Parts.{no_parts}
use Rattle.chrono_pattern.specs.Progress.{Progress, stopped}
use Rattle.chrono_pattern.specs.PatternSteps.{pattern_step}
use Rattle.chrono_pattern.specs.declared.error.PatternReadError.{PatternReadError}
use Rattle.chrono_pattern.specs.declared.error.ReadFault.TheVariants.{TooLong}
use Rattle.chrono_pattern.specs.declared.item.State.{State}
use Rattle.chrono_pattern.specs.declared.item.State.TheVariants.{Outside}
use Rattle.chrono_pattern.specs.declared.parsed.Parsed.{Parsed}
use Rattle.chrono_pattern.specs.declared.stop.Stop.{Stop}

-- the items of the bytes of a pattern, one after another
unfoldable pub read_from : State → List ℕ → Progress → Result Progress Stop
read_from s [] r = Ok r
read_from s (c ∷ bytes) r = elim (pattern_step s c) [ None ↦ Ok r | Some next ↦ elim (item_read next.1 r) [ Ok q ↦ read_from next.0 bytes q | Err e ↦ Err e ] ]

-- the parts that the front of a text gives and what is behind it, or where a reader stops
abbrev pub front_read : List ℕ → List ℕ → Result Progress Stop
front_read bytes text = read_from Outside bytes (record { rest = text; parsed = no_parts })

-- the parts, if nothing is left of the text
abbrev pub end_read : Result Progress Stop → Result Parsed Stop
end_read (Ok r) = if length r.rest == 0 then Ok r.parsed else Err (stopped TooLong r.rest)
end_read (Err e) = Err e

-- the error of a text by where a reader stopped
abbrev pub read_error : List ℕ → Stop → PatternReadError
read_error text e = record { byte = length text - e.left; cause = e.cause }

-- the parts of a text, or where a reader stops
abbrev pub text_read : List ℕ → List ℕ → Result Parsed Stop
text_read bytes text = end_read (front_read bytes text)
