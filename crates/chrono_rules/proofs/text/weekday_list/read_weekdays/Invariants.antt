-- The days so far, with those of the rest, are those of the text.
use Rattle.std.proofs.Common.{◌≡◌, length}
use Rattle.chrono_text.specs.Lists.{pieces, through}
use Rattle.chrono_rules.specs.NumberLists.{with_weekday_text}
use Rattle.chrono_rules.proofs.text.weekday_list.read_weekdays.Given as goal

abbrev pub invariant-loop-days : goal.invariant-loop-days
invariant-loop-days l = through with_weekday_text l.initial.days (pieces 44 l.initial.rest) ≡ through with_weekday_text l.days (pieces 44 l.rest)

abbrev pub decreases-loop-days : goal.decreases-loop-days
decreases-loop-days l = length l.rest
