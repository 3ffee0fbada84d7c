use Rattle.std.proofs.Common.{ℕ, ◌<◌, get_or, pos}
use Rattle.chrono_datetime.specs.Days.{IsDate}
use Rattle.layers_c.proofs.holidays.first_no_date.Given as goal

abbrev pub invariant-loop-place : goal.invariant-loop-place
invariant-loop-place l = (k : ℕ) → k < l.place → IsDate (get_or l.numbers k (pos 0))
