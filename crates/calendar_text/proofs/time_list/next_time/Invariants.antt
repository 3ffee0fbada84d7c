-- The times that are left are those at the beginning.
use Rattle.std.proofs.Common.{◌≡◌, ◌+◌}
use Rattle.calendar_text.specs.Lines.{text_in}
use Rattle.calendar_text.specs.TimeLists.{size_left, times_left}
use Rattle.calendar_text.proofs.time_list.next_time.Given as goal

abbrev pub invariant-loop-values : goal.invariant-loop-values
invariant-loop-values l = times_left l.property (text_in l.initial.values) (text_in l.initial.text) ≡ times_left l.property (text_in l.values) (text_in l.text)

abbrev pub decreases-loop-values : goal.decreases-loop-values
decreases-loop-values l = size_left (text_in l.values) + size_left (text_in l.text)
