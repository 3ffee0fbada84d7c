-- The set so far, with the numbers that are left, is the whole.
use Rattle.std.proofs.Common.{◌≡◌, ◌+◌, ◌-◌, ◌≤◌}
use Rattle.timed_cron.specs.DialectFields.{field_size, with_listed}
use Rattle.timed_cron.proofs.span_set.PlaceSetSpanSet.with_span.Given as goal

abbrev pub invariant-loop-number : goal.invariant-loop-number
invariant-loop-number l =
    (l.fn.form.low ≤ l.number) × (l.number ≤ l.fn.form.high + 1)
    × (with_listed l.fn.form l.fn.span l.fn.self l.fn.form.low (field_size l.fn.form) ≡ with_listed l.fn.form l.fn.span l.set l.number (l.fn.form.high + 1 - l.number))

abbrev pub decreases-loop-number : goal.decreases-loop-number
decreases-loop-number l = l.fn.form.high + 1 - l.number
