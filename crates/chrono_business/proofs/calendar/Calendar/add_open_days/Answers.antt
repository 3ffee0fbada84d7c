use Rattle.std.proofs.Common.{arith, w64}
use Rattle.std.proofs.lemmas.Int.{to_z-of_z}
use Rattle.chrono_datetime.proofs.Signed.{casts}
use Rattle.chrono_business.proofs.OpenMoves.{if-moved_next, if-moved_previous, if-none_moved_next, if-none_moved_previous}
use Rattle.chrono_business.proofs.calendar.Calendar.add_open_days.Goals as goal

pub returns-then-n-gt0-clause-moved : goal.returns-then-n-gt0-clause-moved
returns-then-n-gt0-clause-moved c =
    if-moved_previous c.add_open_days_from_previous.result c.args.self.now c.args.date c.args.n (omega (arith, casts, c.if-n-gt0.true)) (rw (to_z-of_z w64 c.args.n c.ranges.n) at c.add_open_days_from_previous.ensures.moved)

pub returns-then-n-gt0-clause-none : goal.returns-then-n-gt0-clause-none
returns-then-n-gt0-clause-none c =
    if-none_moved_previous c.add_open_days_from_previous.result c.args.self.now c.args.date c.args.n (omega (arith, casts, c.if-n-gt0.true)) (rw (to_z-of_z w64 c.args.n c.ranges.n) at c.add_open_days_from_previous.ensures.none)

pub returns-else-n-gt0-clause-moved : goal.returns-else-n-gt0-clause-moved
returns-else-n-gt0-clause-moved c =
    if-moved_next c.add_open_days_from_next.result c.args.self.now c.args.date c.args.n (omega (arith, casts, c.if-n-gt0.false)) (rw (to_z-of_z w64 c.args.n c.ranges.n) at c.add_open_days_from_next.ensures.moved)

pub returns-else-n-gt0-clause-none : goal.returns-else-n-gt0-clause-none
returns-else-n-gt0-clause-none c =
    if-none_moved_next c.add_open_days_from_next.result c.args.self.now c.args.date c.args.n (omega (arith, casts, c.if-n-gt0.false)) (rw (to_z-of_z w64 c.args.n c.ranges.n) at c.add_open_days_from_next.ensures.none)
