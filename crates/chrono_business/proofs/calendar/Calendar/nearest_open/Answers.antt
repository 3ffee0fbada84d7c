use Rattle.std.proofs.Common.{arith}
use Rattle.chrono_datetime.proofs.Signed.{signed}
use Rattle.chrono_business.proofs.RollLemmas.{nearest-last, nearest-next}
use Rattle.chrono_business.proofs.calendar.Calendar.nearest_open.Goals as goal

pub returns-then-after-number-clause-rolled : goal.returns-then-after-number-clause-rolled
returns-then-after-number-clause-rolled c =
    let n = c.in-Some-next_open.ensures in
    let l = c.in-Some.ensures in
    nearest-next c.args.self.now c.args.date c.in-Some-next_open.next c.in-Some.last
    (record { passes = n.passes; not_before = n.not_before; least = n.least })
    (record { passes = l.passes; not_after = l.not_after; greatest = l.greatest })
    (omega (arith, signed, c.if-after-number.true, c.num_days_from_ce-before.ensures.value, c.num_days_from_ce-after.ensures.value, c.num_days_from_ce-number.ensures.value))

pub returns-else-after-number-clause-rolled : goal.returns-else-after-number-clause-rolled
returns-else-after-number-clause-rolled c =
    let n = c.in-Some-next_open.ensures in
    let l = c.in-Some.ensures in
    nearest-last c.args.self.now c.args.date c.in-Some-next_open.next c.in-Some.last
    (record { passes = n.passes; not_before = n.not_before; least = n.least })
    (record { passes = l.passes; not_after = l.not_after; greatest = l.greatest })
    (omega (arith, signed, c.if-after-number.false, c.num_days_from_ce-before.ensures.value, c.num_days_from_ce-after.ensures.value, c.num_days_from_ce-number.ensures.value))
