use Rattle.std.proofs.Common.{arith}
use Rattle.chrono_datetime.proofs.Signed.{casts}
use Rattle.chrono_rules.proofs.search.previous_instance.stretch_before.Goals as goal

pub returns-in-Some-clause-before : goal.returns-in-Some-clause-before
returns-in-Some-clause-before c =
    let top = c.num_days_from_ce.ensures in
    let day = c.num_days_from_ce-2.ensures in
    omega (arith, casts, c.in-Some.ensures.moved, c.requires.order, top.value, top.in_range, day.value, day.in_range, c.from.ensures, c.from-2.ensures)
