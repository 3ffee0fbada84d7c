use Rattle.std.proofs.Common.{arith}
use Rattle.std.proofs.lemmas.Bool.Decides.{nat_tests}
use Rattle.chrono_stored.proofs.MonthDay.{month_day-told}
use Rattle.chrono_stored.proofs.month_day.month_day.Goals as goal
use Rattle.chrono_stored.proofs.month_day.month_day.Goals.{then-ordinal-missing, else-ordinal-missing}

pub returns-clause-month : goal.returns-clause-month
returns-clause-month c =
    let told = month_day-told c.args.leap c.args.ordinal c.requires in
    elim c.if-ordinal-missing.branch [ then-ordinal-missing w ↦ grind (arith, nat_tests) | else-ordinal-missing w ↦ grind (arith, nat_tests) ]

pub returns-clause-day : goal.returns-clause-day
returns-clause-day c =
    let told = month_day-told c.args.leap c.args.ordinal c.requires in
    elim c.if-ordinal-missing.branch [ then-ordinal-missing w ↦ grind (arith, nat_tests) | else-ordinal-missing w ↦ grind (arith, nat_tests) ]
