use Rattle.std.proofs.Common.{arith}
use Rattle.std.proofs.lemmas.Bool.Decides.{nat_tests}
use Rattle.chrono_stored.proofs.MonthDay.{days_of_months_in-told}
use Rattle.chrono_stored.proofs.month_day.days_before_month.Goals as goal

pub returns-then-month-gt2 : goal.returns-then-month-gt2
returns-then-month-gt2 c =
    let told = days_of_months_in-told c.args.leap c.args.month c.requires in grind (arith, nat_tests)

pub returns-else-month-gt2 : goal.returns-else-month-gt2
returns-else-month-gt2 c =
    let told = days_of_months_in-told c.args.leap c.args.month c.requires in grind (arith, nat_tests)
