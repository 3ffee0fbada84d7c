use Rattle.std.proofs.Common.{◌≡◌, arith}
use Rattle.chrono_datetime.specs.Weekday.{days_since}
use Rattle.chrono_datetime.specs.Weeks.{weekday_of}
use Rattle.chrono_datetime.proofs.Signed.{casts}
use Rattle.chrono_rules.proofs.PeriodsLeftOut.{week-period, year-period}
use Rattle.chrono_rules.proofs.rule.Rule.days_to_period.Goals as goal

pub returns-in-Weekly-clause-earlier : goal.returns-in-Weekly-clause-earlier
returns-in-Weekly-clause-earlier c = λ d low high.
    let since : c.days_since.result ≡ days_since (weekday_of c.args.day) c.args.self.now.week_start = rw c.weekday.ensures.value at c.days_since.ensures in
    week-period c.args.self.now.frequency c.args.self.now.week_start c.args.day d c.args.periods c.in-Weekly.is low
    (omega (arith, casts, high, since, c.from.ensures, c.requires.some, c.requires.few))

pub returns-in-Yearly-clause-earlier : goal.returns-in-Yearly-clause-earlier
returns-in-Yearly-clause-earlier c = λ d low high.
    year-period c.args.self.now.frequency c.args.self.now.week_start c.args.day d c.args.periods c.in-Yearly.is
    (omega (arith, casts, c.days_to_month-in-Yearly.ensures.earlier d low (omega (arith, casts, high)), c.month.ensures.value, c.month.ensures.in_range, c.from-in-Yearly.ensures, c.requires.some, c.requires.few))
