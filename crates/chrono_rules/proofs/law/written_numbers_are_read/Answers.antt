use Rattle.std.proofs.Common.{arith}
use Rattle.chrono_rules.proofs.ListsBack.{ends_back, months_back}
use Rattle.chrono_rules.proofs.law.written_numbers_are_read.Goals as goal

pub returns-clause-months : goal.returns-clause-months
returns-clause-months c = months_back c.args.front

pub returns-clause-month_days : goal.returns-clause-month_days
returns-clause-month_days c = ends_back 31 c.args.front c.args.back (omega arith)

pub returns-clause-weeks : goal.returns-clause-weeks
returns-clause-weeks c = ends_back 53 c.args.front c.args.back (omega arith)
