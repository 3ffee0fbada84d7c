use Rattle.std.proofs.Common.{◌≡◌, ◌+◌, arith}
use Rattle.chrono_datetime.specs.Recurrence.{first_date}
use Rattle.chrono_business.specs.OpenDays.{open_days}
use Rattle.chrono_business.proofs.Ranks.{few-from, if-none_from, if-nth_from}
use Rattle.chrono_business.proofs.calendar.Calendar.nth_open_from.Goals as goal

pub returns-then-n-gt-MOST_OPEN_DAYS-clause-none : goal.returns-then-n-gt-MOST_OPEN_DAYS-clause-none
returns-then-n-gt-MOST_OPEN_DAYS-clause-none c =
    few-from c.args.self.now c.args.date c.args.n c.rank.ensures.in_range (omega (arith, c.if-n-gt-MOST_OPEN_DAYS.true))

rank : (c : goal.After-at_rank) → c.from-rank.result + c.args.n ≡ open_days c.args.self.now first_date c.args.date + c.args.n
rank c = omega (arith, c.from-rank.ensures, c.rank.ensures.value)

pub returns-clause-nth : goal.returns-clause-nth
returns-clause-nth c =
    let found = c.at_rank.ensures in
    if-nth_from c.at_rank.result c.args.self.now c.args.date c.args.n (c.from-rank.result + c.args.n) c.rank.ensures.in_range (rank c) found.exists found.passes found.count

pub returns-clause-none : goal.returns-clause-none
returns-clause-none c =
    if-none_from c.at_rank.result c.args.self.now c.args.date c.args.n (c.from-rank.result + c.args.n) c.rank.ensures.in_range (rank c) c.at_rank.ensures.none
