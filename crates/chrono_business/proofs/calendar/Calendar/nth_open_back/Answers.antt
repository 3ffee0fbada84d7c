use Rattle.std.proofs.Common.{◌≡◌, ◌+◌, ◌-◌, arith, pos, ◌+ℤ◌}
use Rattle.chrono_datetime.specs.Recurrence.{first_date}
use Rattle.chrono_business.specs.OpenDays.{open_days}
use Rattle.chrono_business.proofs.Ranks.{if-none_back, if-nth_back}
use Rattle.chrono_business.proofs.calendar.Calendar.nth_open_back.Goals as goal

rank : (c : goal.After-at_rank) → (c.from-rank.result - 1 - c.args.n) + c.args.n + 1 ≡ open_days c.args.self.now first_date (c.args.date +ℤ pos 1)
rank c = omega (arith, c.from-rank.ensures, c.rank_behind.ensures.value, c.if-rank-n.false)

pub returns-clause-nth : goal.returns-clause-nth
returns-clause-nth c =
    let found = c.at_rank.ensures in
    if-nth_back c.at_rank.result c.args.self.now c.args.date c.args.n (c.from-rank.result - 1 - c.args.n) c.rank_behind.ensures.in_range (rank c) found.exists found.passes found.count

pub returns-clause-none : goal.returns-clause-none
returns-clause-none c =
    if-none_back c.at_rank.result c.args.self.now c.args.date c.args.n (c.from-rank.result - 1 - c.args.n) c.rank_behind.ensures.in_range (rank c) c.at_rank.ensures.none
