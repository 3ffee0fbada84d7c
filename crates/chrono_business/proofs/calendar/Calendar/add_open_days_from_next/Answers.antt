use Rattle.std.proofs.Common.{◌≡◌, arith, pos, w64, to_z, of_z}
use Rattle.std.proofs.lemmas.Int.{to_z-of_z}
use Rattle.chrono_datetime.specs.Recurrence.{first_date}
use Rattle.chrono_datetime.proofs.Signed.{casts}
use Rattle.chrono_business.specs.OpenDays.{open_days}
use Rattle.chrono_business.proofs.OpenMoves.{if-from_next, if-none_from_next}
use Rattle.chrono_business.proofs.calendar.Calendar.add_open_days_from_next.Goals as goal

-- the rank as the call takes it
rank : (c : goal.After-at_rank_from) → to_z w64 (of_z w64 c.from.result) ≡ pos (open_days c.args.self.now first_date c.args.date)
rank c = omega (arith, casts, c.from.ensures, c.rank.ensures.value, c.rank.ensures.few)

pub returns-clause-moved : goal.returns-clause-moved
returns-clause-moved c =
    let found = c.at_rank_from.ensures in
    if-from_next c.at_rank_from.result c.args.self.now c.args.date c.args.n (to_z w64 (of_z w64 c.from.result)) c.rank.ensures.in_range (rank c) found.exists found.passes (rw (to_z-of_z w64 c.args.n c.ranges.n) at found.count)

pub returns-clause-none : goal.returns-clause-none
returns-clause-none c =
    if-none_from_next c.at_rank_from.result c.args.self.now c.args.date c.args.n (to_z w64 (of_z w64 c.from.result)) c.rank.ensures.in_range (rank c) (rw (to_z-of_z w64 c.args.n c.ranges.n) at c.at_rank_from.ensures.none)
