use Rattle.std.proofs.Common.{arith}
use Rattle.chrono_datetime.proofs.Signed.{signed}
use Rattle.chrono_rules.proofs.Cycles.{alike-earlier, alike-later}
use Rattle.chrono_rules.proofs.search.periods.like_fourth_of_week.Goals as goal

pub returns-then-day-lt0-clause-ordinal : goal.returns-then-day-lt0-clause-ordinal
returns-then-day-lt0-clause-ordinal c =
    (alike-later _ _ (omega (arith, signed, c.moved.ensures, c.week_first-first.ensures.value, c.num_days_from_ce.ensures.value, c.from-day.ensures))).ordinal

pub returns-then-day-lt0-clause-length : goal.returns-then-day-lt0-clause-length
returns-then-day-lt0-clause-length c =
    (alike-later _ _ (omega (arith, signed, c.moved.ensures, c.week_first-first.ensures.value, c.num_days_from_ce.ensures.value, c.from-day.ensures))).length

pub returns-clause-ordinal : goal.returns-clause-ordinal
returns-clause-ordinal c =
    (alike-earlier _ _ (omega (arith, signed, c.moved-2.ensures, c.week_first-first.ensures.value, c.num_days_from_ce.ensures.value, c.from-day.ensures))).ordinal

pub returns-clause-length : goal.returns-clause-length
returns-clause-length c =
    (alike-earlier _ _ (omega (arith, signed, c.moved-2.ensures, c.week_first-first.ensures.value, c.num_days_from_ce.ensures.value, c.from-day.ensures))).length
