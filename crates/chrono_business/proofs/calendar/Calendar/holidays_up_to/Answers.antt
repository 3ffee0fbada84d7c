use Rattle.std.proofs.Common.{◌+◌, ◌-◌, ◌/◌, ◌<◌, length, subst, arith}
use Rattle.chrono_business.specs.OpenDays.{AreHolidays, Closed}
use Rattle.chrono_business.proofs.Ranks.{at_most_all_dates, rank-rises}
use Rattle.chrono_business.proofs.calendar.Calendar.holidays_up_to.Goals as goal
use Rattle.chrono_business.proofs.calendar.Calendar.holidays_up_to.Goals.{then-is_behind, else-is_behind}

abbrev IsCalendar : Closed → Type 0
IsCalendar v = AreHolidays v.weekend v.holidays

pub loop-left-preserved : goal.loop-left-preserved
loop-left-preserved c =
    let now = c.args.self.now in
    let inv = c.loop-left.invariant in
    let left = c.loop-left.left in
    let m = c.loop-left.place + (left - left / 2) - 1 in
    let are = subst IsCalendar c.self.view_is c.self.invariant in
    let within : m < length now.holidays = omega (arith, inv.within, c.loop-left-test.true) in
    record {
      within = elim c.if-is_behind.branch [
        | then-is_behind w ↦ omega (arith, w.place-is, inv.within)
        | else-is_behind w ↦ omega (arith, w.place-is, inv.within)
      ];
      behind = elim c.if-is_behind.branch [
        | then-is_behind w ↦ λ k d low high. omega (arith, c.rank_of_holiday.ensures d, rank-rises now d k m are (omega (arith, w.place-is, high, c.loop-left-test.true)) within, w.if-is_behind.true)
        | else-is_behind w ↦ λ k d low high. inv.behind k d low (omega (arith, w.place-is, high))
      ];
      ahead = elim c.if-is_behind.branch [
        | then-is_behind w ↦ λ k d low high. inv.ahead k d (omega (arith, w.place-is, low, c.loop-left-test.true)) high
        | else-is_behind w ↦ λ k d low high. omega (arith, c.rank_of_holiday.ensures d, rank-rises now d m k are (omega (arith, w.place-is, low, c.loop-left-test.true)) high, w.if-is_behind.false)
      ];
    }

pub returns-clause-few : goal.returns-clause-few
returns-clause-few c =
    at_most_all_dates c.args.self.now c.loop-left.place (subst IsCalendar c.self.view_is c.self.invariant) (omega (arith, c.loop-left.invariant.within))
