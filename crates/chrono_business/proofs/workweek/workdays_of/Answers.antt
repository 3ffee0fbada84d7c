use Rattle.std.proofs.Common.{◌≡◌, not, refl, sym, ap, ◌∙◌, arith, ℤ, pos, ◌+ℤ◌, ◌+◌}
use Rattle.std.proofs.lemmas.List.{length-set}
use Rattle.chrono_datetime.specs.Weekday.{next_weekday}
use Rattle.chrono_datetime.specs.WeekdaySet.{contains}
use Rattle.chrono_datetime.specs.Weeks.{weekday_of}
use Rattle.chrono_datetime.specs.Recurrence.{count_where, first_date}
use Rattle.chrono_datetime.proofs.Signed.{signed}
use Rattle.chrono_datetime.proofs.WeekDays.{weekday_of-next}
use Rattle.chrono_datetime.proofs.CountWhere.{count_where-next, count_where-no_days, one_if}
use Rattle.chrono_business.specs.OpenDays.{is_workday}
use Rattle.chrono_business.specs.Workweeks.{IsWorkdayAt}
use Rattle.chrono_business.proofs.WeekTables.{workdays-next}
use Rattle.chrono_business.proofs.workweek.workdays_of.Goals as goal
use Rattle.chrono_business.proofs.workweek.workdays_of.Goals.{then-not-contains, else-not-contains}

pub loop-day-init : goal.loop-day-init
loop-day-init c = record {
  weekday = refl;
  count = sym (count_where-no_days (is_workday c.args.weekend) first_date);
  few = omega arith;
  size = refl;
  workdays = λ place d low. absurd (omega arith);
}

pub loop-day-preserved : goal.loop-day-preserved
loop-day-preserved c =
    let inv = c.loop-day.invariant in
    let day = c.loop-day.day in
    let here : ℤ = first_date +ℤ pos day in
    let next : ℤ = first_date +ℤ pos (day + 1) in
    let more = count_where-next (is_workday c.args.weekend) day (day + 1) first_date here refl refl in
    let asked : contains c.args.weekend (weekday_of here) ≡ c.contains.result = ap (contains c.args.weekend) (sym inv.weekday) ∙ sym c.contains.ensures in
    record {
      weekday = c.succ-weekday.ensures ∙ (ap next_weekday inv.weekday ∙ sym (weekday_of-next here next (omega (arith, signed))));
      count = elim c.if-not-contains.branch [
        | then-not-contains w ↦ omega (arith, more, w.count-is, inv.count, ap (λ b. one_if (not b)) (asked ∙ w.if-not-contains.true))
        | else-not-contains w ↦ omega (arith, more, w.count-is, inv.count, ap (λ b. one_if (not b)) (asked ∙ w.if-not-contains.false))
      ];
      few = elim c.if-not-contains.branch [
        | then-not-contains w ↦ omega (arith, w.count-is, inv.few)
        | else-not-contains w ↦ omega (arith, w.count-is, inv.few)
      ];
      size = elim c.if-not-contains.branch [
        | then-not-contains w ↦ rw w.workdays-is (length-set c.loop-day.workdays c.loop-day.count day ∙ inv.size)
        | else-not-contains w ↦ rw w.workdays-is inv.size
      ];
      workdays = elim c.if-not-contains.branch [
        | then-not-contains w ↦
            let at : IsWorkdayAt c.args.weekend c.loop-day.count day = record { workday = ap not (asked ∙ w.if-not-contains.true); count = sym inv.count; near = c.loop-day-test.true } in
            rw (w.workdays-is, w.count-is) (workdays-next c.args.weekend c.loop-day.workdays c.loop-day.count day (omega (arith, inv.size, inv.few, c.loop-day-test.true)) at inv.workdays)
        | else-not-contains w ↦ rw (w.workdays-is, w.count-is) inv.workdays
      ];
    }

pub returns : goal.returns
returns c = λ place d low.
    let inv = c.loop-day.invariant in
    let all : c.loop-day.day ≡ 7 = omega (arith, c.loop-day-test.false, c.loop-day.auto.day-end) in
    inv.workdays place d (omega (arith, low, inv.count, ap (λ k. count_where (is_workday c.args.weekend) k first_date) all))
