use Rattle.std.proofs.Common.{◌≡◌, not, refl, sym, ap, ◌∙◌, arith, ℤ, pos, ◌+ℤ◌, ◌+◌}
use Rattle.std.proofs.lemmas.List.{length-set}
use Rattle.chrono_datetime.specs.Weekday.{next_weekday}
use Rattle.chrono_datetime.specs.WeekdaySet.{contains}
use Rattle.chrono_datetime.specs.Weeks.{weekday_of}
use Rattle.chrono_datetime.specs.Recurrence.{count_where, first_date}
use Rattle.chrono_datetime.proofs.Signed.{signed}
use Rattle.chrono_datetime.proofs.WeekDays.{weekday_of-next}
use Rattle.chrono_datetime.proofs.CountWhere.{count_where-next, count_where-no_days, one_if}
use Rattle.chrono_business.specs.OpenDays.{is_workday}
use Rattle.chrono_business.proofs.WeekTables.{counts-next}
use Rattle.chrono_business.proofs.workweek.counts_of.Goals as goal
use Rattle.chrono_business.proofs.workweek.counts_of.Goals.{then-not-contains, else-not-contains}

pub loop-day-init : goal.loop-day-init
loop-day-init c =
    let none = count_where-no_days (is_workday c.args.weekend) first_date in
    record {
      weekday = refl;
      count = sym none;
      few = omega arith;
      size = refl;
      counts = λ days d low.
          let same : days ≡ 0 = omega arith in
          rw same (sym none);
    }

pub loop-day-preserved : goal.loop-day-preserved
loop-day-preserved c =
    let inv = c.loop-day.invariant in
    let day = c.loop-day.day in
    let here : ℤ = first_date +ℤ pos day in
    let next : ℤ = first_date +ℤ pos (day + 1) in
    let more = count_where-next (is_workday c.args.weekend) day (day + 1) first_date here refl refl in
    let asked : contains c.args.weekend (weekday_of here) ≡ c.contains.result = ap (contains c.args.weekend) (sym inv.weekday) ∙ sym c.contains.ensures in
    let count : c.if-not-contains.count ≡ count_where (is_workday c.args.weekend) (day + 1) first_date = elim c.if-not-contains.branch [
      | then-not-contains w ↦ omega (arith, more, w.count-is, inv.count, ap (λ b. one_if (not b)) (asked ∙ w.if-not-contains.true))
      | else-not-contains w ↦ omega (arith, more, w.count-is, inv.count, ap (λ b. one_if (not b)) (asked ∙ w.if-not-contains.false))
    ] in
    record {
      weekday = c.succ-weekday.ensures ∙ (ap next_weekday inv.weekday ∙ sym (weekday_of-next here next (omega (arith, signed))));
      count = count;
      few = elim c.if-not-contains.branch [
        | then-not-contains w ↦ omega (arith, w.count-is, inv.few)
        | else-not-contains w ↦ omega (arith, w.count-is, inv.few)
      ];
      size = length-set c.loop-day.counts (day + 1) c.if-not-contains.count ∙ inv.size;
      counts = counts-next c.args.weekend c.loop-day.counts day c.if-not-contains.count c.loop-day-test.true inv.size count inv.counts;
    }
