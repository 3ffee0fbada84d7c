use Rattle.std.proofs.Common.{◌≡◌, ◌<◌, true, false, length, filter, sym, ap, ◌∙◌, arith, ℤ}
use Rattle.std.specs.Prelude.{slice_index_or}
use Rattle.std.proofs.lemmas.List.{take_all}
use Rattle.chrono_datetime.specs.Days.{IsDate}
use Rattle.chrono_datetime.specs.WeekdaySet.{contains}
use Rattle.chrono_datetime.specs.Weeks.{weekday_of}
use Rattle.chrono_business.specs.OpenDays.{is_workday}
use Rattle.chrono_business.proofs.Checked.{all-next}
use Rattle.chrono_business.proofs.HolidayFilters.{ahead-more, ahead-set, filter-holidays, kept-next, out-next, read-old}
use Rattle.chrono_business.proofs.holiday_list.without_weekends.Goals as goal
use Rattle.chrono_business.proofs.holiday_list.without_weekends.Goals.{then-not-contains, else-not-contains}

pub loop-place-preserved : goal.loop-place-preserved
loop-place-preserved c =
    let old = c.args.dates.now in
    let cur = c.loop-place.dates in
    let count = c.loop-place.count in
    let place = c.loop-place.place in
    let x : ℤ = c.index-dates-place.result in
    let inv = c.loop-place.invariant in
    let within : place < length old = omega (arith, c.loop-place-test.true, c.loop-place.auto.place-end) in
    let is : slice_index_or old place x ≡ x = read-old old cur place x inv.ahead c.index-dates-place.is in
    let date : IsDate x = rw c.num_days_from_ce.ensures.value at c.num_days_from_ce.ensures.in_range in
    let asked : contains c.args.weekend (weekday_of x) ≡ c.contains.result = ap (contains c.args.weekend) (sym c.weekday.ensures.value) ∙ sym c.contains.ensures in
    elim c.if-not-contains.branch [
      | then-not-contains w ↦
          let passes : is_workday c.args.weekend x ≡ true = grind (arith, asked, w.if-not-contains.true) in
          record {
            bound = omega (arith, w.count-is, inv.bound);
            same = omega (arith, c.if-not-contains.auto.dates, inv.same);
            left = rw (w.count-is, w.dates-is) (kept-next (is_workday c.args.weekend) old cur count place x inv.bound within inv.same is inv.left passes);
            ahead = rw w.dates-is (ahead-set old cur count place x inv.bound inv.ahead);
            date = all-next IsDate old place x within (sym is) date inv.date;
          }
      | else-not-contains w ↦
          let fails : is_workday c.args.weekend x ≡ false = grind (arith, asked, w.if-not-contains.false) in
          record {
            bound = omega (arith, w.count-is, inv.bound);
            same = omega (arith, c.if-not-contains.auto.dates, inv.same);
            left = rw (w.count-is, w.dates-is) (out-next (is_workday c.args.weekend) old cur count place x within is inv.left fails);
            ahead = rw w.dates-is (ahead-more old cur place inv.ahead);
            date = all-next IsDate old place x within (sym is) date inv.date;
          }
    ]

pub returns-clause-left : goal.returns-clause-left
returns-clause-left c =
    let inv = c.loop-place.invariant in
    inv.left ∙ ap (filter (is_workday c.args.weekend)) (take_all c.loop-place.place c.args.dates.now c.loop-place-test.false)

pub returns-clause-holidays : goal.returns-clause-holidays
returns-clause-holidays c = λ rising.
    let old = c.args.dates.now in
    let are = filter-holidays c.args.weekend old (λ k d within. c.loop-place.invariant.date k d (omega arith) (omega (arith, within, c.loop-place-test.false))) rising in
    let left = returns-clause-left c in
    rw left are
