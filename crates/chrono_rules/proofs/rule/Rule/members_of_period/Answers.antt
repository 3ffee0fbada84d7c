use Rattle.std.proofs.Common.{◌≡◌, sym, ap, ◌∙◌, arith, ℤ, pos, ◌+ℤ◌, ◌≤ℤ◌, ◌<ℤ◌, to_z, of_z, w64}
use Rattle.std.proofs.lemmas.Int.{by_lt_z}
use Rattle.chrono_datetime.specs.Days.{IsDate}
use Rattle.chrono_datetime.specs.Recurrence.{count_between}
use Rattle.chrono_datetime.proofs.CountBetween.{count_between-empty}
use Rattle.chrono_datetime.proofs.Signed.{casts, signed}
use Rattle.chrono_rules.specs.ByParts.{date_passes}
use Rattle.chrono_rules.specs.Instances.{is_member}
use Rattle.chrono_rules.specs.Periods.{period_end, period_first}
use Rattle.chrono_rules.proofs.Counts.{counted-next}
use Rattle.chrono_rules.proofs.PeriodMembers.{before_day, behind_day}
use Rattle.chrono_rules.proofs.PlacesFromEnd.{same_end, same_first}
use Rattle.chrono_rules.proofs.PlacesInPeriods.{from_period}
use Rattle.chrono_rules.proofs.rule.Rule.members_of_period.Goals as goal
use Rattle.chrono_rules.proofs.rule.Rule.members_of_period.Goals.{then-loop-later-test+else-count-most, else-loop-later-test}

pub loop-later-init : goal.loop-later-init
loop-later-init c =
    let stop = c.days_in_period-stop.ensures in
    let here : c.args.day ≡ c.args.day +ℤ pos 0 = omega (arith, signed) in record {
      low = omega (arith, signed);
      high = omega (arith, casts, stop.low, stop.high);
      passed = sym (count_between-empty (date_passes c.args.self.now c.args.start) _ _ (omega (arith, signed)));
      few = omega (arith, signed);
      members = c.requires.counted ∙ ap (count_between (is_member c.args.self.now c.args.start) c.args.start) here;
      most = omega (arith, c.requires.few);
      fewer = λ d low high. absurd (omega (arith, signed, low, high));
    }

pub and_day-count-requires-clause-front : goal.and_day-count-requires-clause-front
and_day-count-requires-clause-front c = λ some.
    let r = c.args.self.now in
    let p = date_passes r c.args.start in
    let inv = c.loop-later.invariant in
    let stop = c.days_in_period-stop.ensures in
    let e : ℤ = c.moved-date.result in
    let at : e ≡ c.args.day +ℤ to_z w64 c.loop-later.later-bits = omega (arith, casts, c.moved-date.ensures, inv.low, c.loop-later-test.true, stop.high) in
    let le : c.args.day ≤ℤ e = omega (arith, signed, at, inv.low) in
    let less : e <ℤ period_end r.frequency r.week_start c.args.day = omega (arith, casts, at, c.loop-later-test.true, stop.period, stop.low, stop.high, inv.low) in
    let before : e <ℤ c.args.end = omega (arith, casts, at, c.loop-later-test.true, stop.within, stop.low, stop.high, inv.low) in
    let date : IsDate e = (omega (arith, signed, stop.day.0, le), omega (arith, signed, stop.end.1, before)) in
    before_day p (period_first r.frequency r.week_start c.args.day) (period_first r.frequency r.week_start e) c.args.day e c.passing_before-before.result c.loop-later.count.passed
    (same_first r.frequency r.week_start c.args.day e le less date) (from_period r.frequency r.week_start c.args.day) le (c.passing_before-before.ensures.value some) (inv.passed ∙ ap (count_between p c.args.day) (sym at))

pub and_day-count-requires-clause-back : goal.and_day-count-requires-clause-back
and_day-count-requires-clause-back c = λ some.
    let r = c.args.self.now in
    let p = date_passes r c.args.start in
    let inv = c.loop-later.invariant in
    let stop = c.days_in_period-stop.ensures in
    let e : ℤ = c.moved-date.result in
    let at : e ≡ c.args.day +ℤ to_z w64 c.loop-later.later-bits = omega (arith, casts, c.moved-date.ensures, inv.low, c.loop-later-test.true, stop.high) in
    let le : c.args.day ≤ℤ e = omega (arith, signed, at, inv.low) in
    let less : e <ℤ period_end r.frequency r.week_start c.args.day = omega (arith, casts, at, c.loop-later-test.true, stop.period, stop.low, stop.high, inv.low) in
    let before : e <ℤ c.args.end = omega (arith, casts, at, c.loop-later-test.true, stop.within, stop.low, stop.high, inv.low) in
    let date : IsDate e = (omega (arith, signed, stop.day.0, le), omega (arith, signed, stop.end.1, before)) in
    behind_day p (period_end r.frequency r.week_start c.args.day) (period_end r.frequency r.week_start e) c.args.day e c.passing_from-left.result c.loop-later.count.passed
    (same_end r.frequency r.week_start c.args.day e le less date) le (omega (arith, signed, less)) (c.passing_from-left.ensures.value some) (inv.passed ∙ ap (count_between p c.args.day) (sym at))

pub loop-later-preserved : goal.loop-later-preserved
loop-later-preserved c =
    let r = c.args.self.now in
    let p = date_passes r c.args.start in
    let q = is_member r c.args.start in
    let inv = c.loop-later.invariant in
    let stop = c.days_in_period-stop.ensures in
    let test = c.loop-later-test.true in
    let step = c.and_day-count.ensures in
    let later : ℤ = to_z w64 c.loop-later.later-bits in
    let e : ℤ = c.moved-date.result in
    let at : e ≡ c.args.day +ℤ later = omega (arith, casts, c.moved-date.ensures, inv.low, test, stop.high) in
    let le : c.args.day ≤ℤ e = omega (arith, signed, at, inv.low) in
    let next : (c.args.day +ℤ to_z w64 (of_z w64 (later +ℤ pos 1))) ≡ e +ℤ pos 1 = omega (arith, casts, at, inv.low, test, stop.high) in
    record {
      low = omega (arith, casts, inv.low, test, stop.high);
      high = omega (arith, casts, inv.low, test, stop.low, stop.high);
      passed = counted-next p c.args.day e _ c.loop-later.count.passed _ (inv.passed ∙ ap (count_between p c.args.day) (sym at)) step.passed le next;
      few = omega (arith, casts, inv.few, step.one_day, inv.low, test, stop.high);
      members = counted-next q c.args.start e _ c.loop-later.count.members _ (inv.members ∙ ap (count_between q c.args.start) (sym at)) step.members (omega (arith, signed, c.requires.begun, le)) next;
      most = omega (arith, step.one_member, c.if-count-most.true);
      fewer = λ d low less. by_lt_z d e
          (λ lt. inv.fewer d low (omega (arith, signed, lt, at)))
          (λ ge.
          let same : d ≡ c.args.day +ℤ later = omega (arith, casts, ge, less, next, at) in
          omega (arith, ap (count_between q c.args.start) same, inv.members, c.if-count-most.true));
    }

pub returns-clause-later : goal.returns-clause-later
returns-clause-later c =
    let q = is_member c.args.self.now c.args.start in
    let inv = c.loop-later.invariant in
    let stop = c.days_in_period-stop.ensures in
    let later : ℤ = to_z w64 c.loop-later.later-bits in
    elim c.loop-later-test.branch [
      | then-loop-later-test+else-count-most w ↦
          by_lt_z (pos 0) later
          (λ lt. omega (arith, casts, c.moved.ensures, lt, inv.high, stop.low, stop.high))
          (λ ge.
          let same : c.args.day +ℤ later ≡ c.args.day = omega (arith, signed, ge, inv.low) in
          absurd (omega (arith, ap (count_between q c.args.start) same, inv.members, c.requires.counted, c.requires.few, w.if-count-most.false)))
      | else-loop-later-test w ↦ omega (arith, casts, c.moved.ensures, w.loop-later-test.false, inv.low, inv.high, stop.low, stop.high)
    ]
