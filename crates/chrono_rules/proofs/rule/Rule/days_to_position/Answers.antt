use Rattle.std.proofs.Common.{◌≡◌, ◌+◌, cond, refl, sym, ap, ◌∙◌, arith, ℤ, ◌+ℤ◌, ◌≤ℤ◌, ◌<ℤ◌, to_z, w64}
use Rattle.std.proofs.lemmas.Int.{by_lt_z}
use Rattle.chrono_datetime.specs.Days.{IsDate}
use Rattle.chrono_datetime.specs.Recurrence.{count_between}
use Rattle.chrono_datetime.proofs.CountBetween.{count_between-empty}
use Rattle.chrono_datetime.proofs.Signed.{casts, signed}
use Rattle.chrono_rules.specs.ByParts.{date_passes, passes}
use Rattle.chrono_rules.specs.Instances.{is_member}
use Rattle.chrono_rules.specs.Periods.{period_end}
use Rattle.chrono_rules.proofs.Counts.{counted-next}
use Rattle.chrono_rules.proofs.PlacesFromEnd.{same_end, same_first}
use Rattle.chrono_rules.proofs.PlacesInPeriods.{date_passes-is, off_day}
use Rattle.chrono_rules.proofs.rule.Rule.days_to_position.Goals as goal

pub loop-later-init : goal.loop-later-init
loop-later-init c = record {
  low = omega (arith, signed);
  high = omega (arith, signed, c.to_period_end-end.ensures.low);
  count = sym (count_between-empty (date_passes c.args.self.now c.args.start) _ _ (omega (arith, signed)));
  few = omega (arith, signed);
  none = λ d low high. absurd (omega (arith, signed, low, high));
}

pub loop-later-preserved : goal.loop-later-preserved
loop-later-preserved c =
    let r = c.args.self.now in
    let p = date_passes r c.args.start in
    let inv = c.loop-later.invariant in
    let later : ℤ = to_z w64 c.loop-later.later-bits in
    let e : ℤ = c.in-Some.date in
    let passed = c.loop-later.passed in
    let test = c.loop-later-test.true in
    let high = c.to_period_end-end.ensures.high in
    let here : c.args.day +ℤ later ≡ e = omega (arith, casts, c.in-Some.ensures.moved, inv.low, test, high) in
    let exists = c.in-Some.ensures.exists.0 refl in
    let date : IsDate e = (omega (arith, casts, here, exists.0, inv.low, test, high), omega (arith, casts, here, exists.1, inv.low, test, high)) in
    let le : c.args.day ≤ℤ e = omega (arith, signed, here, inv.low) in
    let less_end : e <ℤ period_end r.frequency r.week_start c.args.day = omega (arith, casts, here, test, high, inv.low, c.to_period_end-end.ensures.value) in
    let so_far : passed ≡ count_between p c.args.day e = inv.count ∙ ap (count_between p c.args.day) here in
    let count : c.in-Some-passed_with.count ≡ passed + cond (p e) 1 0 = c.in-Some-passed_with.ensures.count ∙ ap (λ b. passed + cond b 1 0) (sym (date_passes-is r c.args.start e date)) in
    record {
      low = omega (arith, casts, inv.low, test, high);
      high = omega (arith, casts, inv.low, test, high);
      count = counted-next p c.args.day e _ passed _ so_far count le (omega (arith, casts, here, inv.low, test, high));
      few = omega (arith, casts, inv.few, c.in-Some-passed_with.ensures.step, inv.low, test, high);
      none = λ d low less. by_lt_z d e
          (λ lt. inv.none d low (omega (arith, signed, lt, here)))
          (λ ge.
          let same : d ≡ e = omega (arith, casts, ge, less, here, inv.low, test, high) in
          ap (is_member r c.args.start) same
          ∙ off_day r c.args.start c.args.day e c.args.before c.passing_from-left.result passed (passes r c.args.start e) refl date c.requires.some le
          (same_first r.frequency r.week_start c.args.day e le less_end date) (same_end r.frequency r.week_start c.args.day e le less_end date)
          c.requires.before c.passing_from-left.ensures.value so_far c.in-Some-passed_with.ensures.off);
    }
