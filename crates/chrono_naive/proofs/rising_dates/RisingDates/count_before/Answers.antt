use Rattle.std.proofs.Common.{◌≡◌, ◌+◌, ◌-◌, ◌/◌, ◌<◌, length, subst, ◌∙◌, arith, ℤ, w32}
use Rattle.std.specs.Prelude.{slice_index_or}
use Rattle.std.proofs.lemmas.Int.{by_lt_z, to_z-of_z}
use Rattle.std.proofs.lemmas.List.{get_or_read}
use Rattle.chrono_calendar.proofs.Signed.{signed}
use Rattle.chrono_naive.specs.RisingDates.{AreRising}
use Rattle.chrono_naive.proofs.RisingLists.{in_order}
use Rattle.chrono_naive.proofs.rising_dates.RisingDates.count_before.Goals as goal

pub loop-left-preserved : goal.loop-left-preserved
loop-left-preserved c =
    let now = c.args.self.now in
    let inv = c.loop-left.invariant in
    let left = c.loop-left.left in
    let half = left - left / 2 in
    let m = c.loop-left.place + half - 1 in
    let rising = subst AreRising c.self.view_is c.self.invariant in
    let day = to_z-of_z w32 c.args.day c.ranges.day in
    let step = c.step_if_less-place.ensures in
    let within : m < length now = omega (arith, inv.within, c.loop-left-test.true) in
    let dates : c.self.inside.dates.now ≡ now = c.self.view_is in
    let middle : (d : ℤ) → c.num_days_from_ce-number.result ≡ slice_index_or now m d = λ d.
    c.num_days_from_ce-number.ensures.value ∙ get_or_read now m c.index-dates-place.result within (rw dates at c.index-dates-place.is) d in
    by_lt_z c.num_days_from_ce-number.result c.args.day
    (λ lt.
    let all : c.step_if_less-place.result ≡ half = step.less (omega (arith, signed, lt)) in
    record {
      within = omega (arith, all, inv.within);
      behind = λ k d low high.
          let below : k + (m - k) ≡ m = omega (arith, all, high, c.loop-left-test.true) in
          omega (arith, signed, day, middle d, lt, in_order now d m k rising (omega (arith, below)) within);
      ahead = λ k d low high. inv.ahead k d (omega (arith, all, low, c.loop-left-test.true)) high;
    })
    (λ ge.
    let none : c.step_if_less-place.result ≡ 0 = step.other (omega (arith, signed, ge)) in
    record {
      within = omega (arith, none, inv.within);
      behind = λ k d low high. inv.behind k d low (omega (arith, none, high));
      ahead = λ k d low high.
          let above : m + (k - m) ≡ k = omega (arith, none, low, c.loop-left-test.true) in
          omega (arith, signed, day, middle d, ge, in_order now d k m rising (omega (arith, above)) high);
    })
