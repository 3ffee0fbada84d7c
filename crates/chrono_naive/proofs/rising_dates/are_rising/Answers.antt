use Rattle.std.proofs.Common.{arith, ℤ, ◌≤ℤ◌}
use Rattle.chrono_calendar.proofs.Signed.{signed}
use Rattle.chrono_naive.proofs.RisingLists.{not_rising, rising-next}
use Rattle.chrono_naive.proofs.rising_dates.are_rising.Goals as goal

pub returns-then-num_days_from_ce : goal.returns-then-num_days_from_ce
returns-then-num_days_from_ce c =
    let x : ℤ = c.index-days-place-in-loop-place.result in
    let y : ℤ = c.index-days-place.result in
    let late : y ≤ℤ x = omega (arith, signed, c.if-num_days_from_ce.true, c.num_days_from_ce.ensures.value, c.num_days_from_ce-in-loop-place.ensures.value) in (
      λ no. absurd cc,
      λ rising. absurd (not_rising c.args.days.now c.loop-place.place x y c.loop-place.invariant.0 c.loop-place-test.true c.index-days-place.is c.index-days-place-in-loop-place.is late rising),
    )

pub loop-place-preserved : goal.loop-place-preserved
loop-place-preserved c =
    let x : ℤ = c.index-days-place-in-loop-place.result in
    let y : ℤ = c.index-days-place.result in (
      omega arith,
      rising-next c.args.days.now c.loop-place.place x y c.loop-place.invariant.0 c.loop-place-test.true c.index-days-place.is c.index-days-place-in-loop-place.is
          (omega (arith, signed, c.if-num_days_from_ce.false, c.num_days_from_ce.ensures.value, c.num_days_from_ce-in-loop-place.ensures.value)) c.loop-place.invariant.1,
    )
