use Rattle.std.proofs.Common.{◌≡◌, ℤ, ◌≤ℤ◌, of_z, to_z, w64, arith, subst}
use Rattle.std.proofs.lemmas.Bool.{both_ways}
use Rattle.std.proofs.lemmas.Int.{by_lt_z, ints, to_z-of_z}
use Rattle.chrono_datetime.proofs.Signed.{casts}
use Rattle.zoned_cron.specs.Fires.{Fires}
use Rattle.zoned_cron.proofs.schedule.ZonedSchedule.first_after.Goals as goal

pub returns-then-fires_at-clause-fires : goal.returns-then-fires_at-clause-fires
returns-then-fires_at-clause-fires g c =
    let next = c.in-Some.next in
    let found = c.in-Some.ensures.later in
    let is : to_z w64 (of_z w64 next) ≡ next = omega (arith, casts, found.1.0, found.1.1) in
    (omega (arith, ints, to_z-of_z w64 c.args.start c.ranges.start, is, c.loop-next.invariant.1, found.0), c.fires_at.ensures.0 c.if-fires_at.true)

pub loop-next-preserved : goal.loop-next-preserved
loop-next-preserved g c =
    let s = c.args.self.now.schedule.sets in
    let ahead = g.Z.TimeZone.ahead c.args.self.now.zone in
    let p = c.args.self.now.policy in
    let next = c.in-Some.next in
    let found = c.in-Some.ensures.later in
    let is : to_z w64 (of_z w64 next) ≡ next = omega (arith, casts, found.1.0, found.1.1) in (
      (omega (arith, ints, is, found.1.0), omega (arith, ints, is, found.1.1)),
      omega (arith, ints, is, c.loop-next.invariant.1, found.0),
      λ u after f.
          let least : next ≤ℤ u = c.in-Some.ensures.least u (c.loop-next.invariant.2 u after f) f in
          by_lt_z (to_z w64 (of_z w64 next)) u (λ lt. lt)
          (λ ge. absurd (both_ways c.fires_at.result c.if-fires_at.false (c.fires_at.ensures.1 (subst (λ (x : ℤ). Fires s ahead p x) (omega (arith, ints, ge, least, is)) f)))),
    )
