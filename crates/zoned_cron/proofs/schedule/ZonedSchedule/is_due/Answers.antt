use Rattle.std.proofs.Common.{◌≡◌, ℤ, of_z, to_z, w64, arith, subst, sym, ◌∙◌}
use Rattle.std.proofs.lemmas.Int.{to_z-of_z}
use Rattle.chrono_datetime.specs.Moment.{Moment}
use Rattle.chrono_instant.specs.Instants.{epoch_second}
use Rattle.zoned_cron.specs.Fires.{Fires, FiresAt}
use Rattle.zoned_cron.proofs.schedule.ZonedSchedule.is_due.Goals as goal

pub returns : goal.returns
returns g c =
    let s = c.args.self.now.schedule.sets in
    let ahead = g.Z.TimeZone.ahead c.args.self.now.zone in
    let p = c.args.self.now.policy in
    let utc = c.naive_utc-utc.result in
    let same : utc ≡ c.args.instant.utc = c.naive_utc-utc.ensures in
    let whole : utc.time.fraction ≡ 0 = omega (arith, c.if-nanosecond-gt0.false, c.nanosecond.ensures.value) in
    let at : to_z w64 (of_z w64 c.timestamp.result) ≡ epoch_second utc = to_z-of_z w64 c.timestamp.result (record { sfits = c.timestamp.type_inv }) ∙ c.timestamp.ensures.value in (
      λ yes. subst (λ (m : Moment). FiresAt s ahead p m) same (whole, subst (λ (u : ℤ). Fires s ahead p u) at (c.fires_at.ensures.0 yes)),
      λ f. c.fires_at.ensures.1 (subst (λ (u : ℤ). Fires s ahead p u) (sym at) (subst (λ (m : Moment). Fires s ahead p (epoch_second m)) (sym same) f.1)),
    )
