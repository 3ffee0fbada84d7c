use Rattle.std.proofs.Common.{◌≡◌, of_z, to_z, w64, ◌∙◌}
use Rattle.std.proofs.lemmas.Int.{to_z-of_z}
use Rattle.chrono_instant.specs.Instants.{epoch_second}
use Rattle.chrono_zoned.proofs.OptionLemmas.{if_never}
use Rattle.chrono_zoned.proofs.HeldSecondLemmas.{holds_there, later_there, none_after, none_between}
use Rattle.zoned_cron.specs.Fires.{Fires, NotFiringAfter}
use Rattle.zoned_cron.proofs.FiringLists.{next_if, next_none}
use Rattle.zoned_cron.proofs.Carried.{date_carried}
use Rattle.zoned_cron.proofs.Windows.{exists_there}
use Rattle.zoned_cron.proofs.schedule.ZonedSchedule.first_searched.Goals as goal

pub returns-in_err-first_after : goal.returns-in_err-first_after
returns-in_err-first_after g c =
    let z = c.args.self.now in
    let ahead = g.Z.TimeZone.ahead in
    let start = c.args.start in
    let at : to_z w64 (of_z w64 c.timestamp.result) ≡ epoch_second start = to_z-of_z w64 c.timestamp.result (record { sfits = c.timestamp.type_inv }) ∙ c.timestamp.ensures.value in
    next_none ahead z start c.from_residual.result c.from_residual.ensures (none_after (Fires z.schedule.sets (ahead z.zone) z.policy) start c.in_err-first_after.ensures.least at c.date_times_exist.ensures)

pub returns : goal.returns
returns g c =
    let z = c.args.self.now in
    let s = z.schedule.sets in
    let ahead = g.Z.TimeZone.ahead in
    let clock = ahead z.zone in
    let p = z.policy in
    let start = c.args.start in
    let at : to_z w64 (of_z w64 c.timestamp.result) ≡ epoch_second start = to_z-of_z w64 c.timestamp.result (record { sfits = c.timestamp.type_inv }) ∙ c.timestamp.ensures.value in
    let x = c.in_ok-first_after.field-0 in
    let ok = c.in_ok-first_after.ensures.fires in
    let is : to_z w64 (of_z w64 x) ≡ x = date_carried x ok.1.instant.utc in
    next_if ahead z start c.timestamp_opt.result
    (if_never (NotFiringAfter s clock p start) c.timestamp_opt.result (c.timestamp_opt.ensures.exists.1 (exists_there s clock p (to_z w64 (of_z w64 x)) x is ok.1)))
    c.timestamp_opt.ensures.instant c.timestamp_opt.ensures.zone
    (λ d lies zone. (
      holds_there (Fires s clock p) x d.utc lies is ok.1,
      zone,
      later_there start d.utc x ok.0 at lies is c.date_times_exist.ensures,
      none_between (Fires s clock p) start d.utc x c.in_ok-first_after.ensures.least at lies is c.date_times_exist.ensures,
    ))
