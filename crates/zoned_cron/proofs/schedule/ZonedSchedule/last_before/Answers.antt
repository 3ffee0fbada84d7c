use Rattle.std.proofs.Common.{◌≡◌, ◌<ℤ◌, of_z, to_z, w64, arith}
use Rattle.std.proofs.lemmas.Int.{ints, to_z-of_z}
use Rattle.std.proofs.lemmas.Option.{IfSome_then}
use Rattle.chrono_instant.specs.Instants.{epoch_second}
use Rattle.chrono_instant.proofs.InstantLemmas.{IsEpochSecond-moment}
use Rattle.chrono_zoned.proofs.OptionLemmas.{one_of}
use Rattle.chrono_zoned.proofs.HeldSecondLemmas.{later_second}
use Rattle.zoned_cron.specs.Fires.{Fires}
use Rattle.zoned_cron.specs.Private.{TakesDated}
use Rattle.zoned_cron.proofs.Instants.{last_of_all}
use Rattle.zoned_cron.proofs.Windows.{closer_back, covers_all_behind, covers_far_behind, covers_previous, due_fraction, fires_last}
use Rattle.zoned_cron.proofs.schedule.ZonedSchedule.last_before.Goals as goal

pub returns-in_default-prev_before-clause-fires : goal.returns-in_default-prev_before-clause-fires
returns-in_default-prev_before-clause-fires g c =
    let s = c.args.self.now.schedule.sets in
    let ahead = g.Z.TimeZone.ahead c.args.self.now.zone in
    let p = c.args.self.now.policy in
    let local = c.loop-local.local in
    let inv = c.loop-local.invariant in
    let end = to_z w64 (of_z w64 c.args.end) in
    let fits : end ≡ c.args.end = to_z-of_z w64 c.args.end c.ranges.end in
    let last = last_of_all (TakesDated p ahead (epoch_second local)) c.taken.result end c.last_in.result c.taken.ensures.all c.last_in.ensures in
    let found = fires_last s ahead p end local c.last_in.result (omega (arith, ints, fits, c.requires.high)) inv.0 inv.1 last in
    IfSome_then c.later-best.result (one_of (λ x. (x <ℤ end) × Fires s ahead p x) c.loop-local.best c.last_in.result c.later-best.result c.later-best.ensures.either inv.3 found) (λ x h. (omega (arith, ints, fits, h.0), h.1))

pub returns-in_default-prev_before-clause-greatest : goal.returns-in_default-prev_before-clause-greatest
returns-in_default-prev_before-clause-greatest g c = λ u before f.
    let s = c.args.self.now.schedule.sets in
    let ahead = g.Z.TimeZone.ahead c.args.self.now.zone in
    let p = c.args.self.now.policy in
    let local = c.loop-local.local in
    let inv = c.loop-local.invariant in
    let end = to_z w64 (of_z w64 c.args.end) in
    let fits : end ≡ c.args.end = to_z-of_z w64 c.args.end c.ranges.end in
    let last = last_of_all (TakesDated p ahead (epoch_second local)) c.taken.result end c.last_in.result c.taken.ensures.all c.last_in.ensures in
    covers_all_behind s ahead p end local c.loop-local.best c.last_in.result c.later-best.result inv.0 inv.2 last c.later-best.ensures.greatest c.in_default-prev_before.ensures.none u (omega (arith, ints, fits, before)) f

pub loop-local-smaller : goal.loop-local-smaller
loop-local-smaller g c =
    let local = c.loop-local.local in
    let next = c.in-Some-prev_before.earlier in
    let exists = c.date_times_exist-in-loop-local.ensures in
    let whole = due_fraction c.args.self.now.schedule.sets local c.loop-local.invariant.1 in
    closer_back (epoch_second next) (epoch_second local) (later_second next local exists c.in-Some-prev_before.ensures.earlier whole) (IsEpochSecond-moment next exists).0

pub loop-local-preserved : goal.loop-local-preserved
loop-local-preserved g c =
    let s = c.args.self.now.schedule.sets in
    let ahead = g.Z.TimeZone.ahead c.args.self.now.zone in
    let p = c.args.self.now.policy in
    let local = c.loop-local.local in
    let next = c.in-Some-prev_before.earlier in
    let inv = c.loop-local.invariant in
    let end = to_z w64 (of_z w64 c.args.end) in
    let fits : end ≡ c.args.end = to_z-of_z w64 c.args.end c.ranges.end in
    let last = last_of_all (TakesDated p ahead (epoch_second local)) c.taken.result end c.last_in.result c.taken.ensures.all c.last_in.ensures in
    let found = fires_last s ahead p end local c.last_in.result (omega (arith, ints, fits, c.requires.high)) inv.0 inv.1 last in (
      c.date_times_exist-in-loop-local.ensures,
      c.in-Some-prev_before.ensures.member,
      covers_previous s ahead p end local next c.loop-local.best c.last_in.result c.later-best.result inv.0 c.date_times_exist-in-loop-local.ensures inv.2 last c.later-best.ensures.greatest c.in-Some-prev_before.ensures.greatest,
      one_of (λ x. (x <ℤ end) × Fires s ahead p x) c.loop-local.best c.last_in.result c.later-best.result c.later-best.ensures.either inv.3 found,
    )

pub returns-clause-greatest : goal.returns-clause-greatest
returns-clause-greatest g c = λ u before f.
    let end = to_z w64 (of_z w64 c.args.end) in
    let fits : end ≡ c.args.end = to_z-of_z w64 c.args.end c.ranges.end in
    covers_far_behind c.args.self.now.schedule.sets (g.Z.TimeZone.ahead c.args.self.now.zone) c.args.self.now.policy end (epoch_second c.loop-local.local) c.loop-local.best c.loop-local.invariant.2
    (c.may_follow.ensures c.loop-local-test.false) u (omega (arith, ints, fits, before)) f
