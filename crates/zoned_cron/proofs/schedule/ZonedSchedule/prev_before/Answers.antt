use Rattle.std.proofs.Common.{◌≡◌, of_z, to_z, w64, subst, ◌∙◌}
use Rattle.std.proofs.lemmas.Int.{to_z-of_z}
use Rattle.std.proofs.lemmas.Option.{IfSome_then}
use Rattle.chrono_datetime.specs.Moment.{IsBefore, Moment}
use Rattle.chrono_zoned.proofs.OptionLemmas.{if_any, if_never}
use Rattle.chrono_zoned.proofs.HeldSecondLemmas.{IsFirstFrom, earlier_there, holds_there, none_before, none_between_back}
use Rattle.zoned_cron.specs.Fires.{Fires, NotFiringBefore, NotFiringBetween}
use Rattle.zoned_cron.proofs.Carried.{date_carried}
use Rattle.zoned_cron.proofs.Windows.{exists_there}
use Rattle.zoned_cron.proofs.schedule.ZonedSchedule.prev_before.Goals as goal

pub returns-in-Some-clause-fires : goal.returns-in-Some-clause-fires
returns-in-Some-clause-fires g c = c.in-Some.ensures.0

pub returns-in-Some-clause-zone : goal.returns-in-Some-clause-zone
returns-in-Some-clause-zone g c = c.in-Some.ensures.1

pub returns-in-Some-clause-earlier : goal.returns-in-Some-clause-earlier
returns-in-Some-clause-earlier g c = subst (λ (m : Moment). IsBefore c.in-Some.found.utc m) c.naive_utc-utc.ensures c.in-Some.ensures.2

pub returns-in-Some-clause-greatest : goal.returns-in-Some-clause-greatest
returns-in-Some-clause-greatest g c =
    let s = c.args.self.now.schedule.sets in
    let ahead = g.Z.TimeZone.ahead c.args.self.now.zone in
    let p = c.args.self.now.policy in
    subst (λ (m : Moment). NotFiringBetween s ahead p c.in-Some.found.utc m) c.naive_utc-utc.ensures c.in-Some.ensures.3

pub returns-in_err-last_before-clause-none : goal.returns-in_err-last_before-clause-none
returns-in_err-last_before-clause-none g c =
    let s = c.args.self.now.schedule.sets in
    let ahead = g.Z.TimeZone.ahead c.args.self.now.zone in
    let p = c.args.self.now.policy in
    let utc = c.naive_utc-utc.result in
    let same : utc ≡ c.args.start.utc = c.naive_utc-utc.ensures in
    let end = to_z w64 (of_z w64 c.begun_by.result) in
    let fits : end ≡ c.begun_by.result = to_z-of_z w64 c.begun_by.result (record { sfits = c.begun_by.type_inv }) in
    let begun : IsFirstFrom end utc = record { whole = λ e. fits ∙ c.begun_by.ensures.whole e; within = λ e. fits ∙ c.begun_by.ensures.within e } in
    if_any c.from_residual.result (subst (λ (m : Moment). NotFiringBefore s ahead p m) same (none_before (Fires s ahead p) utc c.in_err-last_before.ensures.greatest begun c.begun_by.ensures.exists))

pub returns-clause-fires : goal.returns-clause-fires
returns-clause-fires g c =
    let s = c.args.self.now.schedule.sets in
    let ahead = g.Z.TimeZone.ahead c.args.self.now.zone in
    let p = c.args.self.now.policy in
    let x = c.in_ok-last_before.field-0 in
    let ok = c.in_ok-last_before.ensures.fires in
    let is : to_z w64 (of_z w64 x) ≡ x = date_carried x ok.1.instant.utc in
    IfSome_then c.timestamp_opt.result c.timestamp_opt.ensures.instant (λ d h. holds_there (Fires s ahead p) x d.utc h is ok.1)

pub returns-clause-earlier : goal.returns-clause-earlier
returns-clause-earlier g c =
    let s = c.args.self.now.schedule.sets in
    let ahead = g.Z.TimeZone.ahead c.args.self.now.zone in
    let p = c.args.self.now.policy in
    let utc = c.naive_utc-utc.result in
    let same : utc ≡ c.args.start.utc = c.naive_utc-utc.ensures in
    let end = to_z w64 (of_z w64 c.begun_by.result) in
    let fits : end ≡ c.begun_by.result = to_z-of_z w64 c.begun_by.result (record { sfits = c.begun_by.type_inv }) in
    let begun : IsFirstFrom end utc = record { whole = λ e. fits ∙ c.begun_by.ensures.whole e; within = λ e. fits ∙ c.begun_by.ensures.within e } in
    let x = c.in_ok-last_before.field-0 in
    let ok = c.in_ok-last_before.ensures.fires in
    let is : to_z w64 (of_z w64 x) ≡ x = date_carried x ok.1.instant.utc in
    IfSome_then c.timestamp_opt.result c.timestamp_opt.ensures.instant (λ d h.
    subst (λ (m : Moment). IsBefore d.utc m) same (earlier_there utc d.utc x ok.0 h begun is c.begun_by.ensures.exists))

pub returns-clause-greatest : goal.returns-clause-greatest
returns-clause-greatest g c =
    let s = c.args.self.now.schedule.sets in
    let ahead = g.Z.TimeZone.ahead c.args.self.now.zone in
    let p = c.args.self.now.policy in
    let utc = c.naive_utc-utc.result in
    let same : utc ≡ c.args.start.utc = c.naive_utc-utc.ensures in
    let end = to_z w64 (of_z w64 c.begun_by.result) in
    let fits : end ≡ c.begun_by.result = to_z-of_z w64 c.begun_by.result (record { sfits = c.begun_by.type_inv }) in
    let begun : IsFirstFrom end utc = record { whole = λ e. fits ∙ c.begun_by.ensures.whole e; within = λ e. fits ∙ c.begun_by.ensures.within e } in
    let x = c.in_ok-last_before.field-0 in
    let ok = c.in_ok-last_before.ensures.fires in
    let is : to_z w64 (of_z w64 x) ≡ x = date_carried x ok.1.instant.utc in
    IfSome_then c.timestamp_opt.result c.timestamp_opt.ensures.instant (λ d h.
    subst (λ (m : Moment). NotFiringBetween s ahead p d.utc m) same (none_between_back (Fires s ahead p) utc d.utc x c.in_ok-last_before.ensures.greatest h begun is c.begun_by.ensures.exists))

pub returns-clause-none : goal.returns-clause-none
returns-clause-none g c =
    let s = c.args.self.now.schedule.sets in
    let ahead = g.Z.TimeZone.ahead c.args.self.now.zone in
    let p = c.args.self.now.policy in
    let x = c.in_ok-last_before.field-0 in
    let ok = c.in_ok-last_before.ensures.fires in
    let is : to_z w64 (of_z w64 x) ≡ x = date_carried x ok.1.instant.utc in
    if_never (NotFiringBefore s ahead p c.args.start.utc) c.timestamp_opt.result (c.timestamp_opt.ensures.exists.1 (exists_there s ahead p (to_z w64 (of_z w64 x)) x is ok.1))
