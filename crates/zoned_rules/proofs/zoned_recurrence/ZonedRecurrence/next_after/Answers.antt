use Rattle.std.proofs.Common.{◌≡◌, of_z, to_z, w64, subst, ◌∙◌}
use Rattle.std.proofs.lemmas.Int.{to_z-of_z}
use Rattle.std.proofs.lemmas.Option.{IfSome_then}
use Rattle.chrono_datetime.specs.Moment.{IsBefore, Moment}
use Rattle.chrono_instant.specs.Instants.{epoch_second}
use Rattle.chrono_zoned.proofs.OptionLemmas.{if_any, if_never}
use Rattle.chrono_zoned.proofs.HeldSecondLemmas.{holds_there, later_there, none_after, none_between}
use Rattle.chrono_zoned.specs.HeldSeconds.{HoldsNotAfter, HoldsNotBetween}
use Rattle.zoned_rules.specs.ZonedSets.{IsInZonedSet}
use Rattle.zoned_rules.proofs.PublicCalls.{back_there, exists_there}
use Rattle.zoned_rules.proofs.zoned_recurrence.ZonedRecurrence.next_after.Goals as goal

pub returns-in_err-first_member-clause-none : goal.returns-in_err-first_member-clause-none
returns-in_err-first_member-clause-none g c =
    let r = c.args.self.now.rule.local in
    let ahead = g.Z.TimeZone.ahead c.args.self.now.rule.zone in
    let bound = c.args.self.now.rule.bound in
    let dates = c.args.self.now.dates.now in
    let exceptions = c.args.self.now.exceptions.now in
    let utc = c.naive_utc-utc.result in
    let same : utc ≡ c.args.start.utc = c.naive_utc-utc.ensures in
    let at : to_z w64 (of_z w64 c.timestamp.result) ≡ epoch_second utc = to_z-of_z w64 c.timestamp.result (record { sfits = c.timestamp.type_inv }) ∙ c.timestamp.ensures.value in
    if_any c.from_residual.result (subst (λ (m : Moment). HoldsNotAfter (IsInZonedSet r ahead bound dates exceptions) m) same (none_after (IsInZonedSet r ahead bound dates exceptions) utc c.in_err-first_member.ensures.least at c.date_times_exist.ensures))

pub returns-clause-member : goal.returns-clause-member
returns-clause-member g c =
    let r = c.args.self.now.rule.local in
    let ahead = g.Z.TimeZone.ahead c.args.self.now.rule.zone in
    let bound = c.args.self.now.rule.bound in
    let dates = c.args.self.now.dates.now in
    let exceptions = c.args.self.now.exceptions.now in
    let x = c.in_ok-first_member.field-0 in
    let ok = c.in_ok-first_member.ensures.member in
    let is : to_z w64 (of_z w64 x) ≡ x = back_there ahead x ok.1.included.has_dates in
    IfSome_then c.timestamp_opt.result c.timestamp_opt.ensures.instant (λ d h. holds_there (IsInZonedSet r ahead bound dates exceptions) x d.utc h is ok.1)

pub returns-clause-later : goal.returns-clause-later
returns-clause-later g c =
    let ahead = g.Z.TimeZone.ahead c.args.self.now.rule.zone in
    let utc = c.naive_utc-utc.result in
    let same : utc ≡ c.args.start.utc = c.naive_utc-utc.ensures in
    let at : to_z w64 (of_z w64 c.timestamp.result) ≡ epoch_second utc = to_z-of_z w64 c.timestamp.result (record { sfits = c.timestamp.type_inv }) ∙ c.timestamp.ensures.value in
    let x = c.in_ok-first_member.field-0 in
    let ok = c.in_ok-first_member.ensures.member in
    let is : to_z w64 (of_z w64 x) ≡ x = back_there ahead x ok.1.included.has_dates in
    IfSome_then c.timestamp_opt.result c.timestamp_opt.ensures.instant (λ d h.
    subst (λ (m : Moment). IsBefore m d.utc) same (later_there utc d.utc x ok.0 at h is c.date_times_exist.ensures))

pub returns-clause-least : goal.returns-clause-least
returns-clause-least g c =
    let r = c.args.self.now.rule.local in
    let ahead = g.Z.TimeZone.ahead c.args.self.now.rule.zone in
    let bound = c.args.self.now.rule.bound in
    let dates = c.args.self.now.dates.now in
    let exceptions = c.args.self.now.exceptions.now in
    let utc = c.naive_utc-utc.result in
    let same : utc ≡ c.args.start.utc = c.naive_utc-utc.ensures in
    let at : to_z w64 (of_z w64 c.timestamp.result) ≡ epoch_second utc = to_z-of_z w64 c.timestamp.result (record { sfits = c.timestamp.type_inv }) ∙ c.timestamp.ensures.value in
    let x = c.in_ok-first_member.field-0 in
    let ok = c.in_ok-first_member.ensures.member in
    let is : to_z w64 (of_z w64 x) ≡ x = back_there ahead x ok.1.included.has_dates in
    IfSome_then c.timestamp_opt.result c.timestamp_opt.ensures.instant (λ d h.
    subst (λ (m : Moment). HoldsNotBetween (IsInZonedSet r ahead bound dates exceptions) m d.utc) same (none_between (IsInZonedSet r ahead bound dates exceptions) utc d.utc x c.in_ok-first_member.ensures.least at h is c.date_times_exist.ensures))

pub returns-clause-none : goal.returns-clause-none
returns-clause-none g c =
    let r = c.args.self.now.rule.local in
    let ahead = g.Z.TimeZone.ahead c.args.self.now.rule.zone in
    let bound = c.args.self.now.rule.bound in
    let dates = c.args.self.now.dates.now in
    let exceptions = c.args.self.now.exceptions.now in
    let x = c.in_ok-first_member.field-0 in
    let ok = c.in_ok-first_member.ensures.member in
    let is : to_z w64 (of_z w64 x) ≡ x = back_there ahead x ok.1.included.has_dates in
    if_never (HoldsNotAfter (IsInZonedSet r ahead bound dates exceptions) c.args.start.utc) c.timestamp_opt.result (c.timestamp_opt.ensures.exists.1 (exists_there ahead (to_z w64 (of_z w64 x)) x is ok.1.included.has_dates))
