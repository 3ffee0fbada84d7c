use Rattle.std.proofs.Common.{◌≡◌, of_z, to_z, w64, subst, ◌∙◌}
use Rattle.std.proofs.lemmas.Int.{to_z-of_z}
use Rattle.std.proofs.lemmas.Option.{IfSome_then}
use Rattle.chrono_datetime.specs.Moment.{IsBefore, Moment}
use Rattle.chrono_zoned.proofs.OptionLemmas.{if_any, if_never}
use Rattle.chrono_zoned.proofs.HeldSecondLemmas.{IsFirstFrom, earlier_there, holds_there, none_before, none_between_back}
use Rattle.chrono_zoned.specs.HeldSeconds.{HoldsNotBefore, HoldsNotBetween}
use Rattle.zoned_rules.specs.ZonedSets.{IsInZonedSet}
use Rattle.zoned_rules.proofs.PublicCalls.{back_there, exists_there}
use Rattle.zoned_rules.proofs.zoned_recurrence.ZonedRecurrence.prev_before.Goals as goal

pub returns-in_err-last_member-clause-none : goal.returns-in_err-last_member-clause-none
returns-in_err-last_member-clause-none g c =
    let r = c.args.self.now.rule.local in
    let ahead = g.Z.TimeZone.ahead c.args.self.now.rule.zone in
    let bound = c.args.self.now.rule.bound in
    let dates = c.args.self.now.dates.now in
    let exceptions = c.args.self.now.exceptions.now in
    let utc = c.naive_utc.result in
    let same : utc ≡ c.args.start.utc = c.naive_utc.ensures in
    let from = c.first_second_from-end in
    let fits : to_z w64 (of_z w64 from.result) ≡ from.result = to_z-of_z w64 from.result (record { sfits = from.type_inv }) in
    let begun : IsFirstFrom (to_z w64 (of_z w64 from.result)) utc = record { whole = λ e. fits ∙ from.ensures.whole e; within = λ e. fits ∙ from.ensures.within e } in
    if_any c.from_residual.result (subst (λ (m : Moment). HoldsNotBefore (IsInZonedSet r ahead bound dates exceptions) m) same (none_before (IsInZonedSet r ahead bound dates exceptions) utc c.in_err-last_member.ensures.greatest begun from.ensures.exists))

pub returns-clause-member : goal.returns-clause-member
returns-clause-member g c =
    let r = c.args.self.now.rule.local in
    let ahead = g.Z.TimeZone.ahead c.args.self.now.rule.zone in
    let bound = c.args.self.now.rule.bound in
    let dates = c.args.self.now.dates.now in
    let exceptions = c.args.self.now.exceptions.now in
    let x = c.in_ok-last_member.field-0 in
    let ok = c.in_ok-last_member.ensures.member in
    let is : to_z w64 (of_z w64 x) ≡ x = back_there ahead x ok.1.included.has_dates in
    IfSome_then c.timestamp_opt.result c.timestamp_opt.ensures.instant (λ d h. holds_there (IsInZonedSet r ahead bound dates exceptions) x d.utc h is ok.1)

pub returns-clause-earlier : goal.returns-clause-earlier
returns-clause-earlier g c =
    let ahead = g.Z.TimeZone.ahead c.args.self.now.rule.zone in
    let utc = c.naive_utc.result in
    let same : utc ≡ c.args.start.utc = c.naive_utc.ensures in
    let from = c.first_second_from-end in
    let fits : to_z w64 (of_z w64 from.result) ≡ from.result = to_z-of_z w64 from.result (record { sfits = from.type_inv }) in
    let begun : IsFirstFrom (to_z w64 (of_z w64 from.result)) utc = record { whole = λ e. fits ∙ from.ensures.whole e; within = λ e. fits ∙ from.ensures.within e } in
    let x = c.in_ok-last_member.field-0 in
    let ok = c.in_ok-last_member.ensures.member in
    let is : to_z w64 (of_z w64 x) ≡ x = back_there ahead x ok.1.included.has_dates in
    IfSome_then c.timestamp_opt.result c.timestamp_opt.ensures.instant (λ d h.
    subst (λ (m : Moment). IsBefore d.utc m) same (earlier_there utc d.utc x ok.0 h begun is from.ensures.exists))

pub returns-clause-greatest : goal.returns-clause-greatest
returns-clause-greatest g c =
    let r = c.args.self.now.rule.local in
    let ahead = g.Z.TimeZone.ahead c.args.self.now.rule.zone in
    let bound = c.args.self.now.rule.bound in
    let dates = c.args.self.now.dates.now in
    let exceptions = c.args.self.now.exceptions.now in
    let utc = c.naive_utc.result in
    let same : utc ≡ c.args.start.utc = c.naive_utc.ensures in
    let from = c.first_second_from-end in
    let fits : to_z w64 (of_z w64 from.result) ≡ from.result = to_z-of_z w64 from.result (record { sfits = from.type_inv }) in
    let begun : IsFirstFrom (to_z w64 (of_z w64 from.result)) utc = record { whole = λ e. fits ∙ from.ensures.whole e; within = λ e. fits ∙ from.ensures.within e } in
    let x = c.in_ok-last_member.field-0 in
    let ok = c.in_ok-last_member.ensures.member in
    let is : to_z w64 (of_z w64 x) ≡ x = back_there ahead x ok.1.included.has_dates in
    IfSome_then c.timestamp_opt.result c.timestamp_opt.ensures.instant (λ d h.
    subst (λ (m : Moment). HoldsNotBetween (IsInZonedSet r ahead bound dates exceptions) d.utc m) same (none_between_back (IsInZonedSet r ahead bound dates exceptions) utc d.utc x c.in_ok-last_member.ensures.greatest h begun is from.ensures.exists))

pub returns-clause-none : goal.returns-clause-none
returns-clause-none g c =
    let r = c.args.self.now.rule.local in
    let ahead = g.Z.TimeZone.ahead c.args.self.now.rule.zone in
    let bound = c.args.self.now.rule.bound in
    let dates = c.args.self.now.dates.now in
    let exceptions = c.args.self.now.exceptions.now in
    let x = c.in_ok-last_member.field-0 in
    let ok = c.in_ok-last_member.ensures.member in
    let is : to_z w64 (of_z w64 x) ≡ x = back_there ahead x ok.1.included.has_dates in
    if_never (HoldsNotBefore (IsInZonedSet r ahead bound dates exceptions) c.args.start.utc) c.timestamp_opt.result (c.timestamp_opt.ensures.exists.1 (exists_there ahead (to_z w64 (of_z w64 x)) x is ok.1.included.has_dates))
