use Rattle.std.proofs.Common.{◌≡◌, of_z, to_z, w64, subst, ◌∙◌}
use Rattle.std.proofs.lemmas.Int.{to_z-of_z}
use Rattle.std.proofs.lemmas.Option.{IfSome_then}
use Rattle.chrono_datetime.specs.Moment.{IsBefore, Moment}
use Rattle.chrono_zoned.proofs.OptionLemmas.{if_any, if_never}
use Rattle.chrono_zoned.proofs.HeldSecondLemmas.{IsFirstFrom, earlier_there, holds_there, none_before, none_between_back}
use Rattle.zoned_rules.specs.Recurs.{NoInstanceBefore, NoInstanceBetween, RecursWithin}
use Rattle.zoned_rules.proofs.PublicCalls.{back_there, exists_there}
use Rattle.zoned_rules.proofs.zoned_rule.ZonedRule.prev_before.Goals as goal

pub returns-in_err-previous_second-clause-none : goal.returns-in_err-previous_second-clause-none
returns-in_err-previous_second-clause-none g c =
    let r = c.args.self.now.local in
    let ahead = g.Z.TimeZone.ahead c.args.self.now.zone in
    let bound = c.args.self.now.bound in
    let utc = c.naive_utc.result in
    let same : utc ≡ c.args.start.utc = c.naive_utc.ensures in
    let from = c.first_second_from-end in
    let fits : to_z w64 (of_z w64 from.result) ≡ from.result = to_z-of_z w64 from.result (record { sfits = from.type_inv }) in
    let begun : IsFirstFrom (to_z w64 (of_z w64 from.result)) utc = record { whole = λ e. fits ∙ from.ensures.whole e; within = λ e. fits ∙ from.ensures.within e } in
    if_any c.from_residual.result (subst (λ (m : Moment). NoInstanceBefore r ahead bound m) same (none_before (RecursWithin r ahead bound) utc c.in_err-previous_second.ensures.greatest begun from.ensures.exists))

pub returns-clause-instance : goal.returns-clause-instance
returns-clause-instance g c =
    let r = c.args.self.now.local in
    let ahead = g.Z.TimeZone.ahead c.args.self.now.zone in
    let bound = c.args.self.now.bound in
    let x = c.in_ok-previous_second.field-0 in
    let ok = c.in_ok-previous_second.ensures.recurs in
    let is : to_z w64 (of_z w64 x) ≡ x = back_there ahead x ok.1.recurs.recurs.dates in
    IfSome_then c.timestamp_opt.result c.timestamp_opt.ensures.instant (λ d h. holds_there (RecursWithin r ahead bound) x d.utc h is ok.1)

pub returns-clause-earlier : goal.returns-clause-earlier
returns-clause-earlier g c =
    let ahead = g.Z.TimeZone.ahead c.args.self.now.zone in
    let utc = c.naive_utc.result in
    let same : utc ≡ c.args.start.utc = c.naive_utc.ensures in
    let from = c.first_second_from-end in
    let fits : to_z w64 (of_z w64 from.result) ≡ from.result = to_z-of_z w64 from.result (record { sfits = from.type_inv }) in
    let begun : IsFirstFrom (to_z w64 (of_z w64 from.result)) utc = record { whole = λ e. fits ∙ from.ensures.whole e; within = λ e. fits ∙ from.ensures.within e } in
    let x = c.in_ok-previous_second.field-0 in
    let ok = c.in_ok-previous_second.ensures.recurs in
    let is : to_z w64 (of_z w64 x) ≡ x = back_there ahead x ok.1.recurs.recurs.dates in
    IfSome_then c.timestamp_opt.result c.timestamp_opt.ensures.instant (λ d h.
    subst (λ (m : Moment). IsBefore d.utc m) same (earlier_there utc d.utc x ok.0 h begun is from.ensures.exists))

pub returns-clause-greatest : goal.returns-clause-greatest
returns-clause-greatest g c =
    let r = c.args.self.now.local in
    let ahead = g.Z.TimeZone.ahead c.args.self.now.zone in
    let bound = c.args.self.now.bound in
    let utc = c.naive_utc.result in
    let same : utc ≡ c.args.start.utc = c.naive_utc.ensures in
    let from = c.first_second_from-end in
    let fits : to_z w64 (of_z w64 from.result) ≡ from.result = to_z-of_z w64 from.result (record { sfits = from.type_inv }) in
    let begun : IsFirstFrom (to_z w64 (of_z w64 from.result)) utc = record { whole = λ e. fits ∙ from.ensures.whole e; within = λ e. fits ∙ from.ensures.within e } in
    let x = c.in_ok-previous_second.field-0 in
    let ok = c.in_ok-previous_second.ensures.recurs in
    let is : to_z w64 (of_z w64 x) ≡ x = back_there ahead x ok.1.recurs.recurs.dates in
    IfSome_then c.timestamp_opt.result c.timestamp_opt.ensures.instant (λ d h.
    subst (λ (m : Moment). NoInstanceBetween r ahead bound d.utc m) same (none_between_back (RecursWithin r ahead bound) utc d.utc x c.in_ok-previous_second.ensures.greatest h begun is from.ensures.exists))

pub returns-clause-none : goal.returns-clause-none
returns-clause-none g c =
    let r = c.args.self.now.local in
    let ahead = g.Z.TimeZone.ahead c.args.self.now.zone in
    let bound = c.args.self.now.bound in
    let x = c.in_ok-previous_second.field-0 in
    let ok = c.in_ok-previous_second.ensures.recurs in
    let is : to_z w64 (of_z w64 x) ≡ x = back_there ahead x ok.1.recurs.recurs.dates in
    if_never (NoInstanceBefore r ahead bound c.args.start.utc) c.timestamp_opt.result (c.timestamp_opt.ensures.exists.1 (exists_there ahead (to_z w64 (of_z w64 x)) x is ok.1.recurs.recurs.dates))
