use Rattle.std.proofs.Common.{⊎_elim, of_z, to_z, w64}
use Rattle.std.proofs.lemmas.Int.{to_z-of_z}
use Rattle.std.proofs.lemmas.Option.{IfSome_then}
use Rattle.zoned_rules.proofs.Reached.{recurs_begun}
use Rattle.zoned_rules.proofs.SecondsAgain.{behind_first, first_behind, from_start, start_behind}
use Rattle.zoned_rules.proofs.zoned_rule.ZonedRule.first_after.Goals as goal

pub returns-clause-recurs : goal.returns-clause-recurs
returns-clause-recurs g c =
    let begun = c.start_second-begun.result in
    let there = c.start_second-begun.ensures in
    let r = c.later_of.result in
    let R = to_z w64 (of_z w64 r) in
    let is_r = to_z-of_z w64 r (record { sfits = c.later_of.type_inv }) in
    IfSome_then c.first_stood_for.result c.first_stood_for.ensures.recurs (λ x h. (
      behind_first c.args.start (to_z w64 (of_z w64 c.args.start)) r R x (to_z-of_z w64 c.args.start c.ranges.start) c.later_of.ensures.first is_r h.0,
      recurs_begun c.args.self.now.local (g.Z.TimeZone.ahead c.args.self.now.zone) begun x there.stands (from_start begun r R x there.low there.high c.later_of.ensures.second is_r h.0) h.1,
    ))

pub returns-clause-least : goal.returns-clause-least
returns-clause-least g c = λ u later f.
    let begun = c.start_second-begun.result in
    let there = c.start_second-begun.ensures in
    let r = c.later_of.result in
    let R = to_z w64 (of_z w64 r) in
    let is_r = to_z-of_z w64 r (record { sfits = c.later_of.type_inv }) in
    c.first_stood_for.ensures.least f.planned u f.recurs
    (⊎_elim (λ is. first_behind c.args.start (to_z w64 (of_z w64 c.args.start)) r R u (to_z-of_z w64 c.args.start c.ranges.start) is is_r later)
    (λ is. start_behind begun r R u there.low there.high is is_r (f.begun begun there.stands)) c.later_of.ensures.either)
