use Rattle.std.proofs.Common.{◌≡◌, rules, true, false, ℤ, pos, ◌≤ℤ◌, ◌<ℤ◌, of_z, to_z, w64, ap, subst, sym, ◌∙◌}
use Rattle.std.proofs.lemmas.Bool.{both_ways}
use Rattle.std.proofs.lemmas.Int.{by_lt_z, to_z-of_z}
use Rattle.zoned_rules.specs.ZonedSets.{IsIncluded, lists_second}
use Rattle.zoned_rules.proofs.PublicCalls.{back_there}
use Rattle.zoned_rules.proofs.SecondsAgain.{at_least, far_low, found_behind, next_low}
use Rattle.zoned_rules.proofs.zoned_recurrence.ZonedRecurrence.first_member.Goals as goal

pub returns-then-not-lists-clause-member : goal.returns-then-not-lists-clause-member
returns-then-not-lists-clause-member g c =
    let r = c.args.self.now.rule.local in
    let ahead = g.Z.TimeZone.ahead c.args.self.now.rule.zone in
    let bound = c.args.self.now.rule.bound in
    let next = c.in-Some.next in
    let ok = c.in-Some.ensures.included in
    let is : to_z w64 (of_z w64 next) ≡ next = back_there ahead next ok.1.has_dates in
    let kept : lists_second c.args.self.now.exceptions.now (to_z w64 (of_z w64 next)) ≡ false = search rules in (
      found_behind c.args.start (to_z w64 (of_z w64 c.args.start)) (to_z w64 c.loop-next.second-bits) next (to_z w64 (of_z w64 next)) (to_z-of_z w64 c.args.start c.ranges.start) c.loop-next.invariant.0 ok.0 is,
      record { included = subst (IsIncluded r ahead bound c.args.self.now.dates.now) (sym is) ok.1; kept = kept },
    )

pub returns-then-not-lists-clause-least : goal.returns-then-not-lists-clause-least
returns-then-not-lists-clause-least g c = λ u later f.
    let next = c.in-Some.next in
    let from = c.loop-next.invariant.3 u (subst (λ (x : ℤ). x <ℤ u) (sym (to_z-of_z w64 c.args.start c.ranges.start)) later) f in
    subst (λ (x : ℤ). x ≤ℤ u) (sym (back_there (g.Z.TimeZone.ahead c.args.self.now.rule.zone) next c.in-Some.ensures.included.1.has_dates)) (c.in-Some.ensures.least u from f.included)

pub loop-next-preserved : goal.loop-next-preserved
loop-next-preserved g c =
    let s : ℤ = to_z w64 c.loop-next.second-bits in
    let inv = c.loop-next.invariant in
    let next = c.in-Some.next in
    let ok = c.in-Some.ensures.included in
    let dates = ok.1.has_dates in
    let is : to_z w64 (of_z w64 next) ≡ next = back_there (g.Z.TimeZone.ahead c.args.self.now.rule.zone) next dates in
    let excluded : lists_second c.args.self.now.exceptions.now (to_z w64 (of_z w64 next)) ≡ true = search rules in (
      next_low s next (to_z w64 (of_z w64 next)) _ inv.0 ok.0 is,
      far_low next (to_z w64 (of_z w64 next)) dates.utc is,
      subst (λ (x : ℤ). x ≤ℤ pos 8_210_266_876_799) (sym is) dates.utc.1,
      λ u later f.
          let le : next ≤ℤ u = c.in-Some.ensures.least u (inv.3 u later f) f.included in
          by_lt_z next u (λ lt. subst (λ (x : ℤ). x <ℤ u) (sym is) lt)
          (λ ge.
          let same : to_z w64 (of_z w64 next) ≡ u = at_least next (to_z w64 (of_z w64 next)) u is le ge in
          absurd (both_ways (lists_second c.args.self.now.exceptions.now u) f.kept (ap (lists_second c.args.self.now.exceptions.now) (sym same) ∙ excluded))),
    )

pub returns-clause-least : goal.returns-clause-least
returns-clause-least g c = λ u later f.
    c.in_default.ensures.least u (c.loop-next.invariant.3 u (subst (λ (x : ℤ). x <ℤ u) (sym (to_z-of_z w64 c.args.start c.ranges.start)) later) f) f.included
