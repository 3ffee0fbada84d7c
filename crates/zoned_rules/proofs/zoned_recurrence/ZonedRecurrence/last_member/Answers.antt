use Rattle.std.proofs.Common.{◌≡◌, rules, true, false, ℤ, pos, neg_ℤ, ◌≤ℤ◌, ◌<ℤ◌, of_z, to_z, w64, ap, subst, sym, ◌∙◌}
use Rattle.std.proofs.lemmas.Bool.{both_ways}
use Rattle.std.proofs.lemmas.Int.{by_lt_z, to_z-of_z}
use Rattle.zoned_rules.specs.ZonedSets.{IsIncluded, lists_second}
use Rattle.zoned_rules.proofs.PublicCalls.{back_there}
use Rattle.zoned_rules.proofs.SecondsAgain.{at_least, far_high, found_before, previous_high}
use Rattle.zoned_rules.proofs.zoned_recurrence.ZonedRecurrence.last_member.Goals as goal

pub returns-then-not-lists-clause-member : goal.returns-then-not-lists-clause-member
returns-then-not-lists-clause-member g c =
    let r = c.args.self.now.rule.local in
    let ahead = g.Z.TimeZone.ahead c.args.self.now.rule.zone in
    let bound = c.args.self.now.rule.bound in
    let previous = c.in-Some.previous in
    let ok = c.in-Some.ensures.included in
    let is : to_z w64 (of_z w64 previous) ≡ previous = back_there ahead previous ok.1.has_dates in
    let kept : lists_second c.args.self.now.exceptions.now (to_z w64 (of_z w64 previous)) ≡ false = search rules in (
      found_before c.args.end (to_z w64 (of_z w64 c.args.end)) (to_z w64 c.loop-previous.second-bits) previous (to_z w64 (of_z w64 previous)) (to_z-of_z w64 c.args.end c.ranges.end) c.loop-previous.invariant.0 ok.0 is,
      record { included = subst (IsIncluded r ahead bound c.args.self.now.dates.now) (sym is) ok.1; kept = kept },
    )

pub returns-then-not-lists-clause-greatest : goal.returns-then-not-lists-clause-greatest
returns-then-not-lists-clause-greatest g c = λ u earlier f.
    let previous = c.in-Some.previous in
    let to = c.loop-previous.invariant.3 u (subst (λ (x : ℤ). u <ℤ x) (sym (to_z-of_z w64 c.args.end c.ranges.end)) earlier) f in
    subst (λ (x : ℤ). u ≤ℤ x) (sym (back_there (g.Z.TimeZone.ahead c.args.self.now.rule.zone) previous c.in-Some.ensures.included.1.has_dates)) (c.in-Some.ensures.greatest u to f.included)

pub loop-previous-preserved : goal.loop-previous-preserved
loop-previous-preserved g c =
    let s : ℤ = to_z w64 c.loop-previous.second-bits in
    let inv = c.loop-previous.invariant in
    let previous = c.in-Some.previous in
    let ok = c.in-Some.ensures.included in
    let dates = ok.1.has_dates in
    let is : to_z w64 (of_z w64 previous) ≡ previous = back_there (g.Z.TimeZone.ahead c.args.self.now.rule.zone) previous dates in
    let excluded : lists_second c.args.self.now.exceptions.now (to_z w64 (of_z w64 previous)) ≡ true = search rules in (
      previous_high s previous (to_z w64 (of_z w64 previous)) _ inv.0 ok.0 is,
      subst (λ (x : ℤ). neg_ℤ (pos 8_334_601_228_800) ≤ℤ x) (sym is) dates.utc.0,
      far_high previous (to_z w64 (of_z w64 previous)) dates.utc is,
      λ u earlier f.
          let le : u ≤ℤ previous = c.in-Some.ensures.greatest u (inv.3 u earlier f) f.included in
          by_lt_z u previous (λ lt. subst (λ (x : ℤ). u <ℤ x) (sym is) lt)
          (λ ge.
          let same : to_z w64 (of_z w64 previous) ≡ u = at_least previous (to_z w64 (of_z w64 previous)) u is ge le in
          absurd (both_ways (lists_second c.args.self.now.exceptions.now u) f.kept (ap (lists_second c.args.self.now.exceptions.now) (sym same) ∙ excluded))),
    )

pub returns-clause-greatest : goal.returns-clause-greatest
returns-clause-greatest g c = λ u earlier f.
    c.in_default.ensures.greatest u (c.loop-previous.invariant.3 u (subst (λ (x : ℤ). u <ℤ x) (sym (to_z-of_z w64 c.args.end c.ranges.end)) earlier) f) f.included
