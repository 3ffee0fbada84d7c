use Rattle.std.proofs.Common.{◌≡◌, ℤ, ◌≤ℤ◌, ◌<ℤ◌, of_z, to_z, w64, subst, sym}
use Rattle.std.proofs.lemmas.Int.{to_z-of_z}
use Rattle.zoned_rules.specs.Recurs.{Recurs}
use Rattle.zoned_rules.proofs.PublicCalls.{back_there}
use Rattle.zoned_rules.proofs.Reached.{recurs_begun}
use Rattle.zoned_rules.proofs.SecondsAgain.{before_start, ends_before, not_before_start, start_again}
use Rattle.zoned_rules.proofs.zoned_rule.ZonedRule.last_before.Goals as goal

pub returns-in_err-last-clause-greatest : goal.returns-in_err-last-clause-greatest
returns-in_err-last-clause-greatest g c = λ u earlier f.
    absurd (c.in_err-last.ensures.greatest f.planned u f.recurs (subst (λ (x : ℤ). u <ℤ x) (sym (to_z-of_z w64 c.args.end c.ranges.end)) earlier))

pub returns-then-last-begun-clause-greatest : goal.returns-then-last-begun-clause-greatest
returns-then-last-begun-clause-greatest g c = λ u earlier f.
    let there = c.start_second-begun.ensures in
    let begun = c.start_second-begun.result in
    let last = c.in_ok-last.last in
    let high = c.in_ok-last.ensures.greatest f.planned u f.recurs (subst (λ (x : ℤ). u <ℤ x) (sym (to_z-of_z w64 c.args.end c.ranges.end)) earlier) in
    absurd (before_start last begun (to_z w64 (of_z w64 last)) (to_z w64 (of_z w64 begun)) u (back_there (g.Z.TimeZone.ahead c.args.self.now.zone) last c.in_ok-last.ensures.recurs.1.1.dates) (start_again begun there.low there.high)
    c.if-last-begun.true high (f.begun begun there.stands))

pub returns-clause-recurs : goal.returns-clause-recurs
returns-clause-recurs g c =
    let r = c.args.self.now.local in
    let ahead = g.Z.TimeZone.ahead c.args.self.now.zone in
    let there = c.start_second-begun.ensures in
    let begun = c.start_second-begun.result in
    let last = c.in_ok-last.last in
    let ok = c.in_ok-last.ensures.recurs in
    let is : to_z w64 (of_z w64 last) ≡ last = back_there ahead last ok.1.1.dates in (
      ends_before c.args.end (to_z w64 (of_z w64 c.args.end)) last (to_z w64 (of_z w64 last)) (to_z-of_z w64 c.args.end c.ranges.end) is ok.0,
      subst (λ (x : ℤ). Recurs r ahead x) (sym is)
          (recurs_begun r ahead begun last there.stands (not_before_start last begun (to_z w64 (of_z w64 last)) (to_z w64 (of_z w64 begun)) is (start_again begun there.low there.high) c.if-last-begun.false) ok.1),
    )

pub returns-clause-greatest : goal.returns-clause-greatest
returns-clause-greatest g c = λ u earlier f.
    let last = c.in_ok-last.last in
    subst (λ (x : ℤ). u ≤ℤ x) (sym (back_there (g.Z.TimeZone.ahead c.args.self.now.zone) last c.in_ok-last.ensures.recurs.1.1.dates))
    (c.in_ok-last.ensures.greatest f.planned u f.recurs (subst (λ (x : ℤ). u <ℤ x) (sym (to_z-of_z w64 c.args.end c.ranges.end)) earlier))
