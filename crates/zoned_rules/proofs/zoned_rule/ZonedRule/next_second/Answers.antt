use Rattle.std.proofs.Common.{ℤ, ◌≤ℤ◌, ◌<ℤ◌, arith, of_z, to_z, w64, subst, sym}
use Rattle.std.proofs.lemmas.Int.{ints, to_z-of_z}
use Rattle.zoned_rules.specs.Recurs.{RecursWithin}
use Rattle.zoned_rules.proofs.PublicCalls.{back_there}
use Rattle.zoned_rules.proofs.SecondsAgain.{last_again, later_again, no_later_than}
use Rattle.zoned_rules.proofs.zoned_rule.ZonedRule.next_second.Goals as goal

pub returns-then-last_second-found-clause-least : goal.returns-then-last_second-found-clause-least
returns-then-last_second-found-clause-least g c = λ u later f.
    let found = c.in_ok-found.found in
    let last = c.last_second in
    let is = back_there (g.Z.TimeZone.ahead c.args.self.now.zone) found c.in_ok-found.ensures.recurs.1.recurs.dates in
    let reached = c.in_ok-found.ensures.least u (subst (λ (x : ℤ). x <ℤ u) (sym (to_z-of_z w64 c.args.start c.ranges.start)) later) f.recurs in
    let high = last.ensures.outside u f.recurs f.within in
    omega (arith, ints, is, last_again last.result last.ensures.low last.ensures.high, c.if-last_second-found.true, reached, high)

pub returns-clause-recurs : goal.returns-clause-recurs
returns-clause-recurs g c =
    let r = c.args.self.now.local in
    let ahead = g.Z.TimeZone.ahead c.args.self.now.zone in
    let found = c.in_ok-found.found in
    let ok = c.in_ok-found.ensures.recurs in
    let last = c.last_second in
    let is = back_there ahead found ok.1.recurs.dates in (
      later_again c.args.start (to_z w64 (of_z w64 c.args.start)) found _ (to_z-of_z w64 c.args.start c.ranges.start) is ok.0,
      subst (λ (x : ℤ). RecursWithin r ahead c.args.self.now.bound x) (sym is)
          (record { recurs = ok.1; within = last.ensures.inside found ok.1 (no_later_than last.result _ found _ (last_again last.result last.ensures.low last.ensures.high) is c.if-last_second-found.false) }),
    )

pub returns-clause-least : goal.returns-clause-least
returns-clause-least g c = λ u later f.
    let found = c.in_ok-found.found in
    let at = sym (to_z-of_z w64 c.args.start c.ranges.start) in
    subst (λ (x : ℤ). x ≤ℤ u) (sym (back_there (g.Z.TimeZone.ahead c.args.self.now.zone) found c.in_ok-found.ensures.recurs.1.recurs.dates))
    (c.in_ok-found.ensures.least u (subst (λ (x : ℤ). x <ℤ u) at later) f.recurs)
