use Rattle.std.proofs.Common.{ℤ, ◌≤ℤ◌, ◌<ℤ◌, w64, subst, sym}
use Rattle.std.proofs.lemmas.Int.{to_z-of_z}
use Rattle.std.proofs.lemmas.Option.{IfSome_then}
use Rattle.zoned_rules.proofs.PublicCalls.{back_there}
use Rattle.zoned_rules.proofs.Reached.{found_there_back}
use Rattle.zoned_rules.proofs.zoned_rule.ZonedRule.last_stood_for.Goals as goal

pub returns-in-Some-clause-greatest : goal.returns-in-Some-clause-greatest
returns-in-Some-clause-greatest g c = λ m u h earlier.
    let found = c.in-Some.found in
    subst (λ (x : ℤ). u ≤ℤ x) (sym (back_there (g.Z.TimeZone.ahead c.args.self.now.zone) found c.in-Some.ensures.recurs.1.1.dates))
    (c.in-Some.ensures.greatest m u h (subst (λ (x : ℤ). u <ℤ x) (sym (to_z-of_z w64 c.args.end c.ranges.end)) earlier))

pub returns-in-Some-last_near_change-clause-greatest : goal.returns-in-Some-last_near_change-clause-greatest
returns-in-Some-last_near_change-clause-greatest g c = λ m u h earlier.
    let found = c.in-Some-last_near_change.found in
    subst (λ (x : ℤ). u ≤ℤ x) (sym (back_there (g.Z.TimeZone.ahead c.args.self.now.zone) found c.in-Some-last_near_change.ensures.recurs.1.1.dates))
    (c.in-Some-last_near_change.ensures.greatest m u h (subst (λ (x : ℤ). u <ℤ x) (sym (to_z-of_z w64 c.args.end c.ranges.end)) earlier))

pub returns-clause-greatest : goal.returns-clause-greatest
returns-clause-greatest g c = λ m u h earlier. c.last_planned.ensures.greatest m u h (subst (λ (x : ℤ). u <ℤ x) (sym (to_z-of_z w64 c.args.end c.ranges.end)) earlier)

pub returns-in-Some-clause-recurs : goal.returns-in-Some-clause-recurs
returns-in-Some-clause-recurs g c =
    let ahead = g.Z.TimeZone.ahead c.args.self.now.zone in
    let found = c.in-Some.found in
    let ok = c.in-Some.ensures.recurs in
    found_there_back c.args.self.now.local ahead c.args.end _ found _ (to_z-of_z w64 c.args.end c.ranges.end) (back_there ahead found ok.1.1.dates) ok

pub returns-in-Some-last_near_change-clause-recurs : goal.returns-in-Some-last_near_change-clause-recurs
returns-in-Some-last_near_change-clause-recurs g c =
    let ahead = g.Z.TimeZone.ahead c.args.self.now.zone in
    let found = c.in-Some-last_near_change.found in
    let ok = c.in-Some-last_near_change.ensures.recurs in
    found_there_back c.args.self.now.local ahead c.args.end _ found _ (to_z-of_z w64 c.args.end c.ranges.end) (back_there ahead found ok.1.1.dates) ok

pub returns-clause-recurs : goal.returns-clause-recurs
returns-clause-recurs g c = IfSome_then c.last_planned.result c.last_planned.ensures.recurs (λ x h. (subst (λ (k : ℤ). x <ℤ k) (to_z-of_z w64 c.args.end c.ranges.end) h.0, h.1))
