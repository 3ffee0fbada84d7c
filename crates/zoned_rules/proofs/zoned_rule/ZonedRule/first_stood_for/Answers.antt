use Rattle.std.proofs.Common.{ℤ, ◌≤ℤ◌, ◌<ℤ◌, w64, subst, sym}
use Rattle.std.proofs.lemmas.Int.{to_z-of_z}
use Rattle.std.proofs.lemmas.Option.{IfSome_then}
use Rattle.zoned_rules.proofs.PublicCalls.{back_there}
use Rattle.zoned_rules.proofs.Reached.{found_there}
use Rattle.zoned_rules.proofs.zoned_rule.ZonedRule.first_stood_for.Goals as goal

pub returns-in-Some-clause-least : goal.returns-in-Some-clause-least
returns-in-Some-clause-least g c = λ m u h later.
    let found = c.in-Some.found in
    subst (λ (x : ℤ). x ≤ℤ u) (sym (back_there (g.Z.TimeZone.ahead c.args.self.now.zone) found c.in-Some.ensures.recurs.1.1.dates))
    (c.in-Some.ensures.least m u h (subst (λ (x : ℤ). x <ℤ u) (sym (to_z-of_z w64 c.args.after c.ranges.after)) later))

pub returns-in-Some-first_near_change-clause-least : goal.returns-in-Some-first_near_change-clause-least
returns-in-Some-first_near_change-clause-least g c = λ m u h later.
    let found = c.in-Some-first_near_change.found in
    subst (λ (x : ℤ). x ≤ℤ u) (sym (back_there (g.Z.TimeZone.ahead c.args.self.now.zone) found c.in-Some-first_near_change.ensures.recurs.1.1.dates))
    (c.in-Some-first_near_change.ensures.least m u h (subst (λ (x : ℤ). x <ℤ u) (sym (to_z-of_z w64 c.args.after c.ranges.after)) later))

pub returns-clause-least : goal.returns-clause-least
returns-clause-least g c = λ m u h later. c.first_planned.ensures.least m u h (subst (λ (x : ℤ). x <ℤ u) (sym (to_z-of_z w64 c.args.after c.ranges.after)) later)

pub returns-in-Some-clause-recurs : goal.returns-in-Some-clause-recurs
returns-in-Some-clause-recurs g c =
    let ahead = g.Z.TimeZone.ahead c.args.self.now.zone in
    let found = c.in-Some.found in
    let ok = c.in-Some.ensures.recurs in
    found_there c.args.self.now.local ahead c.args.after _ found _ (to_z-of_z w64 c.args.after c.ranges.after) (back_there ahead found ok.1.1.dates) ok

pub returns-in-Some-first_near_change-clause-recurs : goal.returns-in-Some-first_near_change-clause-recurs
returns-in-Some-first_near_change-clause-recurs g c =
    let ahead = g.Z.TimeZone.ahead c.args.self.now.zone in
    let found = c.in-Some-first_near_change.found in
    let ok = c.in-Some-first_near_change.ensures.recurs in
    found_there c.args.self.now.local ahead c.args.after _ found _ (to_z-of_z w64 c.args.after c.ranges.after) (back_there ahead found ok.1.1.dates) ok

pub returns-clause-recurs : goal.returns-clause-recurs
returns-clause-recurs g c = IfSome_then c.first_planned.result c.first_planned.ensures.recurs (λ x h. (subst (λ (k : ℤ). k <ℤ x) (to_z-of_z w64 c.args.after c.ranges.after) h.0, h.1))
