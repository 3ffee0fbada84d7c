use Rattle.std.proofs.Common.{◌≡◌, ℤ, of_z, to_z, w64, ap, subst, sym, ◌∙◌}
use Rattle.std.proofs.lemmas.Bool.{both_ways}
use Rattle.std.proofs.lemmas.Int.{to_z-of_z}
use Rattle.chrono_instant.specs.Instants.{epoch_second}
use Rattle.zoned_rules.specs.LocalInstants.{HasDates, IsInstantOf}
use Rattle.zoned_rules.proofs.Reached.{recurs_at_one}
use Rattle.zoned_rules.proofs.Standing.{stands_once}
use Rattle.zoned_rules.proofs.zoned_rule.ZonedRule.stands_for.Goals as goal

pub returns-then-second_of-second-clause-no : goal.returns-then-second_of-second-clause-no
returns-then-second_of-second-clause-no g c = λ not m same h.
    let ahead = g.Z.TimeZone.ahead c.args.self.now.zone in
    let is : c.second_of.result ≡ c.args.second = stands_once ahead (epoch_second c.args.local) c.second_of.result c.args.second c.second_of.ensures.stands (subst (λ (k : ℤ). IsInstantOf ahead k c.args.second) same h.stands) in
    c.if-second_of-second.true (ap (λ (k : ℤ). of_z w64 k) is)

pub returns-clause-no : goal.returns-clause-no
returns-clause-no g c = λ not m same h.
    let ahead = g.Z.TimeZone.ahead c.args.self.now.zone in
    let back : to_z w64 (of_z w64 c.args.second) ≡ c.args.second = to_z-of_z w64 c.args.second c.ranges.second in
    both_ways c.has_dates.result not (c.has_dates.ensures.1 (subst (λ (k : ℤ). HasDates ahead k) (sym back) h.dates))

pub returns-clause-yes : goal.returns-clause-yes
returns-clause-yes g c = λ yes.
    let r = c.args.self.now.local in
    let ahead = g.Z.TimeZone.ahead c.args.self.now.zone in
    let second = c.args.second in
    let x = c.second_of.result in
    let here : to_z w64 (of_z w64 second) ≡ second = to_z-of_z w64 second c.ranges.second in
    let back : to_z w64 (of_z w64 x) ≡ x = to_z-of_z w64 x (record { sfits = c.second_of.type_inv }) in
    let same : x ≡ second = sym back ∙ ap (λ b. to_z w64 b) c.if-second_of-second.false ∙ here in
    recurs_at_one r ahead c.args.local second c.requires (subst (λ (k : ℤ). IsInstantOf ahead (epoch_second c.args.local) k) same c.second_of.ensures.stands) (subst (λ (k : ℤ). HasDates ahead k) here (c.has_dates.ensures.0 yes))
