use Rattle.std.proofs.Common.{◌≡◌, rules, ℤ, ◌<ℤ◌, ◌∷◌, of_z, to_z, w64, ◌∙◌}
use Rattle.std.proofs.lemmas.Int.{to_z-of_z}
use Rattle.chrono_instant.specs.Instants.{epoch_second}
use Rattle.zoned_rules.specs.Private.{IsReached}
use Rattle.zoned_rules.proofs.InstantLists.{walks_on}
use Rattle.zoned_rules.proofs.listed_instants.first_listed.Goals as goal

pub loop-first-preserved : goal.loop-first-preserved
loop-first-preserved g c =
    let x : ℤ = to_z w64 (of_z w64 c.args.after) in
    let t = c.timestamp.result in
    let s : ℤ = to_z w64 (of_z w64 t) in
    let at : s ≡ epoch_second c.in-Some.first.now.utc = to_z-of_z w64 t (record { sfits = c.timestamp.type_inv }) ∙ c.timestamp.ensures.value in
    let is : c.loop-first.rest.now ≡ (c.in-Some.first.now ∷ c.in-Some.others.now) = search rules in
    walks_on IsReached (λ (c' : ℤ). x <ℤ c') (g.Z.TimeZone.ahead c.args.zone) c.args.instants.now s c.in-Some.first.now c.loop-first.rest.now c.in-Some.others.now c.loop-first.best c.second_after.result c.earlier-best.result is at c.loop-first.invariant
    (record { found_it = c.second_after.ensures.found; only = c.second_after.ensures.only }) c.earlier-best.ensures.least c.earlier-best.ensures.either
