use Rattle.std.proofs.Common.{ap, ◌∙◌, ◌≡◌, ℤ, to_z, of_z, w32, w64}
use Rattle.std.proofs.lemmas.Int.{to_z-of_z}
use Rattle.zone_rule.specs.Changes.{change_second, last_by, year_of_second}
use Rattle.zone_rule.proofs.LastChanges.{is_daylight-by}
use Rattle.zone_rule.proofs.rule.Daylight.is_last_begun.Goals as goal

pub returns : goal.returns
returns c =
    let d = c.args.self.now in
    let u = c.args.second in
    let here : to_z w64 (of_z w64 u) ≡ u = to_z-of_z w64 u c.ranges.second in
    let year : to_z w32 (of_z w32 c.args.year) ≡ year_of_second u = to_z-of_z w32 c.args.year c.ranges.year ∙ c.requires.own in
    is_daylight-by c.args.standard d u (to_z w64 (of_z w64 c.last_by.result)) (to_z w64 (of_z w64 c.last_by-2.result))
    (to_z-of_z w64 c.last_by.result (record { sfits = c.last_by.type_inv }) ∙ c.last_by.ensures
    ∙ ap (λ (y : ℤ). last_by (change_second d.offset d.ends) y (to_z w64 (of_z w64 u))) year
    ∙ ap (λ (v : ℤ). last_by (change_second d.offset d.ends) (year_of_second u) v) here)
    (to_z-of_z w64 c.last_by-2.result (record { sfits = c.last_by-2.type_inv }) ∙ c.last_by-2.ensures
    ∙ ap (λ (y : ℤ). last_by (change_second c.args.standard d.begins) y (to_z w64 (of_z w64 u))) year
    ∙ ap (λ (v : ℤ). last_by (change_second c.args.standard d.begins) (year_of_second u) v) here)
