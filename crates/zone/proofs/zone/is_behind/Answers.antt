use Rattle.std.proofs.Common.{rules, ap, ◌∙◌, SFits, sym, refl, w64, to_z, of_z}
use Rattle.std.proofs.lemmas.Int.{to_z-of_z}
use Rattle.zone_table.specs.declared.row.Row.{Row}
use Rattle.zone.proofs.ZoneLemmas.{behind_test, is_behind-come}
use Rattle.zone.proofs.zone.is_behind.Goals as goal

pub returns-in-Some : goal.returns-in-Some
returns-in-Some c =
    let row = c.in-Some.row in
    let fits : SFits w64 row.second = search rules in
    behind_test c.args.rows.now c.requires (to_z w64 (of_z w64 row.second)) c.args.second (to_z w64 (of_z w64 c.args.second)) (c.in-Some.ensures.exists.0 refl)
    (to_z-of_z w64 row.second fits ∙ ap (λ (r : Row). r.second) c.in-Some.ensures.some)
    (to_z-of_z w64 c.args.second c.ranges.second)

pub returns-in-None : goal.returns-in-None
returns-in-None c = sym (is_behind-come c.args.rows.now c.requires c.args.second (λ some. let none = c.in-None.ensures.exists.1 some in absurd cc))
