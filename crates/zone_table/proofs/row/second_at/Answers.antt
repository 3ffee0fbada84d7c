use Rattle.std.proofs.Common.{rules, ◌∙◌, ap, get_or, subst, SFits, w64}
use Rattle.std.proofs.lemmas.Int.{to_z-of_z}
use Rattle.std.proofs.lemmas.List.{get_or_default}
use Rattle.zone_table.specs.declared.row.Row.{Row}
use Rattle.zone_table.specs.Table.{no_row}
use Rattle.zone_table.proofs.row.second_at.Goals as goal

pub returns : goal.returns
returns c =
    let d = c.index-rows-place.result in
    let fits : SFits w64 d.second = search rules in
    let here : SFits w64 (get_or c.args.rows.now c.args.place d).second = subst (λ (r : Row). SFits w64 r.second) c.index-rows-place.is fits in
    to_z-of_z w64 (get_or c.args.rows.now c.args.place d).second here ∙ ap (λ (r : Row). r.second) (get_or_default c.args.rows.now c.args.place d no_row c.requires)
