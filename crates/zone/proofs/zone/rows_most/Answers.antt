use Rattle.std.proofs.Common.{arith, ℕ, get_or, sym, ◌∙◌, ◌≡◌, ◌-◌, ap, to_z, of_z, w32, length}
use Rattle.std.proofs.lemmas.Int.{ints, to_z-of_z}
use Rattle.std.proofs.lemmas.List.{get_or_default}
use Rattle.zone_table.specs.Table.{no_row, offset_after}
use Rattle.zone_table.specs.declared.row.Row.{Row}
use Rattle.zone_table.proofs.TableLemmas.{offset_after-none, offset_after-some}
use Rattle.zone.proofs.zone.rows_most.Goals as goal
use Rattle.zone.proofs.zone.rows_most.Goals.{then-rows-eq1, else-rows-eq1}

pub returns-clause-before : goal.returns-clause-before
returns-clause-before c =
    let rows = c.args.rows.now in
    let some = c.requires in
    let most : to_z w32 (of_z w32 c.max.result) ≡ c.max.result = to_z-of_z w32 c.max.result (record { sfits = c.max.type_inv }) in
    let here : to_z w32 (of_z w32 c.local_minus_utc.result) ≡ c.local_minus_utc.result = to_z-of_z w32 c.local_minus_utc.result (record { sfits = c.local_minus_utc.type_inv }) in
    let is : offset_after c.args.first rows (length rows - 1) ≡ c.if-rows-eq1.before = elim c.if-rows-eq1.branch [
      | then-rows-eq1 w ↦
          let one = w.if-rows-eq1.true in
          let is = w.before-is in
          ap (offset_after c.args.first rows) (omega (arith, one)) ∙ offset_after-none c.args.first rows ∙ sym is
      | else-rows-eq1 w ↦
          let other = w.if-rows-eq1.false in
          let is = w.before-is in
          offset_after-some c.args.first rows (length rows - 1) (omega (arith, some, other))
          ∙ ap (λ (k : ℕ). (get_or rows k no_row).offset) (omega arith)
          ∙ sym (is ∙ ap (λ (r : Row). r.offset) (get_or_default rows (length rows - 2) w.index-rows-rows-else-rows-eq1.result no_row (omega (arith, some, other))))
    ] in
    omega (arith, ints, is, most, here, c.local_minus_utc.ensures.value, c.max.ensures.other_bound)
