use Rattle.std.proofs.Common.{arith, rules, ap, refl, ◌≡◌, ◌<◌, pos, ◌<ℤ◌, SFits, w32, w64, to_z, of_z, length}
use Rattle.std.specs.Int.{w128}
use Rattle.std.proofs.lemmas.Int.{int_max_is, ints, to_z-of_z}
use Rattle.zone_rule.proofs.LastChanges.{is_by-fact, is_later-fact}
use Rattle.zone_table.specs.declared.row.Row.{Row}
use Rattle.zone.specs.Parts.{last_row}
use Rattle.zone.proofs.ZoneLemmas.{show_by_rows, show_by_rule}
use Rattle.zone.proofs.zone.is_local_behind.Goals as goal

pub returns-in-Some-clause-rule : goal.returns-in-Some-clause-rule
returns-in-Some-clause-rule c = λ yes.
    let rows = c.args.rows.now in
    let row = c.in-Some.row in
    let fits : SFits w64 row.second = search rules in
    let last : row.second ≡ (last_row rows).second = ap (λ (r : Row). r.second) c.in-Some.ensures.some in
    let most : to_z w32 (of_z w32 c.max-most.result) ≡ c.max-most.result = to_z-of_z w32 c.max-most.result (record { sfits = c.max-most.type_inv }) in
    let of_rows : to_z w32 (of_z w32 c.rows_most.result) ≡ c.rows_most.result = to_z-of_z w32 c.rows_most.result (record { sfits = c.rows_most.type_inv }) in
    let of_rule : to_z w32 (of_z w32 c.rule_most.result) ≡ c.rule_most.result = to_z-of_z w32 c.rule_most.result (record { sfits = c.rule_most.type_inv }) in
    let here : to_z w64 (of_z w64 row.second) ≡ row.second = to_z-of_z w64 row.second fits in
    let local : to_z w64 (of_z w64 c.args.local) ≡ c.args.local = to_z-of_z w64 c.args.local c.ranges.local in
    let shown : to_z w128 (of_z w128 c.local_of.result) ≡ c.local_of.result = to_z-of_z w128 c.local_of.result (record { sfits = c.local_of.type_inv }) in
    let asked : to_z w128 (of_z w128 c.from.result) ≡ c.from.result = to_z-of_z w128 c.from.result (record { sfits = c.from.type_inv }) in
    let by = is_by-fact (to_z w128 (of_z w128 c.local_of.result)) (to_z w128 (of_z w128 c.from.result)) yes in
    show_by_rule c.args.first rows c.args.rule.now c.args.local c.max-most.result c.requires.table (λ some. (
      (λ u. let top = c.rule_most.ensures.most u in omega (arith, ints, top, of_rule, c.max-most.ensures.other_bound)),
      omega (arith, ints, c.rows_most.ensures.before, of_rows, c.max-most.ensures.self_bound),
      omega (arith, ints, c.rows_most.ensures.last, of_rows, c.max-most.ensures.self_bound),
      omega (arith, ints, by, shown, asked, c.local_of.ensures, c.from.ensures, here, local, most, last),
    ))

pub returns-in-Some-clause-rows : goal.returns-in-Some-clause-rows
returns-in-Some-clause-rows c = λ no.
    let rows = c.args.rows.now in
    let row = c.in-Some.row in
    let fits : SFits w64 row.second = search rules in
    let last : row.second ≡ (last_row rows).second = ap (λ (r : Row). r.second) c.in-Some.ensures.some in
    let some : 0 < length rows = c.in-Some.ensures.exists.0 refl in
    let most : to_z w32 (of_z w32 c.max-most.result) ≡ c.max-most.result = to_z-of_z w32 c.max-most.result (record { sfits = c.max-most.type_inv }) in
    let of_rows : to_z w32 (of_z w32 c.rows_most.result) ≡ c.rows_most.result = to_z-of_z w32 c.rows_most.result (record { sfits = c.rows_most.type_inv }) in
    let of_rule : to_z w32 (of_z w32 c.rule_most.result) ≡ c.rule_most.result = to_z-of_z w32 c.rule_most.result (record { sfits = c.rule_most.type_inv }) in
    let here : to_z w64 (of_z w64 row.second) ≡ row.second = to_z-of_z w64 row.second fits in
    let local : to_z w64 (of_z w64 c.args.local) ≡ c.args.local = to_z-of_z w64 c.args.local c.ranges.local in
    let shown : to_z w128 (of_z w128 c.local_of.result) ≡ c.local_of.result = to_z-of_z w128 c.local_of.result (record { sfits = c.local_of.type_inv }) in
    let asked : to_z w128 (of_z w128 c.from.result) ≡ c.from.result = to_z-of_z w128 c.from.result (record { sfits = c.from.type_inv }) in
    let before = is_later-fact (to_z w128 (of_z w128 c.local_of.result)) (to_z w128 (of_z w128 c.from.result)) no in
    let near : c.max-most.result <ℤ pos 86_400 = omega (arith, ints, int_max_is (to_z w32 (of_z w32 c.rows_most.result)) (to_z w32 (of_z w32 c.rule_most.result)), c.max-most.ensures.value, of_rows, of_rule, c.rows_most.ensures.in_range, c.rule_most.ensures.in_range) in
    show_by_rows c.args.first rows c.args.rule.now c.args.local c.requires.table some (c.requires.keeps some).keeps c.rule_most.ensures.near
    (omega (arith, ints, before, shown, asked, c.local_of.ensures, c.from.ensures, here, local, most, last, near))

pub returns-in-None-clause-rule : goal.returns-in-None-clause-rule
returns-in-None-clause-rule c = λ yes.
    show_by_rule c.args.first c.args.rows.now c.args.rule.now c.args.local (pos 0) c.requires.table (λ some. let none = c.in-None.ensures.exists.1 some in absurd cc)
