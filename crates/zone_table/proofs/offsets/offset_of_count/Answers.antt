use Rattle.std.proofs.Common.{arith, ◌≡◌, ◌∙◌, sym, ap}
use Rattle.zone_table.specs.Table.{offset_after}
use Rattle.zone_table.proofs.TableLemmas.{offset_after-none, offset_after-some}
use Rattle.zone_table.proofs.offsets.offset_of_count.Goals as goal

pub returns-then-count-eq0 : goal.returns-then-count-eq0
returns-then-count-eq0 c =
    let none : 0 ≡ c.args.count = omega (arith, c.if-count-eq0.true) in
    sym (offset_after-none c.args.first c.args.rows.now) ∙ ap (offset_after c.args.first c.args.rows.now) none

pub returns-else-count-eq0 : goal.returns-else-count-eq0
returns-else-count-eq0 c = c.table_offset.ensures ∙ sym (offset_after-some c.args.first c.args.rows.now c.args.count (omega (arith, c.if-count-eq0.false)))
