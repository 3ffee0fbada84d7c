use Rattle.std.proofs.Common.{arith, ◌≡◌, ◌∙◌, ℕ, ◌+◌, ◌-◌, ℤ, ◌+ℤ◌, ◌≤ℤ◌, ◌<ℤ◌, ap, sym, subst, length, w64, to_z, of_z}
use Rattle.std.proofs.lemmas.Int.{ints, to_z-of_z}
use Rattle.chrono_zoned.specs.declared.mapped_local_time.MappedLocalTime.TheVariants.{Single}
use Rattle.chrono_zoned.specs.Zones.{IsMapped}
use Rattle.zone_table.specs.Sequence.{Come, local_start}
use Rattle.zone_table.specs.Table.{offset_after, table_offset, row_second}
use Rattle.zone_table.proofs.LocalTimes.{mapped_after, mapped_both, mapped_first, mapped_none, starts_rise}
use Rattle.zone_table.proofs.SequenceLemmas.{Come-at}
use Rattle.zone_table.proofs.offsets.offsets_near_change.Goals as goal

pub starts_by-count-requires : goal.starts_by-count-requires
starts_by-count-requires c = starts_rise (row_second c.args.rows.now) (offset_after c.args.first c.args.rows.now) (length c.args.rows.now) c.requires

pub returns-then-count-eq0 : goal.returns-then-count-eq0
returns-then-count-eq0 c =
    let rows = c.args.rows.now in
    let key = local_start (row_second rows) (offset_after c.args.first rows) in
    let none : c.starts_by-count.result ≡ 0 = omega (arith, c.if-count-eq0.true) in
    let starts = subst (Come key (length rows) c.args.local) none
    (Come-at key (length rows) (to_z w64 (of_z w64 c.args.local)) c.args.local c.starts_by-count.result (to_z-of_z w64 c.args.local c.ranges.local) c.starts_by-count.ensures) in
    let after : c.offset_of_count-after.result ≡ offset_after c.args.first rows 0 = c.offset_of_count-after.ensures ∙ ap (offset_after c.args.first rows) none in
    subst (λ (x : ℤ). IsMapped (table_offset c.args.first rows) c.args.local (Single x)) (sym after)
    (mapped_first (row_second rows) (offset_after c.args.first rows) (length rows) c.args.local c.requires starts)

pub returns-then-from-local_of : goal.returns-then-from-local_of
returns-then-from-local_of c =
    let rows = c.args.rows.now in
    let key = local_start (row_second rows) (offset_after c.args.first rows) in
    let j : ℕ = c.starts_by-count.result - 1 in
    let some : c.starts_by-count.result ≡ j + 1 = omega (arith, c.if-count-eq0.false) in
    let starts = subst (Come key (length rows) c.args.local) some
    (Come-at key (length rows) (to_z w64 (of_z w64 c.args.local)) c.args.local c.starts_by-count.result (to_z-of_z w64 c.args.local c.ranges.local) c.starts_by-count.ensures) in
    let after : c.offset_of_count-after.result ≡ offset_after c.args.first rows (j + 1) = c.offset_of_count-after.ensures ∙ ap (offset_after c.args.first rows) some in
    let short : c.args.local <ℤ (row_second rows j +ℤ offset_after c.args.first rows (j + 1)) =
    omega (arith, ints, c.if-from-local_of.true, c.from.ensures, c.local_of.ensures, after, c.from.type_inv, c.local_of.type_inv, c.ranges.local.sfits, c.second_at-second.ensures, c.second_at-second.type_inv) in
    mapped_none (row_second rows) (offset_after c.args.first rows) (length rows) c.args.local j c.requires starts short

pub returns-then-from-local_of-2 : goal.returns-then-from-local_of-2
returns-then-from-local_of-2 c =
    let rows = c.args.rows.now in
    let key = local_start (row_second rows) (offset_after c.args.first rows) in
    let j : ℕ = c.starts_by-count.result - 1 in
    let some : c.starts_by-count.result ≡ j + 1 = omega (arith, c.if-count-eq0.false) in
    let starts = subst (Come key (length rows) c.args.local) some
    (Come-at key (length rows) (to_z w64 (of_z w64 c.args.local)) c.args.local c.starts_by-count.result (to_z-of_z w64 c.args.local c.ranges.local) c.starts_by-count.ensures) in
    let after : c.offset_of_count-after.result ≡ offset_after c.args.first rows (j + 1) = c.offset_of_count-after.ensures ∙ ap (offset_after c.args.first rows) some in
    let before : c.offset_of_count-before.result ≡ offset_after c.args.first rows j = c.offset_of_count-before.ensures in
    let past : (row_second rows j +ℤ offset_after c.args.first rows (j + 1)) ≤ℤ c.args.local =
    omega (arith, ints, c.if-from-local_of.false, c.from.ensures, c.local_of.ensures, after, c.from.type_inv, c.local_of.type_inv, c.ranges.local.sfits, c.second_at-second.ensures, c.second_at-second.type_inv) in
    let short : c.args.local <ℤ (row_second rows j +ℤ offset_after c.args.first rows j) =
    omega (arith, ints, c.if-from-local_of-2.true, c.from-2.ensures, c.local_of-2.ensures, before, c.from-2.type_inv, c.local_of-2.type_inv, c.ranges.local.sfits, c.second_at-second.ensures, c.second_at-second.type_inv) in
    rw (after, before) (mapped_both (row_second rows) (offset_after c.args.first rows) (length rows) c.args.local j c.requires starts past short)

pub returns : goal.returns
returns c =
    let rows = c.args.rows.now in
    let key = local_start (row_second rows) (offset_after c.args.first rows) in
    let j : ℕ = c.starts_by-count.result - 1 in
    let some : c.starts_by-count.result ≡ j + 1 = omega (arith, c.if-count-eq0.false) in
    let starts = subst (Come key (length rows) c.args.local) some
    (Come-at key (length rows) (to_z w64 (of_z w64 c.args.local)) c.args.local c.starts_by-count.result (to_z-of_z w64 c.args.local c.ranges.local) c.starts_by-count.ensures) in
    let after : c.offset_of_count-after.result ≡ offset_after c.args.first rows (j + 1) = c.offset_of_count-after.ensures ∙ ap (offset_after c.args.first rows) some in
    let before : c.offset_of_count-before.result ≡ offset_after c.args.first rows j = c.offset_of_count-before.ensures in
    let past : (row_second rows j +ℤ offset_after c.args.first rows (j + 1)) ≤ℤ c.args.local =
    omega (arith, ints, c.if-from-local_of.false, c.from.ensures, c.local_of.ensures, after, c.from.type_inv, c.local_of.type_inv, c.ranges.local.sfits, c.second_at-second.ensures, c.second_at-second.type_inv) in
    let over : (row_second rows j +ℤ offset_after c.args.first rows j) ≤ℤ c.args.local =
    omega (arith, ints, c.if-from-local_of-2.false, c.from-2.ensures, c.local_of-2.ensures, before, c.from-2.type_inv, c.local_of-2.type_inv, c.ranges.local.sfits, c.second_at-second.ensures, c.second_at-second.type_inv) in
    subst (λ (x : ℤ). IsMapped (table_offset c.args.first rows) c.args.local (Single x)) (sym after)
    (mapped_after (row_second rows) (offset_after c.args.first rows) (length rows) c.args.local j c.requires starts past over)
