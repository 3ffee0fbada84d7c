use Rattle.std.proofs.Common.{◌≡◌, ◌∙◌, ℕ, ◌+◌, ◌-◌, ◌≤◌, ℤ, pos, ◌+ℤ◌, ◌-ℤ◌, ◌<ℤ◌, SFits, ap, sym, subst, arith, length, w64, to_z, of_z}
use Rattle.std.proofs.lemmas.Int.{ints, to_z-of_z}
use Rattle.chrono_zoned.specs.declared.mapped_local_time.MappedLocalTime.TheVariants.{Single}
use Rattle.chrono_zoned.specs.Offsets.{IsOffset}
use Rattle.chrono_zoned.specs.Zones.{IsMapped}
use Rattle.zone_table.specs.Table.{offset_after, row_second, table_offset}
use Rattle.zone_table.proofs.LocalTimes.{seconds_rise, settled_after, settled_first}
use Rattle.zone_table.proofs.SearchLemmas.{offset-behind, row_in}
use Rattle.zone_table.proofs.SequenceLemmas.{Come-at}
use Rattle.zone_table.proofs.TableLemmas.{offset_after-none}
use Rattle.zone_table.proofs.offsets.settled_offset.Goals as goal

pub last_begun-requires : goal.last_begun-requires
last_begun-requires c = seconds_rise (row_second c.args.rows.now) (offset_after c.args.first c.args.rows.now) (length c.args.rows.now) c.requires

-- the second that a checked sum is, read back
read_back : (v l t : ℤ) → SFits w64 l → SFits w64 (to_z w64 (of_z w64 l) +ℤ t) → v ≡ (to_z w64 (of_z w64 l) +ℤ t) → to_z w64 (of_z w64 v) ≡ (l +ℤ t)
read_back v l t here fits is = to_z-of_z w64 v (subst (SFits w64) (sym is) fits) ∙ is ∙ ap (λ (x : ℤ). x +ℤ t) (to_z-of_z w64 l here)

pub returns-in_default : goal.returns-in_default
returns-in_default c =
    let rows = c.args.rows.now in
    let late : to_z w64 (of_z w64 c.in_ok-late.late) ≡ (c.args.local +ℤ pos 86_400) = read_back c.in_ok-late.late c.args.local (pos 86_400) c.ranges.local c.in_ok-late.ensures.0 c.in_ok-late.ensures.1 in
    let come = Come-at (row_second rows) (length rows) (to_z w64 (of_z w64 c.in_ok-late.late)) (c.args.local +ℤ pos 86_400) 0 late c.in_default.ensures.none in
    subst (λ (x : ℤ). IsMapped (table_offset c.args.first rows) c.args.local (Single x)) (offset_after-none c.args.first rows)
    (settled_first (row_second rows) (offset_after c.args.first rows) (length rows) c.args.local c.requires c.touch_offsets.ensures.here c.touch_offsets.ensures.next come.later)

pub returns-then-second_at-early : goal.returns-then-second_at-early
returns-then-second_at-early c =
    let rows = c.args.rows.now in
    let from = c.in-Some.from.now in
    let j : ℕ = length rows - length from in
    let last = c.in-Some.ensures.some in
    let late : to_z w64 (of_z w64 c.in_ok-late.late) ≡ (c.args.local +ℤ pos 86_400) = read_back c.in_ok-late.late c.args.local (pos 86_400) c.ranges.local c.in_ok-late.ensures.0 c.in_ok-late.ensures.1 in
    let come = Come-at (row_second rows) (length rows) (to_z w64 (of_z w64 c.in_ok-late.late)) (c.args.local +ℤ pos 86_400) (j + 1) late last.come in
    let bound : j + 1 ≤ length rows = come.bound in
    let before : IsOffset (offset_after c.args.first rows j) = subst (λ (k : ℕ). IsOffset (offset_after c.args.first rows k)) (omega arith) c.touch_offsets-2.ensures.before in
    let first_row : row_second from 0 ≡ row_second rows j = row_in rows from 0 last.part ∙ (let same : j + 0 ≡ j = omega arith in ap (row_second rows) same) in
    let early : row_second rows j <ℤ (c.args.local -ℤ pos 86_400) =
    omega (arith, ints, c.if-second_at-early.true, c.second_at.ensures, c.second_at.type_inv, first_row, c.in_ok-early.ensures.0, c.in_ok-early.ensures.1, c.ranges.local.sfits) in
    subst (λ (x : ℤ). IsMapped (table_offset c.args.first rows) c.args.local (Single x)) (sym (c.table_offset.ensures ∙ offset-behind c.args.first rows from last.part))
    (settled_after (row_second rows) (offset_after c.args.first rows) (length rows) c.args.local j c.requires (omega (arith, bound)) before c.touch_offsets-2.ensures.here c.touch_offsets-2.ensures.next early come.later)
