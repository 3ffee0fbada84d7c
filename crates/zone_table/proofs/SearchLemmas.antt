-- The search for the last row that has begun.
use Rattle.std.proofs.Common.{◌≡◌, ℕ, ◌+◌, ◌-◌, ◌/◌, ◌≤◌, ◌<◌, ℤ, ◌≤ℤ◌, ◌<ℤ◌, List, drop, length, if◌then◌else◌, int_le, ap, sym, ◌∙◌, subst, refl, arith}
use Rattle.std.proofs.lemmas.Int.{by_lt_z, ints}
use Rattle.std.proofs.lemmas.List.{drop-drop, get_or-drop, length-drop}
use Rattle.chrono_zoned.proofs.TimeLemmas.{int_le-above, int_le-below}
use Rattle.zone_table.specs.declared.row.Row.{Row}
use Rattle.zone_table.specs.Search.{FromLast}
use Rattle.zone_table.specs.Sequence.{Come, IsRising}
use Rattle.zone_table.specs.Table.{no_row, offset_after, row_at, row_second, table_offset}
use Rattle.zone_table.proofs.SequenceLemmas.{Come-count, IsRising-le}
use Rattle.zone_table.proofs.TableLemmas.{offset_after-none, offset_after-some}

-- `from` are the last of the rows, the first of them has begun by the second u, and those from the place `width` on have not
pub record Within (rows from : List Row) (u : ℤ) (width : ℕ) : Type 0 where
  pub part : from ≡ drop (length rows - length from) rows
  pub some : 0 < width
  pub bound : width ≤ length from
  pub begun : row_second from 0 ≤ℤ u
  pub later : (i : ℕ) → width ≤ i → i < length from → u <ℤ row_second from i

-- the row i behind k others
row_behind : (rows : List Row) (k i : ℕ) → row_second (drop k rows) i ≡ row_second rows (k + i)
row_behind rows k i = ap (λ (r : Row). r.second) (get_or-drop k rows i no_row)

-- the same where they are the last of the rows
pub row_in : (rows from : List Row) (i : ℕ) → from ≡ drop (length rows - length from) rows → row_second from i ≡ row_second rows (length rows - length from + i)
row_in rows from i part = ap (λ (l : List Row). row_second l i) part ∙ row_behind rows (length rows - length from) i

part_short : (rows from : List Row) → from ≡ drop (length rows - length from) rows → length from ≤ length rows
part_short rows from part =
    let long = ap length part ∙ length-drop (length rows - length from) rows in
    omega (arith, long)

-- all rows are within their number
pub Within-all : (rows : List Row) (u : ℤ) → 0 < length rows → row_second rows 0 ≤ℤ u → Within rows rows u (length rows)
Within-all rows u some begun = record {
  part = let none : length rows - length rows ≡ 0 = omega arith in rw none refl;
  some = some;
  bound = omega arith;
  begun = begun;
  later = λ i le lt. absurd (omega (arith, le, lt));
}

-- a step ahead, where the row at the place has begun
ahead : (rows from : List Row) (u : ℤ) (width place : ℕ) → Within rows from u width → place < width → row_second from place ≤ℤ u → Within rows (drop place from) u (width - place)
ahead rows from u width place at lt here =
    let bound : width ≤ length from = at.bound in
    let short = part_short rows from at.part in
    let long : length (drop place from) ≡ length from - place = length-drop place from in
    record {
      part =
          let sum : length rows - length from + place ≡ length rows - length (drop place from) = omega (arith, long, short, bound, lt) in
          ap (drop place) at.part ∙ drop-drop place (length rows - length from) rows ∙ ap (λ k. drop k rows) sum;
      some = omega (arith, lt);
      bound = omega (arith, long, bound);
      begun = let same : row_second (drop place from) 0 ≡ row_second from place = (let first : place + 0 ≡ place = omega arith in row_behind from place 0 ∙ ap (row_second from) first) in rw same here;
      later = λ i le below. rw (row_behind from place i) (at.later (place + i) (omega (arith, le, lt)) (omega (arith, below, long)));
    }

-- no step, where it has not
stays : (rows from : List Row) (u : ℤ) (width place : ℕ) → IsRising (row_second rows) (length rows) → Within rows from u width → place < width → place + place ≤ width → u <ℤ row_second from place → Within rows from u (width - place)
stays rows from u width place up at lt half here =
    let bound : width ≤ length from = at.bound in
    let short = part_short rows from at.part in
    record {
      part = at.part;
      some = omega (arith, lt);
      bound = omega (arith, bound);
      begun = at.begun;
      later = λ i le below.
          let k : ℕ = length rows - length from in
          let rise = IsRising-le (row_second rows) (length rows) up (k + place) (k + i) (omega (arith, le, half)) (omega (arith, below, short)) in
          let low = row_in rows from place at.part in
          let high = row_in rows from i at.part in
          omega (arith, ints, rise, low, high, here);
    }

-- either way the rest of the width is left
pub Within-step : (rows from : List Row) (u : ℤ) (width place : ℕ) → IsRising (row_second rows) (length rows) → Within rows from u width → place < width → place + place ≤ width → Within rows (if int_le (row_second from place) u then drop place from else from) u (width - place)
Within-step rows from u width place up at lt half =
    by_lt_z u (row_second from place)
    (λ later. rw (int_le-above (row_second from place) u later) (stays rows from u width place up at lt half later))
    (λ begun. rw (int_le-below (row_second from place) u begun) (ahead rows from u width place at lt begun))

-- two windows of one width cover the rows
pub Within-windows : (rows from : List Row) (u : ℤ) (width : ℕ) → IsRising (row_second rows) (length rows) → 0 < width → width ≤ length rows → length rows ≤ width + width → row_second rows 0 ≤ℤ u → from ≡ (if int_le (row_second rows (length rows - width)) u then drop (length rows - width) rows else rows) → Within rows from u width
Within-windows rows from u width up some most least begun is =
    let whole = Within-all rows u (omega (arith, some, most)) begun in
    let left : length rows - (length rows - width) ≡ width = omega (arith, most) in
    rw is (subst (λ (m : ℕ). Within rows (if int_le (row_second rows (length rows - width)) u then drop (length rows - width) rows else rows) u m) left
    (Within-step rows rows u (length rows) (length rows - width) up whole (omega (arith, some, most)) (omega (arith, most, least))))

-- a step by half of the width
pub Within-half : (rows from next : List Row) (u : ℤ) (width : ℕ) → IsRising (row_second rows) (length rows) → Within rows from u width → next ≡ (if int_le (row_second from (width / 2)) u then drop (width / 2) from else from) → Within rows next u (width - width / 2)
Within-half rows from next u width up at is =
    let some : 0 < width = at.some in
    rw is (Within-step rows from u width (width / 2) up at (omega (arith, some)) (omega arith))

-- a width of one row is the last that has begun
pub FromLast-one : (rows from : List Row) (u : ℤ) (width : ℕ) → IsRising (row_second rows) (length rows) → Within rows from u width → width ≤ 1 → FromLast rows u from
FromLast-one rows from u width up at one =
    let bound : width ≤ length from = at.bound in
    let some : 0 < width = at.some in
    let short = part_short rows from at.part in
    record {
      part = at.part;
      some = omega (arith, bound, some);
      come = record {
        bound = omega (arith, bound, some, short);
        come = λ i lt.
            let k : ℕ = length rows - length from in
            let rise = IsRising-le (row_second rows) (length rows) up i k (omega (arith, lt)) (omega (arith, bound, some, short)) in
            let first : length rows - length from + 0 ≡ length rows - length from = omega arith in
            let here = row_in rows from 0 at.part ∙ ap (row_second rows) first in
            let begun = at.begun in
            omega (arith, ints, rise, here, begun);
        later = λ i le lt.
            let j : ℕ = i - (length rows - length from) in
            let whole : length rows - length from + j ≡ i = omega (arith, le) in
            let there = row_in rows from j at.part ∙ ap (row_second rows) whole in
            let later = at.later j (omega (arith, le, one)) (omega (arith, le, lt, short)) in
            omega (arith, ints, there, later);
      };
    }

-- none has begun before the first
pub Come-none : (key : ℕ → ℤ) (n : ℕ) (u : ℤ) → IsRising key n → u <ℤ key 0 → Come key n u 0
Come-none key n u up short = record {
  bound = omega arith;
  come = λ i lt. absurd (omega (arith, lt));
  later = λ i le lt. let rise = IsRising-le key n up 0 i le lt in omega (arith, ints, rise, short);
}

-- ---- the offset that the rows show then

pub offset-none : (first : ℤ) (rows : List Row) (u : ℤ) → Come (row_second rows) (length rows) u 0 → first ≡ table_offset first rows u
offset-none first rows u at = sym (ap (offset_after first rows) (Come-count (row_second rows) (length rows) u 0 at) ∙ offset_after-none first rows)

-- after the rows up to the first of the last ones, the offset is its own
pub offset-behind : (first : ℤ) (rows from : List Row) → from ≡ drop (length rows - length from) rows → (row_at from 0).offset ≡ offset_after first rows (length rows - length from + 1)
offset-behind first rows from part =
    let k : ℕ = length rows - length from in
    let row : row_at from 0 ≡ row_at rows (k + 0) = ap (λ (l : List Row). row_at l 0) part ∙ get_or-drop k rows 0 no_row in
    let place : k + 0 ≡ k + 1 - 1 = omega arith in
    ap (λ (r : Row). r.offset) (row ∙ ap (row_at rows) place) ∙ sym (offset_after-some first rows (k + 1) (omega arith))

pub offset-last : (first : ℤ) (rows from : List Row) (u : ℤ) → FromLast rows u from → (row_at from 0).offset ≡ table_offset first rows u
offset-last first rows from u last =
    offset-behind first rows from last.part ∙ ap (offset_after first rows) (sym (Come-count (row_second rows) (length rows) u (length rows - length from + 1) last.come))
