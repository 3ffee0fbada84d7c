-- What the offset after some rows is.
use Rattle.std.proofs.Common.{◌≡◌, ℕ, zero, suc, ◌-◌, ◌≤◌, ◌<◌, ℤ, List, length, refl, arith}
use Rattle.std.proofs.lemmas.Int.{ints}
use Rattle.chrono_zoned.specs.declared.mapped_local_time.MappedLocalTime.TheVariants.{Single}
use Rattle.chrono_zoned.specs.Zones.{IsMapped}
use Rattle.zone_table.specs.declared.row.Row.{Row}
use Rattle.zone_table.specs.Sequence.{come_by}
use Rattle.zone_table.specs.Table.{offset_after, table_offset, row_at, row_second}

-- none have begun, or the last of them has its offset
pub offset_after-none : (first : ℤ) (rows : List Row) → offset_after first rows 0 ≡ first
unfolding offset_after
offset_after-none first rows = refl

pub offset_after-some : (first : ℤ) (rows : List Row) (k : ℕ) → 0 < k → offset_after first rows k ≡ (row_at rows (k - 1)).offset
unfolding offset_after
offset_after-some first rows zero some = absurd (omega (arith, some))
offset_after-some first rows (suc k) some = let same : suc k - 1 ≡ k = omega arith in rw same refl

-- no more changes have come than there are
come_by-bound : (second : ℕ → ℤ) (n : ℕ) (u : ℤ) → come_by second n u ≤ n
unfolding come_by
come_by-bound second zero u = omega arith
come_by-bound second (suc n) u = let front = come_by-bound second n u in grind arith

-- rows that keep the first offset
steady_offset : (first : ℤ) (rows : List Row) → ((k : ℕ) → k < length rows → (row_at rows k).offset ≡ first) → (k : ℕ) → k ≤ length rows → offset_after first rows k ≡ first
unfolding offset_after
steady_offset first rows same zero le = refl
steady_offset first rows same (suc k) le = same k (omega (arith, le))

pub one_offset : (first : ℤ) (rows : List Row) → ((k : ℕ) → k < length rows → (row_at rows k).offset ≡ first) → (l : ℤ) → IsMapped (table_offset first rows) l (Single first)
one_offset first rows same l u =
    let here : table_offset first rows u ≡ first = steady_offset first rows same (come_by (row_second rows) (length rows) u) (come_by-bound (row_second rows) (length rows) u) in
    ((λ shows. omega (arith, ints, shows, here)), (λ is. omega (arith, ints, is, here)))
