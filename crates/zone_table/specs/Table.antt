-- A zone as a table: an offset that holds at first, and rows, each with a second and the offset from then on.
use Rattle.std.specs.Prelude.{◌≡◌, ℕ, zero, suc, ◌+◌, ◌-◌, ◌<◌, ℤ, pos, List, [], ◌∷◌, get_or, length, refl}
use Rattle.zone_table.specs.declared.row.Row.{Row}
use Rattle.zone_table.specs.Sequence.{AreOrdered, Follows, come_by, offset_by}

-- what stands for a row past the end of a table
abbrev pub no_row : Row
no_row = record { second = pos 0; offset = pos 0 }

-- the row at the place k
abbrev pub row_at : List Row → ℕ → Row
row_at rows k = get_or rows k no_row

-- the second at which the offset of the row k begins
abbrev pub row_second : List Row → ℕ → ℤ
row_second rows k = (row_at rows k).second

-- a row begins at the second t
abbrev pub BeginsAt : List Row → ℤ → Type 0
BeginsAt rows t = (k : ℕ) × (k < length rows) × (row_second rows k ≡ t)

-- the offset once k rows have begun
unfoldable pub offset_after : ℤ → List Row → ℕ → ℤ
offset_after first rows zero = first
offset_after first rows (suc k) = (row_at rows k).offset

-- the offset at the second u
abbrev pub table_offset : ℤ → List Row → ℤ → ℤ
table_offset first rows u = offset_by (row_second rows) (offset_after first rows) (length rows) u

-- the row behind k follows it, as `Follows` says
abbrev pub RowFollows : ℤ → List Row → ℕ → Type 0
RowFollows first rows k = Follows (row_second rows) (offset_after first rows) k

-- each row follows the one before it
abbrev pub IsTable : ℤ → List Row → Type 0
IsTable first rows = AreOrdered (row_second rows) (offset_after first rows) (length rows)

-- the row k is the first that does not follow the one before it
pub record IsFirstUnordered (first : ℤ) (rows : List Row) (k : ℕ) : Type 0 where
  pub in_range : k < length rows
  pub not_first : 0 < k
  pub fails : ¬ RowFollows first rows (k - 1)
  pub before : (i : ℕ) → i + 1 < k → RowFollows first rows i

-- ---- known values: London in 2024, an hour ahead of UTC from 31 March to 27 October

london : List Row
london = record { second = pos 1_711_846_800; offset = pos 3_600 } ∷ record { second = pos 1_729_990_800; offset = pos 0 } ∷ []

table_offset-winter : table_offset (pos 0) london (pos 1_711_846_799) ≡ pos 0
unfolding london come_by offset_after
table_offset-winter = refl

table_offset-summer : table_offset (pos 0) london (pos 1_711_846_800) ≡ pos 3_600
unfolding london come_by offset_after
table_offset-summer = refl

table_offset-autumn : table_offset (pos 0) london (pos 1_729_990_800) ≡ pos 0
unfolding london come_by offset_after
table_offset-autumn = refl
