-- The kinds of local time of a TZif file, its times and its names (RFC 9636, section 3.2).
use Rattle.std.specs.Prelude.{◌≡◌, ◌==◌, ◌+◌, ◌*◌, ◌<◌, ◌≤◌, ℕ, ℤ, pos, neg_ℤ, Bool, true, List, [], ◌∷◌, length, take, drop, slice_index, if◌then◌else◌, refl}
use Rattle.std.specs.Int.{cast_signed, from_be_bytes, w32, w64}
use Rattle.std.specs.List.{before_first}
use Rattle.chrono_text.specs.Lists.{stands_in}
use Rattle.chrono_zoned.specs.Offsets.{IsOffset}
use Rattle.zone_table.specs.declared.row.Row.{Row}
use Rattle.zone_file.specs.Blocks.{count_in}

-- the offset of the kind at a place is in the first four of its six bytes, and is less than a day
pub record IsKindOffset (kinds : List ℕ) (place : ℕ) (offset : ℤ) : Type 0 where
  pub within : place * 6 + 6 ≤ length kinds
  pub is : cast_signed w32 (count_in (place * 6) kinds) ≡ offset
  pub in_range : IsOffset offset

-- the name that begins at a byte goes up to a NUL
pub record IsNameAt (names : List ℕ) (at : ℕ) (name : List ℕ) : Type 0 where
  pub ends : stands_in 0 (drop at names) ≡ true
  pub is : before_first (λ x. x == 0) (drop at names) ≡ name

-- the byte of daylight time is 1, and that of standard time 0
abbrev pub byte_of_dst : Bool → ℕ
byte_of_dst is_dst = if is_dst then 1 else 0

-- the kind at a place: its offset, whether it is daylight time, and its name
pub record IsKind (kinds names : List ℕ) (place : ℕ) (offset : ℤ) (is_dst : Bool) (name : List ℕ) : Type 0 where
  pub offset_is : IsKindOffset kinds place offset
  pub dst_is : slice_index kinds (place * 6 + 4) ≡ byte_of_dst is_dst
  pub name_is : IsNameAt names (slice_index kinds (place * 6 + 5)) name

-- how many bytes a time has
abbrev pub time_length : ℕ → ℕ
time_length version = if version == 0 then 4 else 8

-- the time at a place, in seconds from 1 January 1970 in UTC
abbrev pub transition_time : ℕ → List ℕ → ℕ → ℤ
transition_time version times k =
    if version == 0 then cast_signed w32 (count_in (k * 4) times)
    else cast_signed w64 (from_be_bytes w64 (take 8 (drop (k * 8) times)))

-- the row k of the table of a file: its time, and the offset of its kind
pub record IsFileRow (version : ℕ) (times places kinds : List ℕ) (k : ℕ) (row : Row) : Type 0 where
  pub within : k < length places
  pub timed : k * time_length version + time_length version ≤ length times
  pub second : transition_time version times k ≡ row.second
  pub offset : IsKindOffset kinds (slice_index places k) row.offset

-- known values: five hours behind UTC, the last minute of 1969, and the least time of 32 bits
offset-new_york : cast_signed w32 (count_in 0 (255 ∷ 255 ∷ 185 ∷ 176 ∷ [])) ≡ neg_ℤ (pos 18_000)
offset-new_york = refl

transition_time-second : transition_time 50 (0 ∷ 0 ∷ 0 ∷ 0 ∷ 0 ∷ 0 ∷ 0 ∷ 0 ∷ 255 ∷ 255 ∷ 255 ∷ 255 ∷ 255 ∷ 255 ∷ 255 ∷ 196 ∷ []) 1 ≡ neg_ℤ (pos 60)
transition_time-second = refl

transition_time-least : transition_time 0 (128 ∷ 0 ∷ 0 ∷ 0 ∷ []) 0 ≡ neg_ℤ (pos 2_147_483_648)
transition_time-least = refl
