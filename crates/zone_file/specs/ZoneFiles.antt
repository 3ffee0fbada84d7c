-- TZif files (RFC 9636).
use Rattle.std.specs.Prelude.{◌≡◌, ◌⊎◌, ℕ, Bool, true, List, [], ◌∷◌, ◌++◌, slice_index}
use Rattle.std.specs.Int.{is_in_range}
use Rattle.std.specs.Str.{byte}
use Rattle.zone_file.specs.Blocks.{IsBlock, are_counts, leap_count}

-- the version of a header: a NUL for 1, and a digit for the later ones
abbrev pub version_in : List ℕ → ℕ
version_in header = slice_index header 4

-- 2 to 4
abbrev pub is_later : ℕ → Bool
is_later version = is_in_range (byte "2") (byte "4") version

-- a block of a version, with the counts of a file, and without leap seconds
pub record IsDataBlock (size version : ℕ) (bytes times places kinds names rest : List ℕ) : Type 0 where
  pub header : List ℕ
  pub block : IsBlock size bytes header times places kinds names rest
  pub version_is : version_in header ≡ version
  pub counts : are_counts header ≡ true
  pub no_leaps : leap_count header ≡ 0

-- version 1: a block with times of four bytes, and no footer
pub record IsFirstVersion (bytes times places kinds names footer : List ℕ) : Type 0 where
  pub block : IsDataBlock 4 0 bytes times places kinds names []
  pub no_footer : footer ≡ []

-- later versions: such a block, which is not read, one of the same version with times of eight bytes, and the footer between two newlines
pub record IsLaterVersion (version : ℕ) (rest times places kinds names footer : List ℕ) : Type 0 where
  pub behind : List ℕ
  pub block : IsDataBlock 8 version rest times places kinds names behind
  pub ends : 10 ∷ (footer ++ 10 ∷ []) ≡ behind

-- the parts of a file of the version that its first header names
pub record IsZoneFile (bytes : List ℕ) (version : ℕ) (times places kinds names footer : List ℕ) : Type 0 where
  pub header : List ℕ
  pub first_times : List ℕ
  pub first_places : List ℕ
  pub first_kinds : List ℕ
  pub first_names : List ℕ
  pub rest : List ℕ
  pub first : IsBlock 4 bytes header first_times first_places first_kinds first_names rest
  pub version_is : version_in header ≡ version
  pub parts : ((version ≡ 0) × IsFirstVersion bytes times places kinds names footer)
      ⊎ ((is_later version ≡ true) × IsLaterVersion version rest times places kinds names footer)
