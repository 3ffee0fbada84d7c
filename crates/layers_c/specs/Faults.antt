-- What is wrong by its number, and where a wrong part of a text ends.
use Rattle.std.specs.Prelude.{◌≡◌, ℕ, ◌-◌, ◌==◌, ◌≤◌, ◌<◌, nat_le, if◌then◌else◌, Bool, true, false, ◌||◌, List, length, slice_get, slice_index, Option, None}
use Rattle.std.specs.Str.{byte}
use Rattle.chrono_text.specs.Lists.{is_blank}

-- the value of a list with a number, counted from 1
abbrev pub numbered : {A : Type 0} → List A → ℕ → Option A
numbered list n = if nat_le 1 n then slice_get list (n - 1) else None

-- a byte stands behind a part: a comma, a semicolon or a blank
unfoldable pub is_behind_part : ℕ → Bool
is_behind_part b = is_blank b || ((b == byte ",") || (b == byte ";"))

-- a part that begins at a byte goes on up to before the first byte that stands behind it, or to the end of the text
pub record IsPartEnd (text : List ℕ) (from end : ℕ) : Type 0 where
  pub order : from ≤ end
  pub within : end ≤ length text
  pub inside : (i : ℕ) → from ≤ i → i < end → is_behind_part (slice_index text i) ≡ false
  pub behind : end < length text → is_behind_part (slice_index text end) ≡ true
