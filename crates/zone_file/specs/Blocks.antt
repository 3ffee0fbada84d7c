-- The blocks of a TZif file: a header, and the data that it counts (RFC 9636, sections 3.1 and 3.2).
use Rattle.std.specs.Prelude.{◌≡◌, ◌==◌, nat_lt, Bool, ◌&&◌, ◌||◌, ℕ, ◌+◌, ◌*◌, List, ◌++◌, length, take, drop, codes, refl}
use Rattle.std.specs.Int.{from_be_bytes, w32}

-- the number in four bytes from a place on, the highest byte first
abbrev pub count_in : ℕ → List ℕ → ℕ
count_in at header = from_be_bytes w32 (take 4 (drop at header))

-- how many indicators of UT a header counts
abbrev pub ut_count : List ℕ → ℕ
ut_count header = count_in 20 header

-- how many indicators of standard time
abbrev pub standard_count : List ℕ → ℕ
standard_count header = count_in 24 header

-- how many leap seconds
abbrev pub leap_count : List ℕ → ℕ
leap_count header = count_in 28 header

-- how many times of changes
abbrev pub time_count : List ℕ → ℕ
time_count header = count_in 32 header

-- how many kinds of local time
abbrev pub kind_count : List ℕ → ℕ
kind_count header = count_in 36 header

-- how many bytes of names
abbrev pub name_bytes : List ℕ → ℕ
name_bytes header = count_in 40 header

-- the first four bytes of a header, "TZif", as a number
abbrev pub magic : ℕ
magic = 1_415_211_366

magic-letters : count_in 0 (codes "TZif") ≡ magic
magic-letters = refl

-- how many bytes stand behind the names, where each time has so many: leap seconds and indicators
abbrev pub trailer_length : ℕ → List ℕ → ℕ
trailer_length size header = leap_count header * (size + 4) + standard_count header + ut_count header

-- The data that a header counts, of which each time has so many bytes: the times, the place of a kind for each, the kinds, their names, and
-- what is left out here.
pub record IsData (size : ℕ) (header body times places kinds names rest : List ℕ) : Type 0 where
  pub trailer : List ℕ
  pub written : times ++ (places ++ (kinds ++ (names ++ (trailer ++ rest)))) ≡ body
  pub times_long : length times ≡ time_count header * size
  pub places_long : length places ≡ time_count header
  pub kinds_long : length kinds ≡ kind_count header * 6
  pub names_long : length names ≡ name_bytes header
  pub trailer_long : length trailer ≡ trailer_length size header

-- the bytes begin with a header and its data
pub record IsBlock (size : ℕ) (bytes header times places kinds names rest : List ℕ) : Type 0 where
  pub body : List ℕ
  pub written : header ++ body ≡ bytes
  pub header_long : length header ≡ 44
  pub begins : count_in 0 header ≡ magic
  pub data_is : IsData size header body times places kinds names rest

-- indicators stand there for each kind, or for none
abbrev pub are_indicators : ℕ → ℕ → Bool
are_indicators n kinds = (n == 0) || (n == kinds)

-- a header counts what a file may have: some kind, some name, and indicators for all kinds or none
abbrev pub are_counts : List ℕ → Bool
are_counts header =
    nat_lt 0 (kind_count header)
    && (nat_lt 0 (name_bytes header)
    && (are_indicators (ut_count header) (kind_count header) && are_indicators (standard_count header) (kind_count header)))
