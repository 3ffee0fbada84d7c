-- A file that is known byte by byte: UTC's clock an hour ahead in daylight time, set so an hour before 1970, and kept so by its rule.
use Rattle.std.specs.Prelude.{ℕ, List, [], ◌∷◌, ◌++◌, codes, replicate}

-- a header with six counts, each of a byte: indicators of UT and of standard time, leap seconds, times, kinds, and bytes of names
abbrev pub known_header : ℕ → ℕ → ℕ → ℕ → ℕ → ℕ → List ℕ
known_header ut standard leaps times kinds names =
    codes "TZif2" ++ (replicate 15 0
    ++ (0 ∷ 0 ∷ 0 ∷ ut ∷ 0 ∷ 0 ∷ 0 ∷ standard ∷ 0 ∷ 0 ∷ 0 ∷ leaps ∷ 0 ∷ 0 ∷ 0 ∷ times ∷ 0 ∷ 0 ∷ 0 ∷ kinds ∷ 0 ∷ 0 ∷ 0 ∷ names ∷ []))

-- one kind of local time, 3,600 seconds ahead, which is daylight time, with its name at the byte 0
abbrev pub known_kinds : List ℕ
known_kinds = 0 ∷ 0 ∷ 14 ∷ 16 ∷ 1 ∷ 0 ∷ []

-- the one name, with the byte that ends it
abbrev pub known_names : List ℕ
known_names = codes "DST" ++ (0 ∷ [])

-- one time of eight bytes, 3,600 seconds before 1970
abbrev pub known_times : List ℕ
known_times = 255 ∷ 255 ∷ 255 ∷ 255 ∷ 255 ∷ 255 ∷ 241 ∷ 240 ∷ []

-- the rule behind the second block
abbrev pub known_footer : List ℕ
known_footer = codes "STD0DST-1,0/0,J365/25"

-- the second block, and what stands behind it
abbrev pub known_rest : List ℕ
known_rest = known_header 0 0 0 1 1 4 ++ (known_times ++ (0 ∷ (known_kinds ++ (known_names ++ (10 ∷ (known_footer ++ 10 ∷ []))))))

-- the whole file: a first block with no time, and the second
abbrev pub known_file : List ℕ
known_file = known_header 0 0 0 0 1 4 ++ (known_kinds ++ (known_names ++ known_rest))
