-- The names of time zones that this library reads files of. The rule is its own. Each name in Debian's tzdata meets it, and none
-- that does leads out of the folder.
use Rattle.std.specs.Prelude.{◌≡◌, ◌==◌, ℕ, nat_lt, nat_le, Bool, true, false, ◌&&◌, ◌||◌, List, [], ◌∷◌, length, replicate, codes, refl}
use Rattle.std.specs.Char.{is_ascii_alphanumeric}
use Rattle.std.specs.List.{list_all}
use Rattle.std.specs.Str.{byte}
use Rattle.chrono_text.specs.Lists.{pieces}

-- a byte of a name: a letter, a digit, "-", "+" or "_" of ASCII, as in Etc/GMT+5. No name has a dot: `zone.tab` names no zone
abbrev pub is_of_zone_name : ℕ → Bool
is_of_zone_name c = is_ascii_alphanumeric c || ((c == byte "-") || ((c == byte "+") || (c == byte "_")))

-- a part of a name: some bytes, each of them one of a name
abbrev pub is_name_part : List ℕ → Bool
is_name_part part = nat_lt 0 (length part) && list_all is_of_zone_name part

-- parts with a slash between each two
abbrev pub are_name_parts : List ℕ → Bool
are_name_parts name = list_all is_name_part (pieces (byte "/") name)

-- such parts, of at most 255 bytes
abbrev pub is_zone_name : List ℕ → Bool
is_zone_name name = nat_le (length name) 255 && are_name_parts name

-- known values: three names, and what is none; the last two of 255 and 256 bytes
is_zone_name-argentina : is_zone_name (codes "America/Argentina/Buenos_Aires") ≡ true
is_zone_name-argentina = refl

is_zone_name-hours : is_zone_name (codes "Etc/GMT+5") ≡ true
is_zone_name-hours = refl

is_zone_name-utc : is_zone_name (codes "UTC") ≡ true
is_zone_name-utc = refl

is_zone_name-empty : is_zone_name [] ≡ false
is_zone_name-empty = refl

is_zone_name-above : is_zone_name (codes "../passwd") ≡ false
is_zone_name-above = refl

is_zone_name-here : is_zone_name (codes "Europe/./Berlin") ≡ false
is_zone_name-here = refl

is_zone_name-root : is_zone_name (codes "/etc/localtime") ≡ false
is_zone_name-root = refl

is_zone_name-open : is_zone_name (codes "Europe/") ≡ false
is_zone_name-open = refl

is_zone_name-nul : is_zone_name (85 ∷ 84 ∷ 67 ∷ 0 ∷ []) ≡ false
is_zone_name-nul = refl

is_zone_name-longest : is_zone_name (replicate 255 65) ≡ true
is_zone_name-longest = refl

is_zone_name-longer : is_zone_name (replicate 256 65) ≡ false
is_zone_name-longer = refl
