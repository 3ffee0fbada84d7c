-- The texts of offsets from UTC, as lists of ASCII codes.
use Rattle.std.specs.Prelude.{◌≡◌, ℕ, ◌/◌, ◌%◌, List, ◌++◌, if◌then◌else◌, codes, ℤ, pos, neg_ℤ, unsigned_abs, refl}
use Rattle.std.specs.Int.{is_negative}
use Rattle.chrono_text.specs.Text.{colon_seconds_text, two_digits}

-- hours, minutes and seconds, the seconds left out if they are 0
abbrev pub offset_size_text : ℕ → List ℕ
offset_size_text n =
    two_digits (n / 3_600) ++ codes ":" ++ two_digits (n / 60 % 60) ++ colon_seconds_text (n % 60)

-- what `{}` and `{:?}` write for an offset of x seconds: a sign, and the size of x
abbrev pub offset_text : ℤ → List ℕ
offset_text x = (if is_negative x then codes "-" else codes "+") ++ offset_size_text (unsigned_abs x)

-- known values: none, half an hour more than nine hours, and a second behind
offset_text-zero : offset_text (pos 0) ≡ codes "+00:00"
offset_text-zero = refl

offset_text-half_hour : offset_text (pos 34_200) ≡ codes "+09:30"
offset_text-half_hour = refl

offset_text-second_behind : offset_text (neg_ℤ (pos 1)) ≡ codes "-00:00:01"
offset_text-second_behind = refl
