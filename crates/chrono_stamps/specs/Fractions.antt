-- How many digits of a second's fraction a text has.
use Rattle.std.specs.Prelude.{◌≡◌, ◌⊎◌, ℕ, ◌-◌, ◌/◌, ◌%◌, ◌^◌, ◌==◌, List, [], ◌++◌, codes, if◌then◌else◌, refl}
use Rattle.chrono_text.specs.Text.{all_digits}
use Rattle.chrono_stamps.specs.declared.seconds_format.SecondsFormat.{SecondsFormat}
use Rattle.chrono_stamps.specs.declared.seconds_format.SecondsFormat.TheVariants.{Secs, Millis, Micros, Nanos, AutoSi}

-- the number of digits is none, or those of milliseconds, microseconds or nanoseconds
abbrev pub IsPlaces : ℕ → Type 0
IsPlaces places = (places ≡ 0) ⊎ (places ≡ 3) ⊎ (places ≡ 6) ⊎ (places ≡ 9)

-- the fewest of these that hold n nanoseconds
abbrev pub fewest_places : ℕ → ℕ
fewest_places n = if n == 0 then 0 else (if n % 1_000_000 == 0 then 3 else (if n % 1_000 == 0 then 6 else 9))

-- how many digits a form has for n nanoseconds
abbrev pub places_of : SecondsFormat → ℕ → ℕ
places_of Secs n = 0
places_of Millis n = 3
places_of Micros n = 6
places_of Nanos n = 9
places_of AutoSi n = fewest_places n

-- a point and the first digits of n nanoseconds, or nothing for no digit
abbrev pub fraction_in : ℕ → ℕ → List ℕ
fraction_in places n = if places == 0 then [] else codes "." ++ all_digits places (n / 10 ^ (9 - places))

-- known values
fraction_in-millis : fraction_in 3 250_999_999 ≡ codes ".250"
fraction_in-millis = refl

fewest_places-micros : fewest_places 250_001_000 ≡ 6
fewest_places-micros = refl
