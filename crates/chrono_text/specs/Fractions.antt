-- The texts of fractions of a second.
use Rattle.std.specs.Prelude.{◌≡◌, ◌<◌, ◌-◌, ◌*◌, ◌^◌, ◌⊎◌, ℕ, List, [], ◌++◌, replicate, codes}
use Rattle.std.specs.Int.{IsInRange}
use Rattle.std.specs.Str.{byte}
use Rattle.chrono_text.specs.Text.{all_digits}

-- a point and one to nine digits, which count tenths, hundredths and so on of a second, and so nanoseconds
pub record IsPointText (text : List ℕ) (nanos : ℕ) : Type 0 where
  pub places : ℕ
  pub count : ℕ
  pub some : IsInRange 1 9 places
  pub below : count < 10 ^ places
  pub worth : count * 10 ^ (9 - places) ≡ nanos
  pub written : codes "." ++ all_digits places count ≡ text

-- a text of the nanoseconds past a second: nothing for none of them, or a point and digits
abbrev pub IsFractionText : List ℕ → ℕ → Type 0
IsFractionText text nanos = ((text ≡ []) × (nanos ≡ 0)) ⊎ IsPointText text nanos

-- the longer text is the shorter with zeros behind it, and behind nothing with a point before them
pub record HasMoreZeros (short long : List ℕ) : Type 0 where
  pub zeros : ℕ
  pub written : (short ++ replicate zeros (byte "0") ≡ long) ⊎ ((short ≡ []) × (codes "." ++ replicate zeros (byte "0") ≡ long))

-- the texts differ in zeros at the end of one of them alone
abbrev pub SameFraction : List ℕ → List ℕ → Type 0
SameFraction text other = HasMoreZeros text other ⊎ HasMoreZeros other text
