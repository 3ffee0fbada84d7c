-- The texts of durations.
use Rattle.std.specs.Prelude.{◌≡◌, ◌<◌, ◌+◌, ◌*◌, ◌⊎◌, Bool, ℕ, ℤ, pos, unsigned_abs, List, ◌++◌, codes}
use Rattle.std.specs.Fmt.{decimal, sign_text}
use Rattle.std.specs.Int.{is_negative}
use Rattle.chrono_datetime.specs.Duration.{IsDuration, nanos_per_second}
use Rattle.chrono_text.specs.Fractions.{IsFractionText, SameFraction}

-- a text of so many nanoseconds: `PT`, the whole seconds in decimal, the fraction and `S` (ISO 8601 duration)
pub record IsSecondsText (text : List ℕ) (size : ℕ) : Type 0 where
  pub seconds : ℕ
  pub nanos : ℕ
  pub fraction : List ℕ
  pub names : seconds * nanos_per_second + nanos ≡ size
  pub fraction_written : IsFractionText fraction nanos
  pub written : codes "PT" ++ decimal seconds ++ fraction ++ codes "S" ≡ text

-- a text of a duration of x nanoseconds that is not zero: a `-` if it is negative, and a text of its size
pub record IsSignedText (text : List ℕ) (x : ℤ) : Type 0 where
  pub size : List ℕ
  pub is_some : 0 < unsigned_abs x
  pub is_duration : IsDuration x
  pub size_written : IsSecondsText size (unsigned_abs x)
  pub written : sign_text (is_negative x) ++ size ≡ text

-- a text of the duration of x nanoseconds: `P0D` for zero, and else a signed text of its seconds
abbrev pub IsDurationText : List ℕ → ℤ → Type 0
IsDurationText text x = ((text ≡ codes "P0D") × (x ≡ pos 0)) ⊎ IsSignedText text x

-- the texts have the same sign, the same whole seconds and the same fraction of a second
pub record SameSeconds (text other : List ℕ) : Type 0 where
  pub negative : Bool
  pub seconds : ℕ
  pub fraction : List ℕ
  pub other_fraction : List ℕ
  pub same_fraction : SameFraction fraction other_fraction
  pub written : sign_text negative ++ codes "PT" ++ decimal seconds ++ fraction ++ codes "S" ≡ text
  pub other_written : sign_text negative ++ codes "PT" ++ decimal seconds ++ other_fraction ++ codes "S" ≡ other
