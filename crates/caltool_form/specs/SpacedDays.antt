-- The days of a walk over a set, as a text.
use Rattle.std.specs.Prelude.{◌≡◌, ℕ, List, [], ◌∷◌, ◌++◌, codes, refl}
use Rattle.chrono_units.specs.declared.weekday.Weekday.{Weekday}
use Rattle.chrono_units.specs.declared.weekday.Weekday.TheVariants.{Mon, Thu, Sun}
use Rattle.chrono_units.specs.WeekdayText.{weekday_text}

-- each day after a space
abbrev pub spaced_days_text : List Weekday → List ℕ
spaced_days_text [] = []
spaced_days_text (d ∷ ds) = codes " " ++ weekday_text d ++ spaced_days_text ds

-- known values
spaced_days_text-three_days : spaced_days_text (Thu ∷ Sun ∷ Mon ∷ []) ≡ codes " Thu Sun Mon"
spaced_days_text-three_days = refl

spaced_days_text-no_days : spaced_days_text [] ≡ []
spaced_days_text-no_days = refl
