-- The planned minutes of a local day, and the instants at which they fire.
use Rattle.std.specs.Prelude.{◌≡◌, ◌⊎◌, ℕ, ◌*◌, ◌<◌, ℤ, ◌≤ℤ◌, ◌<ℤ◌, List, [], ◌∷◌}
use Rattle.std.specs.List.{filter, range_with_len}
use Rattle.chrono_datetime.specs.Moment.{Moment}
use Rattle.chrono_instant.specs.Instants.{epoch_second}
use Rattle.chrono_zoned.specs.Zones.{IsOnly}
use Rattle.chrono_cron.specs.declared.field_sets.FieldSets.{FieldSets}
use Rattle.chrono_cron.specs.Due.{is_due}
use Rattle.zoned_cron.specs.Fires.{IsGap, Takes, once_each}

-- the beginning of minute k of the day n, from 0 at midnight
abbrev pub minute_of_day : ℤ → ℕ → Moment
minute_of_day n k = record { date = n; time = record { second = 60 * k; fraction = 0 } }

-- the minutes of the day n at which the schedule is due
unfoldable pub planned_minutes : FieldSets → ℤ → List ℕ
planned_minutes s n = filter (λ k. is_due s (minute_of_day n k)) (range_with_len 0 1_440)

-- the clock skips the beginning of no minute of the day n
abbrev pub ShowsMinutes : (ℤ → ℤ) → ℤ → Type 0
ShowsMinutes ahead n = (k : ℕ) → k < 1_440 → ¬ IsGap ahead (epoch_second (minute_of_day n k))

-- the instants are those of the minutes, one for each and in their order: what is planned for the minute fires there, and nowhere else
abbrev pub FireOnceEach : (ℤ → ℤ) → ℤ → List ℕ → List ℤ → Type 0
FireOnceEach ahead n [] [] = Unit {0}
FireOnceEach ahead n [] (u ∷ us) = ⊥
FireOnceEach ahead n (k ∷ ks) [] = ⊥
FireOnceEach ahead n (k ∷ ks) (u ∷ us) = IsOnly (Takes once_each ahead (epoch_second (minute_of_day n k))) u × FireOnceEach ahead n ks us

-- u is none of the instants
abbrev pub IsNoneOf : List ℤ → ℤ → Type 0
IsNoneOf [] u = Unit {0}
IsNoneOf (v ∷ vs) u = ¬ (v ≡ u) × IsNoneOf vs u

-- no two of the instants are one
abbrev pub AreDifferent : List ℤ → Type 0
AreDifferent [] = Unit {0}
AreDifferent (u ∷ us) = IsNoneOf us u × AreDifferent us

-- ---- a day of which the clock skips minutes

-- the clock shows no second from the beginning of minute j of the day n on, up to before that of minute k
abbrev pub NoneShown : (ℤ → ℤ) → ℤ → ℕ → ℕ → Type 0
NoneShown ahead n j k =
    (l : ℤ) → epoch_second (minute_of_day n j) ≤ℤ l → l <ℤ epoch_second (minute_of_day n k) → IsGap ahead l

-- the instants are those at which the minutes fire, in their order. A minute has its instant in common with the next one if the clock shows no
-- second from the one up to the other, and else one of its own
abbrev pub FireTogether : (ℤ → ℤ) → ℤ → List ℕ → List ℤ → Type 0
FireTogether ahead n [] us = us ≡ []
FireTogether ahead n (k ∷ []) us =
    (u : ℤ) × IsOnly (Takes once_each ahead (epoch_second (minute_of_day n k))) u × (us ≡ u ∷ [])
FireTogether ahead n (j ∷ k ∷ ks) us =
    (NoneShown ahead n j k × FireTogether ahead n (k ∷ ks) us)
    ⊎ (¬ NoneShown ahead n j k × ((u : ℤ) × (rest : List ℤ)
    × IsOnly (Takes once_each ahead (epoch_second (minute_of_day n j))) u × FireTogether ahead n (k ∷ ks) rest × (us ≡ u ∷ rest)))
