-- Zones: how far a clock is ahead of UTC at each instant, and the instants at which it shows a local time.
use Rattle.std.specs.Prelude.{◌≡◌, ◌↔◌, ◌⊎◌, ℤ, ◌+ℤ◌, ◌-ℤ◌, ◌<ℤ◌, ◌≤ℤ◌, Option, Some, None as Nothing}
use Rattle.chrono_zoned.specs.declared.mapped_local_time.MappedLocalTime.{MappedLocalTime}
use Rattle.chrono_zoned.specs.declared.mapped_local_time.MappedLocalTime.TheVariants.{None, Single, Ambiguous}

-- u is the only second of which P holds
abbrev pub IsOnly : (ℤ → Type 0) → ℤ → Type 0
IsOnly P u = (v : ℤ) → P v ↔ (v ≡ u)

-- the values stand at the seconds of which P holds: at all of them, and at no others; the first of two stands earlier
abbrev pub AreAll : {T : Type 0} → (ℤ → Type 0) → (T → ℤ) → MappedLocalTime T → Type 0
AreAll P at None = (u : ℤ) → ¬ P u
AreAll P at (Single x) = IsOnly P (at x)
AreAll P at (Ambiguous x y) = (at x <ℤ at y) × ((u : ℤ) → P u ↔ ((u ≡ at x) ⊎ (u ≡ at y)))

-- P holds of each of the values
abbrev pub Each : {T : Type 0} → (T → Type 0) → MappedLocalTime T → Type 0
Each P None = Unit {0}
Each P (Single x) = P x
Each P (Ambiguous x y) = P x × P y

-- x is one of the values
abbrev pub IsAmong : {T : Type 0} → T → MappedLocalTime T → Type 0
IsAmong x None = ⊥
IsAmong x (Single y) = x ≡ y
IsAmong x (Ambiguous y z) = (x ≡ y) ⊎ (x ≡ z)

-- the value, if there is one alone
abbrev pub single_of : {T : Type 0} → MappedLocalTime T → Option T
single_of None = Nothing
single_of (Single x) = Some x
single_of (Ambiguous x y) = Nothing

-- the first value, if there is one
abbrev pub earliest_of : {T : Type 0} → MappedLocalTime T → Option T
earliest_of None = Nothing
earliest_of (Single x) = Some x
earliest_of (Ambiguous x y) = Some x

-- the last value, if there is one
abbrev pub latest_of : {T : Type 0} → MappedLocalTime T → Option T
latest_of None = Nothing
latest_of (Single x) = Some x
latest_of (Ambiguous x y) = Some y

-- at the second u a clock that is `ahead u` seconds ahead of UTC shows the local second l
abbrev pub Shows : (ℤ → ℤ) → ℤ → ℤ → Type 0
Shows ahead l u = (u +ℤ ahead u) ≡ l

-- the offsets lead from the local second l to the instants that show it: to all of them, and to no others
abbrev pub IsMapped : (ℤ → ℤ) → ℤ → MappedLocalTime ℤ → Type 0
IsMapped ahead l offsets = AreAll (Shows ahead l) (λ offset. l -ℤ offset) offsets

-- from the second s until t the clock keeps the offset that it has at s
abbrev pub HoldsUntil : (ℤ → ℤ) → ℤ → ℤ → Type 0
HoldsUntil ahead s t = (u : ℤ) → s ≤ℤ u → u <ℤ t → ahead u ≡ ahead s
