-- When the offset of a clock changes, where `ahead u` is the offset at the second u.
use Rattle.std.specs.Prelude.{◌≡◌, ◌≢◌, ℤ, pos, ◌-ℤ◌, ◌<ℤ◌, ◌≤ℤ◌}

-- at the second t another offset holds than one second before
abbrev pub ChangesAt : (ℤ → ℤ) → ℤ → Type 0
ChangesAt ahead t = ahead t ≢ ahead (t -ℤ pos 1)

-- t is the first second after s at which the offset changes
pub record IsNextChange (ahead : ℤ → ℤ) (s t : ℤ) : Type 0 where
  pub later : s <ℤ t
  pub changes : ChangesAt ahead t
  pub same : (u : ℤ) → s ≤ℤ u → u <ℤ t → ahead u ≡ ahead s

-- t is the last second up to s at which the offset changes
pub record IsPreviousChange (ahead : ℤ → ℤ) (s t : ℤ) : Type 0 where
  pub earlier : t ≤ℤ s
  pub changes : ChangesAt ahead t
  pub same : (u : ℤ) → t ≤ℤ u → u ≤ℤ s → ahead u ≡ ahead s

-- one offset holds from s on
abbrev pub IsSteadyFrom : (ℤ → ℤ) → ℤ → Type 0
IsSteadyFrom ahead s = (u : ℤ) → s ≤ℤ u → ahead u ≡ ahead s

-- one offset holds up to s
abbrev pub IsSteadyTo : (ℤ → ℤ) → ℤ → Type 0
IsSteadyTo ahead s = (u : ℤ) → u ≤ℤ s → ahead u ≡ ahead s
