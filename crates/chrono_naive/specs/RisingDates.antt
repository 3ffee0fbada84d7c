-- Lists of days that rise.
use Rattle.std.specs.Prelude.{ℕ, ◌<◌, Bool, List, length, slice_index_or, ℤ, ◌<ℤ◌}
use Rattle.std.specs.List.{list_any}
use Rattle.std.specs.Ordering.{int_eq}

-- each day of the list is before those behind it
abbrev pub AreRising : List ℤ → Type 0
AreRising days = (i j : ℕ) (d : ℤ) → i < j → j < length days → slice_index_or days i d <ℤ slice_index_or days j d

-- the day n is one of the list
abbrev pub is_listed : List ℤ → ℤ → Bool
is_listed days n = list_any (λ d. int_eq d n) days
