-- Years in which a schedule is due.
use Rattle.std.specs.Prelude.{◌≡◌, ◌-ℤ◌, ◌≤ℤ◌, ◌<ℤ◌, Bool, true, false, ◌&&◌, ℤ, pos, int_le, unsigned_abs, [], ◌∷◌, Option, Some, None, refl}
use Rattle.chrono_sets.specs.FiniteSets.{has, numbers}
use Rattle.timed_cron.specs.declared.year_set.YearSet.{YearSet}

-- the year y is one of the set: it is from 1970 to 2099, and the set has its place, from 0 for 1970
unfoldable pub has_year : YearSet → ℤ → Bool
has_year set y = (int_le (pos 1_970) y && int_le y (pos 2_099)) && has set.places (unsigned_abs (y -ℤ pos 1_970))

-- a schedule is due in the year y: the set of its years has it, and with no such set each year is one of them
unfoldable pub is_due_year : Option YearSet → ℤ → Bool
is_due_year None y = true
is_due_year (Some set) y = has_year set y

-- no year from one up to before another is in the set
abbrev pub NoYearIn : YearSet → ℤ → ℤ → Type 0
NoYearIn set from end = (y : ℤ) → from ≤ℤ y → y <ℤ end → has_year set y ≡ false

-- known values: the first year and the last, and years beside them
has_year-first : has_year (record { places = numbers (0 ∷ 129 ∷ []) }) (pos 1_970) ≡ true
unfolding has_year has
has_year-first = refl

has_year-last : has_year (record { places = numbers (0 ∷ 129 ∷ []) }) (pos 2_099) ≡ true
unfolding has_year has
has_year-last = refl

has_year-past : has_year (record { places = numbers (130 ∷ []) }) (pos 2_100) ≡ false
unfolding has_year has
has_year-past = refl

has_year-before : has_year (record { places = numbers (1 ∷ []) }) (pos 1_969) ≡ false
unfolding has_year has
has_year-before = refl
