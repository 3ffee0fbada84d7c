-- Days in a row, and the lists that the iterators over dates run through.
use Rattle.std.specs.Prelude.{◌≡◌, ℕ, zero, suc, ◌/◌, false, List, [], ◌∷◌, ℤ, pos, neg_ℤ, ◌+ℤ◌, ◌-ℤ◌, ◌≤ℤ◌, unsigned_abs, take}
use Rattle.std.specs.Iterator.Adapters.{take_count, take_source}
use Rattle.std.specs.declared.iter.Take.{Take}
use Rattle.std.specs.declared.ops.RangeInclusive.{RangeInclusive}
use Rattle.std.specs.Range.{range_inclusive_start, range_inclusive_end, range_inclusive_exhausted}
use Rattle.chrono_calendar.specs.Recurrence.{past_last_date, dates_left}

-- n numbers in a row, the first of them first and each d more than the one before
unfoldable pub in_steps : ℕ → ℕ → ℤ → List ℤ
in_steps d zero first = []
in_steps d (suc n) first = first ∷ in_steps d n (first +ℤ pos d)

-- the number of the last date
abbrev pub last_date : ℤ
last_date = pos 95_745_399

-- the days from the date n to it
abbrev pub days_left : ℤ → ℕ
days_left n = unsigned_abs (last_date -ℤ n)

-- a date's number, or the number after the last date's
abbrev pub IsDayCursor : ℤ → Type 0
IsDayCursor n = (neg_ℤ (pos 95_746_129) ≤ℤ n) × (n ≤ℤ past_last_date)

-- n and the dates after it, day after day, up to the last date
unfoldable pub days_from : ℤ → List ℤ
days_from n = in_steps 1 (dates_left n) n

-- n and the dates after it, week after week, as long as the week after is a date too
unfoldable pub weeks_from : ℤ → List ℤ
weeks_from n = in_steps 7 (days_left n / 7) n

-- those of these lists that `take` lets through
abbrev pub days_taken : Take ℤ → List ℤ
days_taken t = take (take_count t) (days_from (take_source t))

-- the dates that `take` leaves of an iterator of weeks
abbrev pub weeks_taken : Take ℤ → List ℤ
weeks_taken t = take (take_count t) (weeks_from (take_source t))

-- the seven days of the week that begins with the day first
abbrev pub days_of_week : ℤ → List ℤ
days_of_week first = in_steps 1 7 first

-- the range has both ends, and nothing was taken from it
pub record IsRange (first last : ℤ) (r : RangeInclusive ℤ) : Type 0 where
  pub start : range_inclusive_start r ≡ first
  pub end : range_inclusive_end r ≡ last
  pub whole : range_inclusive_exhausted r ≡ false
