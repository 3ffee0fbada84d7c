-- What holds of seconds, told of the date-times at whose beginning they lie. A time within a second begins none.
use Rattle.std.specs.Prelude.{◌≡◌, ℤ}
use Rattle.chrono_datetime.specs.Moment.{IsBefore, IsMoment, Moment}
use Rattle.chrono_instant.specs.Instants.{epoch_second}

-- P holds of the second at whose beginning UTC shows m
abbrev pub HoldsAt : (ℤ → Type 0) → Moment → Type 0
HoldsAt P m = (m.time.fraction ≡ 0) × P (epoch_second m)

-- it does so at no instant between two
abbrev pub HoldsNotBetween : (ℤ → Type 0) → Moment → Moment → Type 0
HoldsNotBetween P start end = (m : Moment) → IsMoment m → IsBefore start m → IsBefore m end → ¬ HoldsAt P m

-- at none after one
abbrev pub HoldsNotAfter : (ℤ → Type 0) → Moment → Type 0
HoldsNotAfter P start = (m : Moment) → IsMoment m → IsBefore start m → ¬ HoldsAt P m

-- at none before one
abbrev pub HoldsNotBefore : (ℤ → Type 0) → Moment → Type 0
HoldsNotBefore P end = (m : Moment) → IsMoment m → IsBefore m end → ¬ HoldsAt P m
