-- Times of day (ISO 8601): their parts, where a duration leads from a time, and how far two times are apart.
-- A time is a second from 0 to 86,399 and a fraction of it in nanoseconds, which is a second or more in a leap second.
use Rattle.std.specs.Prelude.{◌≡◌, ℕ, ◌+◌, ◌*◌, ◌/◌, ◌%◌, ◌<◌, ◌≤◌, Bool, ◌&&◌, ◌==◌, nat_lt, nat_le, if◌then◌else◌, ℤ, pos, neg_ℤ, ◌+ℤ◌, ◌-ℤ◌, ◌<ℤ◌, ◌≤ℤ◌, ◌⊎◌, unsigned_abs, refl}
use Rattle.std.specs.Int.{int_div_euclid, int_rem_euclid}
use Rattle.std.specs.Int.RustNames.{int_lt}
use Rattle.std.specs.Ordering.{nat_cmp, on, then_cmp}
use Rattle.std.specs.declared.cmp.Ordering.{Ordering}
use Rattle.std.specs.declared.cmp.Ordering.TheVariants.{Less, Greater}
use Rattle.chrono_clock.specs.Duration.{nanos_per_day, nanos_per_second}

-- the seconds of a day, leap seconds left out
abbrev pub seconds_per_day : ℕ
seconds_per_day = 24 * 60 * 60

-- a second of the day, and the nanoseconds past it, of which a leap second has 1_000_000_000 or more
pub record TimeOfDay : Type 0 where
  pub second : ℕ
  pub fraction : ℕ

-- the ranges of the two parts
pub record IsTime (t : TimeOfDay) : Type 0 where
  pub second : t.second < seconds_per_day
  pub fraction : t.fraction < 2 * nanos_per_second

-- whether the time t lies in a leap second
abbrev pub is_leap : TimeOfDay → Bool
is_leap t = nat_le nanos_per_second t.fraction

-- the time t lies in a leap second: its fraction is a second or more
abbrev pub IsLeap : TimeOfDay → Type 0
IsLeap t = nanos_per_second ≤ t.fraction

-- the time t lies in no leap second: its fraction is below a second
abbrev pub IsPlain : TimeOfDay → Type 0
IsPlain t = t.fraction < nanos_per_second

-- the hour that a clock shows, from 0 to 23
abbrev pub hour_of : TimeOfDay → ℕ
hour_of t = t.second / 3_600

-- the minute that a clock shows, from 0 to 59
abbrev pub minute_of : TimeOfDay → ℕ
minute_of t = t.second / 60 % 60

-- the second that a clock shows, from 0 to 59
abbrev pub second_of : TimeOfDay → ℕ
second_of t = t.second % 60

-- the hour on a clock of twelve
abbrev pub hour12_of : TimeOfDay → ℕ
hour12_of t = if hour_of t % 12 == 0 then 12 else hour_of t % 12

-- the hour is below 24, the minute below 60, and the second below 60 (ISO 8601)
pub record IsClock (hour minute second : ℕ) : Type 0 where
  pub hour_in_day : hour < 24
  pub minute_in_hour : minute < 60
  pub second_in_minute : second < 60

-- a fraction that a new time may have at a second of its minute: a leap one at 59 alone
abbrev pub FractionFits : ℕ → ℕ → Type 0
FractionFits second fraction = (fraction < 2 * nanos_per_second) × (nanos_per_second ≤ fraction → second ≡ 59)

-- the time of an hour, a minute, a second and a fraction
abbrev pub time_at : ℕ → ℕ → ℕ → ℕ → TimeOfDay
time_at hour minute second fraction = record { second = hour * 3_600 + minute * 60 + second; fraction = fraction }

-- the time t with another hour
abbrev pub time_with_hour : TimeOfDay → ℕ → TimeOfDay
time_with_hour t hour = time_at hour (minute_of t) (second_of t) t.fraction

-- the time t with another minute
abbrev pub time_with_minute : TimeOfDay → ℕ → TimeOfDay
time_with_minute t minute = time_at (hour_of t) minute (second_of t) t.fraction

-- the time t with another second of the minute
abbrev pub time_with_second : TimeOfDay → ℕ → TimeOfDay
time_with_second t second = time_at (hour_of t) (minute_of t) second t.fraction

-- the time t with another fraction
abbrev pub time_with_fraction : TimeOfDay → ℕ → TimeOfDay
time_with_fraction t fraction = record { second = t.second; fraction = fraction }

-- ---- landings

-- the place of a time: the nanoseconds from midnight
abbrev pub place : TimeOfDay → ℕ
place t = t.second * nanos_per_second + t.fraction

-- where a move ends: so many whole days after the day of its start, and a time
pub record Landing : Type 0 where
  pub day : ℤ
  pub time : TimeOfDay

-- a point of a line with no leap second, counted from midnight: the day is its floor, and the rest gives the time
abbrev pub plain_landing : ℤ → Landing
plain_landing point =
    let rest = unsigned_abs (int_rem_euclid point (pos nanos_per_day)) in
    record { day = int_div_euclid point (pos nanos_per_day); time = record { second = rest / nanos_per_second; fraction = rest % nanos_per_second } }

-- a point of the line that holds one second more after second s: before it, inside it, and past it
abbrev pub leap_landing : ℕ → ℤ → Landing
leap_landing s point =
    if int_lt point (pos ((s + 1) * nanos_per_second)) then plain_landing point
    else (if int_lt point (pos ((s + 2) * nanos_per_second)) then record { day = pos 0; time = record { second = s; fraction = unsigned_abs (point -ℤ pos (s * nanos_per_second)) } }
    else plain_landing (point -ℤ pos nanos_per_second))

-- the point x nanoseconds past a start, read on the start's own line
unfoldable pub land : TimeOfDay → ℤ → Landing
land start x =
    let point = pos (place start) +ℤ x in
    if is_leap start then leap_landing start.second point else plain_landing point

-- a start, seen as a landing
abbrev pub landing_of : TimeOfDay → Landing
landing_of t = record { day = pos 0; time = t }

-- a landing so many days later
abbrev pub later : ℤ → Landing → Landing
later days l = record { day = days +ℤ l.day; time = l.time }

-- ---- clocks at an offset

-- what a clock shows that is x seconds ahead of one that shows t: the fraction stays, and no leap second is counted
abbrev pub clock_ahead : TimeOfDay → ℤ → Landing
clock_ahead t x =
    let second = pos t.second +ℤ x in
    record { day = int_div_euclid second (pos seconds_per_day); time = record { second = unsigned_abs (int_rem_euclid second (pos seconds_per_day)); fraction = t.fraction } }

-- ---- distances

-- the place of a time as seen from another, whose leap second counts if it comes first
abbrev pub place_beside : TimeOfDay → TimeOfDay → ℕ
place_beside t other =
    place t + (if is_leap other && nat_lt other.second t.second then nanos_per_second else 0)

-- how far a is from b
unfoldable pub distance : TimeOfDay → TimeOfDay → ℤ
distance a b = pos (place_beside a b) -ℤ pos (place_beside b a)

-- ---- laws of moves

-- two moves that go the same way, or stand still
abbrev pub SameWay : ℤ → ℤ → Type 0
SameWay x y = ((pos 0 ≤ℤ x) × (pos 0 ≤ℤ y)) ⊎ ((x ≤ℤ pos 0) × (y ≤ℤ pos 0))

-- to move by x and then by y is to move by the sum
abbrev pub TimeMovesAddUp : TimeOfDay → ℤ → ℤ → Type 0
TimeMovesAddUp start x y = land start (x +ℤ y) ≡ later (land start x).day (land (land start x).time y)

-- a comes before b on a clock
abbrev pub IsEarlier : TimeOfDay → TimeOfDay → Type 0
IsEarlier a b = (a.second < b.second) ⊎ ((a.second ≡ b.second) × (a.fraction < b.fraction))

-- times compared: by second of the day, and then by fraction
abbrev pub time_cmp : TimeOfDay → TimeOfDay → Ordering
time_cmp = then_cmp (on (λ t. t.second) nat_cmp) (on (λ t. t.fraction) nat_cmp)

-- a is on an earlier day, or earlier on the same day
abbrev pub IsEarlierLanding : Landing → Landing → Type 0
IsEarlierLanding a b = (a.day <ℤ b.day) ⊎ ((a.day ≡ b.day) × IsEarlier a.time b.time)

-- ---- known values, of the leap second at the end of a day

-- the middle of that second
last_leap : TimeOfDay
last_leap = record { second = 86_399; fraction = 1_500_000_000 }

-- 300 ms on is inside it, 500 ms on is midnight, and a second back is 23:59:59.5
land-last_leap_300_ms : land last_leap (pos 300_000_000) ≡ landing_of (record { second = 86_399; fraction = 1_800_000_000 })
unfolding land last_leap
land-last_leap_300_ms = refl

land-last_leap_500_ms : land last_leap (pos 500_000_000) ≡ record { day = pos 1; time = record { second = 0; fraction = 0 } }
unfolding land last_leap
land-last_leap_500_ms = refl

land-last_leap_second_back : land last_leap (neg_ℤ (pos 1_000_000_000)) ≡ landing_of (record { second = 86_399; fraction = 500_000_000 })
unfolding land last_leap
land-last_leap_second_back = refl

-- half a second back from midnight is the day before
land-midnight_half_second_back : land (time_at 0 0 0 0) (neg_ℤ (pos 500_000_000)) ≡ record { day = neg_ℤ (pos 1); time = record { second = 86_399; fraction = 500_000_000 } }
unfolding land
land-midnight_half_second_back = refl

-- the end of that second is 86_400.999999999 s past midnight, and from a leap second after 03:05:57 it counts up to 03:05:59
distance-last_leap : distance (record { second = 86_399; fraction = 1_999_999_999 }) (time_at 0 0 0 0) ≡ pos 86_400_999_999_999
unfolding distance
distance-last_leap = refl

distance-past_leap : distance (time_at 3 5 59 0) (time_at 3 5 57 1_000_000_000) ≡ pos 2_000_000_000
unfolding distance
distance-past_leap = refl

-- ---- known values, of clocks at an offset

-- an hour ahead of 23:30 it is 00:30 of the next day, and a second behind midnight it is the last second of the day before
clock_ahead-an_hour : clock_ahead (time_at 23 30 0 0) (pos 3_600) ≡ record { day = pos 1; time = time_at 0 30 0 0 }
clock_ahead-an_hour = refl

clock_ahead-a_second_behind : clock_ahead (time_at 0 0 0 0) (neg_ℤ (pos 1)) ≡ record { day = neg_ℤ (pos 1); time = time_at 23 59 59 0 }
clock_ahead-a_second_behind = refl

-- half an hour behind the middle of the leap second of a day it is the middle of that of another minute
clock_ahead-leap : clock_ahead last_leap (neg_ℤ (pos 1_800)) ≡ landing_of (time_at 23 29 59 1_500_000_000)
unfolding last_leap
clock_ahead-leap = refl

-- ---- known values, of the order

-- one second outweighs a longer fraction, and in one second the fraction decides
time_cmp-later_second : time_cmp (time_at 23 59 58 1_999_999_999) (time_at 23 59 59 0) ≡ Less
time_cmp-later_second = refl

time_cmp-leap_fraction : time_cmp (time_at 23 59 59 1_000_000_000) (time_at 23 59 59 999_999_999) ≡ Greater
time_cmp-leap_fraction = refl
