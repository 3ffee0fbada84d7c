-- Durations: whole numbers of nanoseconds, read in other units, divided, summed and stored.
use Rattle.std.specs.Prelude.{List, fold, take, length, ◌≡◌, ℕ, ◌*◌, ◌-◌, ◌^◌, ◌≤◌, ◌&&◌, nat_lt, nat_le, if◌then◌else◌, ℤ, pos, neg_ℤ, ◌+ℤ◌, ◌*ℤ◌, unsigned_abs, int_div, int_rem, Option, Some, None, refl}
use Rattle.std.specs.Int.{int_div_euclid, int_rem_euclid}
pub use Rattle.chrono_text.specs.Text.{nanos_per_second}

-- the nanoseconds of a minute
abbrev pub nanos_per_minute : ℕ
nanos_per_minute = 60 * nanos_per_second

-- the nanoseconds of an hour
abbrev pub nanos_per_hour : ℕ
nanos_per_hour = 60 * nanos_per_minute

-- the nanoseconds of a day
abbrev pub nanos_per_day : ℕ
nanos_per_day = 24 * nanos_per_hour

-- the nanoseconds of a week
abbrev pub nanos_per_week : ℕ
nanos_per_week = 7 * nanos_per_day

-- the nanoseconds of a microsecond
abbrev pub nanos_per_micro : ℕ
nanos_per_micro = 1_000

-- the nanoseconds of a millisecond
abbrev pub nanos_per_milli : ℕ
nanos_per_milli = 1_000 * nanos_per_micro

-- the size of the longest durations, in nanoseconds: as many milliseconds as an i64 can count
abbrev pub longest : ℕ
longest = (2 ^ 63 - 1) * nanos_per_milli

-- known values: a week, and the longest durations
nanos_per_week-digits : nanos_per_week ≡ 604_800_000_000_000
nanos_per_week-digits = refl

longest-digits : longest ≡ 9_223_372_036_854_775_807_000_000
longest-digits = refl

-- a number of nanoseconds that a duration may have
abbrev pub IsDuration : ℤ → Type 0
IsDuration x = unsigned_abs x ≤ longest

-- so many units, in nanoseconds
abbrev pub units_of : ℕ → ℤ → ℤ
units_of unit count = count *ℤ pos unit

-- so many seconds and the nanoseconds past them, in nanoseconds
abbrev pub nanos_of : ℤ → ℕ → ℤ
nanos_of secs nanos = secs *ℤ pos nanos_per_second +ℤ pos nanos

-- the duration of so many seconds and nanoseconds past them, if there is one
unfoldable pub duration_named : ℤ → ℕ → Option ℤ
duration_named secs nanos =
    if nat_lt nanos nanos_per_second && nat_le (unsigned_abs (nanos_of secs nanos)) longest then Some (nanos_of secs nanos) else None

-- a duration in whole units, rounded towards zero
abbrev pub whole_units : ℕ → ℤ → ℤ
whole_units unit x = int_div x (pos unit)

-- the part of a duration past its whole seconds, with the duration's sign
abbrev pub past_seconds : ℤ → ℤ
past_seconds x = int_rem x (pos nanos_per_second)

-- the seconds of a duration, rounded down
abbrev pub floor_secs : ℤ → ℤ
floor_secs x = int_div_euclid x (pos nanos_per_second)

-- the nanoseconds of a duration past its seconds rounded down
abbrev pub past_floor : ℤ → ℕ
past_floor x = unsigned_abs (int_rem_euclid x (pos nanos_per_second))

-- a duration divided by r: its seconds rounded down and the nanoseconds past them are divided apart, and each quotient is rounded towards zero
abbrev pub two_step_quotient : ℤ → ℤ → ℤ
two_step_quotient x r = int_div (floor_secs x *ℤ pos nanos_per_second) r +ℤ int_div (pos (past_floor x)) r

-- the sum of a list of durations
abbrev pub total : List ℤ → ℤ
total xs = fold (λ sum x. sum +ℤ x) (pos 0) xs

-- the sum of each beginning of the list is a duration
abbrev pub StaysInRange : List ℤ → Type 0
StaysInRange xs = (k : ℕ) → k ≤ length xs → IsDuration (total (take k xs))

-- known values: -1.500000001 s has one whole second, and lies past its floor of -2 s
whole_units-minus_one_and_a_half : whole_units nanos_per_second (neg_ℤ (pos 1_500_000_001)) ≡ neg_ℤ (pos 1)
whole_units-minus_one_and_a_half = refl

past_seconds-minus_one_and_a_half : past_seconds (neg_ℤ (pos 1_500_000_001)) ≡ neg_ℤ (pos 500_000_001)
past_seconds-minus_one_and_a_half = refl

floor_secs-minus_one_and_a_half : floor_secs (neg_ℤ (pos 1_500_000_001)) ≡ neg_ℤ (pos 2)
floor_secs-minus_one_and_a_half = refl

past_floor-minus_one_and_a_half : past_floor (neg_ℤ (pos 1_500_000_001)) ≡ 499_999_999
past_floor-minus_one_and_a_half = refl

-- -1 ns by 2 is -1 ns, and -4 s by 3 is -1_333_333_333 ns
two_step_quotient-minus_one_by_two : two_step_quotient (neg_ℤ (pos 1)) (pos 2) ≡ neg_ℤ (pos 1)
two_step_quotient-minus_one_by_two = refl

two_step_quotient-minus_four_seconds_by_three : two_step_quotient (neg_ℤ (pos 4_000_000_000)) (pos 3) ≡ neg_ℤ (pos 1_333_333_333)
two_step_quotient-minus_four_seconds_by_three = refl
