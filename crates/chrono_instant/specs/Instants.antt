-- Instants: date-times in UTC as times from 1 January 1970, 00:00:00, with days of 86,400 seconds each.
use Rattle.std.specs.Prelude.{◌≡◌, ℕ, ℤ, pos, neg_ℤ, ◌+ℤ◌, ◌-ℤ◌, ◌*ℤ◌, ◌≤ℤ◌, unsigned_abs, refl}
use Rattle.std.specs.Int.{int_rem_euclid}
use Rattle.chrono_clock.specs.Duration.{nanos_per_second}
use Rattle.chrono_clock.specs.Time.{IsPlain, seconds_per_day, time_at}
use Rattle.chrono_datetime.specs.Fields.{unix_epoch_day}
use Rattle.chrono_datetime.specs.Moment.{Moment, IsMoment, moment}

-- the seconds from 1 January 1970, 00:00:00, to the second in which m lies
abbrev pub epoch_second : Moment → ℤ
epoch_second m = (m.date -ℤ unix_epoch_day) *ℤ pos seconds_per_day +ℤ pos m.time.second

-- the seconds that dates have: from -262143-01-01T00:00:00 to 262142-12-31T23:59:59
abbrev pub IsEpochSecond : ℤ → Type 0
IsEpochSecond s = (neg_ℤ (pos 8_334_601_228_800) ≤ℤ s) × (s ≤ℤ pos 8_210_266_876_799)

-- the place of a second in its minute, from 0 to 59
abbrev pub second_of_minute : ℤ → ℕ
second_of_minute s = unsigned_abs (int_rem_euclid s (pos 60))

-- m is a date-time that lies in the second s, so many nanoseconds past its beginning
pub record LiesIn (s : ℤ) (nanos : ℕ) (m : Moment) : Type 0 where
  pub second : epoch_second m ≡ s
  pub past : m.time.fraction ≡ nanos
  pub exists : IsMoment m

-- the nanoseconds from 1 January 1970, 00:00:00, to m; those of a leap second run on into the next second
abbrev pub epoch_nanos : Moment → ℤ
epoch_nanos m = epoch_second m *ℤ pos nanos_per_second +ℤ pos m.time.fraction

-- m is a date-time x nanoseconds from 1 January 1970, 00:00:00, in no leap second
pub record LiesAt (x : ℤ) (m : Moment) : Type 0 where
  pub nanos : epoch_nanos m ≡ x
  pub plain : IsPlain m.time
  pub exists : IsMoment m

-- ---- known values

-- the first second of 1 January 1970, and the second before it
epoch_second-zero : epoch_second (moment unix_epoch_day (time_at 0 0 0 0)) ≡ pos 0
epoch_second-zero = refl

epoch_second-before : epoch_second (moment (unix_epoch_day -ℤ pos 1) (time_at 23 59 59 999_999_999)) ≡ neg_ℤ (pos 1)
epoch_second-before = refl

-- the first and the last second of the dates
epoch_second-first : epoch_second (moment (neg_ℤ (pos 95_746_129)) (time_at 0 0 0 0)) ≡ neg_ℤ (pos 8_334_601_228_800)
epoch_second-first = refl

epoch_second-last : epoch_second (moment (pos 95_745_399) (time_at 23 59 59 999_999_999)) ≡ pos 8_210_266_876_799
epoch_second-last = refl
