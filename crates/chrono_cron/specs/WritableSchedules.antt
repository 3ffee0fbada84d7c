-- The schedules that texts tell.
use Rattle.std.specs.Prelude.{◌≡◌, ℕ, ◌<◌, ◌≤◌, ◌||◌, ◌⊎◌, true, false}
use Rattle.chrono_sets.specs.FiniteSets.{FiniteSet, has}
use Rattle.chrono_cron.specs.declared.field_sets.FieldSets.{FieldSets}

-- a member of a set
abbrev pub Member : FiniteSet → Type 0
Member set = (k : ℕ) × (has set k ≡ true)

-- all members are numbers from `low` to before `end`
abbrev pub LieBetween : FiniteSet → ℕ → ℕ → Type 0
LieBetween set low end = (k : ℕ) → has set k ≡ true → (low ≤ k) × (k < end)

-- each set has numbers of its field alone, and each field lists or names something. Where both fields of days have to match, the 1st or Sunday
-- is listed: that field can begin with `*`. Where the schedule follows the clock, the hour 0 or the minute 0 is listed, likewise
pub record IsWritable (s : FieldSets) : Type 0 where
  pub minutes : LieBetween s.minutes 0 60
  pub hours : LieBetween s.hours 0 24
  pub days : LieBetween s.days 1 32
  pub months : LieBetween s.months 1 13
  pub weekdays : LieBetween s.weekdays 0 7
  pub from_end : LieBetween s.month_days.from_end 0 31
  pub nearest_workdays : LieBetween s.month_days.nearest_workdays 1 32
  pub last_weekdays : LieBetween s.month_days.last_weekdays 0 7
  pub nth_weekdays : LieBetween s.month_days.nth_weekdays 0 35
  pub a_minute : Member s.minutes
  pub an_hour : Member s.hours
  pub a_month : Member s.months
  pub a_day : Member s.days ⊎ (Member s.month_days.from_end ⊎ ((s.month_days.last_workday ≡ true) ⊎ Member s.month_days.nearest_workdays))
  pub a_weekday : Member s.weekdays ⊎ (Member s.month_days.last_weekdays ⊎ Member s.month_days.nth_weekdays)
  pub starred : s.either ≡ false → (has s.days 1 || has s.weekdays 0) ≡ true
  pub timed : s.follows_clock ≡ true → (has s.hours 0 || has s.minutes 0) ≡ true
