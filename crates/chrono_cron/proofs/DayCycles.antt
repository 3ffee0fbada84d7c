-- The days of a schedule come again after 400 years.
use Rattle.std.proofs.Common.{◌≡◌, ℕ, zero, suc, ◌-◌, ◌*◌, Bool, ◌&&◌, ◌||◌, refl, sym, ap, ◌∙◌, arith, false, ℤ, pos, ◌+ℤ◌, ◌-ℤ◌, ◌≤ℤ◌, unsigned_abs}
use Rattle.std.proofs.lemmas.Int.{by_lt_z}
use Rattle.chrono_datetime.specs.Days.{day_of, month_of}
use Rattle.chrono_datetime.specs.MonthMoves.{month_length_of}
use Rattle.chrono_datetime.specs.Weekday.{days_from_sunday}
use Rattle.chrono_datetime.specs.Weeks.{weekday_of}
use Rattle.chrono_datetime.proofs.MonthPlaces.{month_length_of-again}
use Rattle.chrono_datetime.proofs.Cycles.{calendar_name-again}
use Rattle.chrono_datetime.proofs.Signed.{signed}
use Rattle.chrono_datetime.proofs.WeekDays.{weekday_of-weeks}
use Rattle.chrono_sets.specs.FiniteSets.{has}
use Rattle.chrono_cron.specs.declared.field_sets.FieldSets.{FieldSets}
use Rattle.chrono_cron.specs.Due.{either_or_both, is_day, is_listed_day, is_named_by_place, is_named_by_weekday}

-- a day by what tells whether it is one of the schedule's: its month, its place there, the month's length and its weekday
abbrev day_at : FieldSets → ℕ → ℕ → ℕ → ℕ → Bool
day_at s month p length w =
    let by_day = has s.days p || is_named_by_place s.month_days p (length - p) w in
    let by_weekday = has s.weekdays w || is_named_by_weekday s.month_days p (length - p) w in
    has s.months month && either_or_both s.either by_day by_weekday

day_at-same : (s : FieldSets) (month other p q length k w v : ℕ) → month ≡ other → p ≡ q → length ≡ k → w ≡ v → day_at s month p length w ≡ day_at s other q k v
day_at-same s month other p q length k w v months places lengths weekdays = rw (months, places, lengths, weekdays) refl

pub is_day-again : (s : FieldSets) (n m : ℤ) → m ≡ n +ℤ pos 146_097 → is_day s m ≡ is_day s n
unfolding is_day is_listed_day
is_day-again s n m e =
    let name = calendar_name-again n m e in
    let weekday : weekday_of m ≡ weekday_of n = weekday_of-weeks n m 20_871 e in
    day_at-same s (month_of m) (month_of n) (day_of m) (day_of n) (month_length_of m) (month_length_of n) (days_from_sunday (weekday_of m)) (days_from_sunday (weekday_of n))
    name.0 name.1 (month_length_of-again n m e) (ap days_from_sunday weekday)

-- where no day of 400 years is one of the schedule's, no later one is
none_later : (s : FieldSets) (from : ℤ) (k : ℕ) (d : ℤ) → ((d : ℤ) → from ≤ℤ d → d ≤ℤ (from +ℤ pos 146_097) → is_day s d ≡ false) → from ≤ℤ d → d ≤ℤ (from +ℤ pos (146_097 * suc k)) → is_day s d ≡ false
none_later s from zero d none low high = none d low (omega (arith, signed, high))
none_later s from (suc k) d none low high =
    by_lt_z d (from +ℤ pos 146_097)
    (λ lt. none d low (omega (arith, signed, lt)))
    (λ ge. is_day-again s (d -ℤ pos 146_097) d (omega (arith, signed)) ∙ none_later s from k (d -ℤ pos 146_097) none (omega (arith, signed, ge)) (omega (arith, signed, high)))

pub none_from : (s : FieldSets) (from d : ℤ) → ((d : ℤ) → from ≤ℤ d → d ≤ℤ (from +ℤ pos 146_097) → is_day s d ≡ false) → from ≤ℤ d → is_day s d ≡ false
none_from s from d none low = none_later s from (unsigned_abs (d -ℤ from)) d none low (omega (arith, signed, low))

-- where no day of 400 years is one of the schedule's, no earlier one is
none_earlier : (s : FieldSets) (to : ℤ) (k : ℕ) (d : ℤ) → ((d : ℤ) → (to -ℤ pos 146_097) ≤ℤ d → d ≤ℤ to → is_day s d ≡ false) → d ≤ℤ to → (to -ℤ pos (146_097 * suc k)) ≤ℤ d → is_day s d ≡ false
none_earlier s to zero d none high low = none d (omega (arith, signed, low)) high
none_earlier s to (suc k) d none high low =
    by_lt_z (to -ℤ pos 146_097) d
    (λ lt. none d (omega (arith, signed, lt)) high)
    (λ ge. sym (is_day-again s d (d +ℤ pos 146_097) refl) ∙ none_earlier s to k (d +ℤ pos 146_097) none (omega (arith, signed, ge)) (omega (arith, signed, low)))

pub none_up_to : (s : FieldSets) (to d : ℤ) → ((d : ℤ) → (to -ℤ pos 146_097) ≤ℤ d → d ≤ℤ to → is_day s d ≡ false) → d ≤ℤ to → is_day s d ≡ false
none_up_to s to d none high = none_earlier s to (unsigned_abs (to -ℤ d)) d none high (omega (arith, signed, high))
