-- The schedule that is due at each minute.
use Rattle.std.proofs.Common.{◌≡◌, ◌/◌, true, Bool, ◌&&◌, ◌||◌, refl, ap₂, ◌∙◌, arith, ℤ}
use Rattle.std.proofs.lemmas.Bool.{agree_below_at, le-leb}
use Rattle.std.specs.Prelude.{nat_le}
use Rattle.chrono_datetime.specs.Days.{day_of, month_of}
use Rattle.chrono_datetime.specs.Moment.{Moment}
use Rattle.chrono_datetime.specs.Weekday.{days_from_sunday}
use Rattle.chrono_datetime.specs.Weeks.{weekday_of}
use Rattle.chrono_datetime.proofs.MonthOrder.{month_of-range}
use Rattle.chrono_datetime.proofs.MonthPlaces.{place-bounds, weekday_small}
use Rattle.chrono_sets.specs.FiniteSets.{has}
use Rattle.chrono_cron.specs.Due.{begins_minute, is_day, is_due, is_listed_day, is_minute}
use Rattle.chrono_cron.specs.KnownSchedules.{each_minute}

of_all : (a b m n : Bool) → a ≡ true → b ≡ true → ((a || m) && (b || n)) ≡ true
of_all a b m n first second = rw (first, second) refl

-- each day is one of the schedule's
each_day : (n : ℤ) → is_day each_minute n ≡ true
unfolding is_day is_listed_day has
each_day n =
    let month = month_of-range n in
    let day = place-bounds n in
    let in_month : has each_minute.months (month_of n) ≡ true = agree_below_at (has each_minute.months) (λ k. nat_le 1 k) 13 (month_of n) refl (omega (arith, month)) ∙ le-leb 1 (month_of n) (omega (arith, month)) in
    let in_days : has each_minute.days (day_of n) ≡ true = agree_below_at (has each_minute.days) (λ k. nat_le 1 k) 32 (day_of n) refl (omega (arith, day)) ∙ le-leb 1 (day_of n) day.0 in
    let in_week : has each_minute.weekdays (days_from_sunday (weekday_of n)) ≡ true = agree_below_at (has each_minute.weekdays) (λ k. true) 7 (days_from_sunday (weekday_of n)) refl (weekday_small n) in
    ap₂ (λ a b. a && b) in_month (of_all (has each_minute.days (day_of n)) (has each_minute.weekdays (days_from_sunday (weekday_of n))) _ _ in_days in_week)

pub due_at : (m : Moment) → is_minute each_minute (m.time.second / 60) ≡ true → begins_minute m ≡ true → is_due each_minute m ≡ true
unfolding is_due
due_at m minute begin = rw (each_day m.date, minute, begin) refl
