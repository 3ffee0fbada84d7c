-- The minutes of a day, by their hour and their minute past it.
use Rattle.std.proofs.Common.{◌≡◌, ℕ, ◌+◌, ◌*◌, ◌/◌, ◌%◌, ◌<◌, true, false, refl, arith}
use Rattle.std.proofs.lemmas.Bool.{and_left, and_right}
use Rattle.chrono_sets.specs.FiniteSets.{has}
use Rattle.chrono_cron.specs.declared.field_sets.FieldSets.{FieldSets}
use Rattle.chrono_cron.specs.Due.{is_minute}

pub is_minute-at : (s : FieldSets) (hour minute : ℕ) → minute < 60 → has s.hours hour ≡ true → has s.minutes minute ≡ true → is_minute s (hour * 60 + minute) ≡ true
unfolding is_minute
is_minute-at s hour minute small hours minutes =
    let quotient : (hour * 60 + minute) / 60 ≡ hour = omega arith in
    let rest : (hour * 60 + minute) % 60 ≡ minute = omega arith in
    rw (quotient, rest, hours, minutes) refl

pub no_hour : (s : FieldSets) (k : ℕ) → has s.hours (k / 60) ≡ false → is_minute s k ≡ false
unfolding is_minute
no_hour s k none = and_left (has s.hours (k / 60)) (has s.minutes (k % 60)) none

pub no_minute : (s : FieldSets) (k : ℕ) → has s.minutes (k % 60) ≡ false → is_minute s k ≡ false
unfolding is_minute
no_minute s k none = and_right (has s.hours (k / 60)) (has s.minutes (k % 60)) none
