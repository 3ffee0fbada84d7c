-- Laws of schedules with seconds.
use Rattle.std.proofs.Common.{◌≡◌, ℕ, ◌+◌, ◌*◌, ◌/◌, ◌%◌, ◌<◌, ◌==◌, Bool, true, false, ◌&&◌, [], ◌∷◌, refl, ap, ap₂, ◌∙◌, arith}
use Rattle.std.proofs.Math.Bool.{or-false}
use Rattle.std.proofs.Math.Bool.{and-true}
use Rattle.std.proofs.lemmas.Bool.{and_right, ne_eqb}
use Rattle.chrono_datetime.specs.Moment.{Moment}
use Rattle.chrono_sets.specs.FiniteSets.{has, numbers}
use Rattle.chrono_sets.proofs.Members.{has-numbers}
use Rattle.chrono_cron.specs.Due.{begins_minute, is_day, is_due, is_minute}
use Rattle.timed_cron.specs.DueSeconds.{is_due_at_second, second_in_minute}
use Rattle.timed_cron.specs.declared.timed_schedule.TimedSchedule.{TimedSchedule}
use Rattle.timed_cron.proofs.MinuteOrder.{begun, due_begins, second_in_its_minute}

-- the beginning of a minute is due by its day and its minute
begun_due : (s : TimedSchedule) (m : Moment) → is_due s.schedule.sets (begun m) ≡ (is_day s.schedule.sets m.date && (is_minute s.schedule.sets (m.time.second / 60) && true))
unfolding is_due
begun_due s m =
    let minute : (0 * 3_600 + m.time.second / 60 * 60 + 0) / 60 ≡ m.time.second / 60 = omega arith in
    let whole : (0 * 3_600 + m.time.second / 60 * 60 + 0) % 60 ≡ 0 = omega arith in
    rw (minute, whole) refl

joined : (day minute both : Bool) → ((day && (minute && true)) && both) ≡ (day && (minute && both))
joined true true both = refl
joined true false both = refl
joined false minute both = refl

pub zero_alone : (s : TimedSchedule) (m : Moment) → s.seconds ≡ numbers (0 ∷ []) → is_due_at_second s m ≡ is_due s.schedule.sets m
unfolding is_due is_due_at_second
zero_alone s m zero =
    let k = m.time.second % 60 in
    let listed : has s.seconds k ≡ (k == 0) = ap (λ set. has set k) zero ∙ has-numbers (0 ∷ []) k ∙ or-false (k == 0) in
    ap₂ (λ a b. a && (b && m.time.fraction == 0)) (begun_due s m) listed
    ∙ joined (is_day s.schedule.sets m.date) (is_minute s.schedule.sets (m.time.second / 60)) (begins_minute m)

pub listed_alone : (s : TimedSchedule) (m : Moment) (k : ℕ) → k < 60 → is_due s.schedule.sets m ≡ true → is_due_at_second s (second_in_minute m k) ≡ has s.seconds k
unfolding is_due_at_second
listed_alone s m k small due =
    let begins = ap (is_due s.schedule.sets) (second_in_its_minute m k small ∙ due_begins m s due) ∙ due in
    let place : (0 * 3_600 + m.time.second / 60 * 60 + k) % 60 ≡ k = omega (arith, small) in
    ap₂ (λ a b. a && (has s.seconds b && true)) begins place ∙ and-true (has s.seconds k)

pub idle_minute : (s : TimedSchedule) (m : Moment) → is_due s.schedule.sets (begun m) ≡ false → is_due_at_second s m ≡ false
unfolding is_due_at_second
idle_minute s m idle = ap (λ b. b && (has s.seconds (m.time.second % 60) && m.time.fraction == 0)) idle

pub within_second : (s : TimedSchedule) (m : Moment) → 0 < m.time.fraction → is_due_at_second s m ≡ false
unfolding is_due_at_second
within_second s m some =
    let idle = ne_eqb m.time.fraction 0 (λ zero. absurd (omega (arith, some, zero))) in
    ap (λ b. is_due s.schedule.sets (begun m) && (has s.seconds (m.time.second % 60) && b)) idle
    ∙ and_right (is_due s.schedule.sets (begun m)) (has s.seconds (m.time.second % 60) && false) (and_right (has s.seconds (m.time.second % 60)) false refl)
