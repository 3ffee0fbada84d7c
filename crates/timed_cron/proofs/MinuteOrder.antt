-- No moment at which a schedule with seconds is due lies between a start and the one that was found.
use Rattle.std.proofs.Common.{◌≡◌, ℕ, ◌+◌, ◌*◌, ◌/◌, ◌%◌, ◌<◌, ◌≤◌, ◌==◌, inl, inr, true, false, ◌&&◌, refl, sym, ap, ◌∙◌, arith, ◌≤ℤ◌, ◌<ℤ◌}
use Rattle.std.proofs.lemmas.Bool.{and_from, and_parts, both_ways, eqb-true, false_from_ne_true}
use Rattle.std.proofs.lemmas.Int.{by_lt_z}
use Rattle.std.proofs.Math.Path.{subst}
use Rattle.chrono_datetime.specs.Moment.{Moment, IsBefore, IsMoment}
use Rattle.chrono_datetime.specs.Time.{TimeOfDay, IsEarlier, time_at}
use Rattle.chrono_datetime.proofs.Signed.{signed}
use Rattle.chrono_sets.specs.FiniteSets.{has}
use Rattle.chrono_cron.specs.Due.{NotDueAfter, NotDueBefore, NotDueBetween, begins_minute, is_day, is_due, is_minute}
use Rattle.chrono_cron.specs.DueMoments.{minute_number_of}
use Rattle.timed_cron.specs.declared.timed_schedule.TimedSchedule.{TimedSchedule}
use Rattle.timed_cron.specs.DueSeconds.{is_due_at_second, second_in_minute}
use Rattle.timed_cron.specs.Private.{NoSecondIn}

-- ---- minutes, and the moments in them

abbrev pub begun : Moment → Moment
begun m = second_in_minute m 0

-- two moments of one minute
same_minute : (a b : Moment) → a.date ≡ b.date → a.time.second / 60 ≡ b.time.second / 60 → begun a ≡ begun b
same_minute a b date minute = rw (date, minute) refl

same_number : (a b : Moment) → a.time.second < 86_400 → b.time.second < 86_400 → minute_number_of a ≡ minute_number_of b → begun a ≡ begun b
same_number a b small few e = same_minute a b (omega (arith, signed, small, few, e)) (omega (arith, signed, small, few, e))

pub second_in_its_minute : (m : Moment) (k : ℕ) → k < 60 → begun (second_in_minute m k) ≡ begun m
second_in_its_minute m k small = same_minute (second_in_minute m k) m refl (omega (arith, small))

-- an earlier moment lies in no later minute
number_order : (a b : Moment) → a.time.second < 86_400 → b.time.second < 86_400 → IsBefore a b → minute_number_of a ≤ℤ minute_number_of b
number_order a b small few (inl less) = omega (arith, signed, small, few, less)
number_order a b small few (inr (date, inl less)) = omega (arith, signed, date, less)
number_order a b small few (inr (date, inr same)) = omega (arith, signed, date, same.0)

-- a minute with a smaller number begins earlier
begun_order : (a b : Moment) → a.time.second < 86_400 → b.time.second < 86_400 → minute_number_of a <ℤ minute_number_of b → IsBefore (begun a) (begun b)
begun_order a b small few less =
    by_lt_z a.date b.date (λ lt. inl lt) (λ ge. inr (omega (arith, signed, small, few, ge, less), inl (omega (arith, signed, small, few, ge, less))))

begun-moment : (m : Moment) → IsMoment m → IsMoment (begun m)
begun-moment m is = record { date = is.date; time = record { second = omega (arith, is.time.second); fraction = omega arith } }

-- a schedule without seconds is due at the beginning of a minute
pub due_begins : (m : Moment) (s : TimedSchedule) → is_due s.schedule.sets m ≡ true → begun m ≡ m
unfolding is_due
due_begins m s due =
    let day = and_parts (is_day s.schedule.sets m.date) (is_minute s.schedule.sets (m.time.second / 60) && begins_minute m) due in
    let minute = and_parts (is_minute s.schedule.sets (m.time.second / 60)) (begins_minute m) day.1 in
    let begins = and_parts (m.time.second % 60 == 0) (m.time.fraction == 0) minute.1 in
    let second : 0 * 3_600 + m.time.second / 60 * 60 + 0 ≡ m.time.second = omega (arith, eqb-true _ _ begins.0) in
    rw (second, sym (eqb-true _ _ begins.1)) refl

-- ---- due or not

-- what a moment has at which the schedule is due
pub record IsDueSecond (s : TimedSchedule) (q : Moment) : Type 0 where
  pub minute : is_due s.schedule.sets (begun q) ≡ true
  pub second : has s.seconds (q.time.second % 60) ≡ true
  pub fraction : q.time.fraction ≡ 0

pub second_parts : (s : TimedSchedule) (q : Moment) → is_due_at_second s q ≡ true → IsDueSecond s q
unfolding is_due_at_second
second_parts s q due =
    let minute = and_parts (is_due s.schedule.sets (begun q)) (has s.seconds (q.time.second % 60) && q.time.fraction == 0) due in
    let second = and_parts (has s.seconds (q.time.second % 60)) (q.time.fraction == 0) minute.1 in
    record { minute = minute.0; second = second.0; fraction = eqb-true _ _ second.1 }

not_at_second : (s : TimedSchedule) (q : Moment) → (IsDueSecond s q → ⊥) → is_due_at_second s q ≡ false
not_at_second s q never = false_from_ne_true (is_due_at_second s q) (λ due. never (second_parts s q due))

-- a second of a minute at which the five fields are due
pub due_in_minute : (s : TimedSchedule) (m : Moment) (k : ℕ) → k < 60 → is_due s.schedule.sets (begun m) ≡ true → has s.seconds k ≡ true → is_due_at_second s (second_in_minute m k) ≡ true
unfolding is_due_at_second
due_in_minute s m k small minute second =
    let place : (0 * 3_600 + m.time.second / 60 * 60 + k) % 60 ≡ k = omega (arith, small) in
    and_from (is_due s.schedule.sets (begun (second_in_minute m k))) (has s.seconds ((second_in_minute m k).time.second % 60) && 0 == 0)
    (ap (is_due s.schedule.sets) (second_in_its_minute m k small) ∙ minute)
    (and_from (has s.seconds ((second_in_minute m k).time.second % 60)) (0 == 0) (ap (has s.seconds) place ∙ second) refl)

-- ---- within one minute

-- a moment of the minute, where the schedule is due at none of the seconds among which it is
none_in : (s : TimedSchedule) (q m : Moment) (from end : ℕ) → begun q ≡ m → NoSecondIn s m from end → (q.time.fraction ≡ 0 → (from ≤ q.time.second % 60) × (q.time.second % 60 < end)) → is_due_at_second s q ≡ false
none_in s q m from end in_minute none within =
    not_at_second s q (λ at.
    let bounds = within at.fraction in
    let both = and_from (is_due s.schedule.sets m) (has s.seconds (q.time.second % 60)) (ap (is_due s.schedule.sets) (sym in_minute) ∙ at.minute) at.second in
    both_ways (is_due s.schedule.sets m && has s.seconds (q.time.second % 60)) (none (q.time.second % 60) bounds.0 bounds.1) both)

-- where the seconds are not listed
unlisted_in : (s : TimedSchedule) (q : Moment) → has s.seconds (q.time.second % 60) ≡ false → is_due_at_second s q ≡ false
unlisted_in s q none = not_at_second s q (λ at. both_ways (has s.seconds (q.time.second % 60)) none at.second)

-- where the five fields are not due
idle_in : (s : TimedSchedule) (q : Moment) → is_due s.schedule.sets (begun q) ≡ false → is_due_at_second s q ≡ false
idle_in s q none = not_at_second s q (λ at. both_ways (is_due s.schedule.sets (begun q)) none at.minute)

second_after : (a t : TimeOfDay) → IsEarlier a t → t.fraction ≡ 0 → a.second / 60 ≡ t.second / 60 → a.second % 60 + 1 ≤ t.second % 60
second_after a t (inl less) whole minute = omega (arith, less, minute)
second_after a t (inr same) whole minute = absurd (omega (arith, same.1, whole))

-- ---- after a start

abbrev Rest : TimedSchedule → Moment → ℕ → Type 0
Rest s start end = NoSecondIn s (begun start) (start.time.second % 60 + 1) end

-- in its minute, up to a second
pub least_in_minute : (s : TimedSchedule) (start q : Moment) (k : ℕ) → k < 60 → Rest s start k → IsBefore start q → IsBefore q (second_in_minute start k) → is_due_at_second s q ≡ false
least_in_minute s start q k small none (inl later) (inl earlier) = absurd (omega (arith, signed, later, earlier))
least_in_minute s start q k small none (inl later) (inr same) = absurd (omega (arith, signed, later, same.0))
least_in_minute s start q k small none (inr same) (inl earlier) = absurd (omega (arith, signed, same.0, earlier))
least_in_minute s start q k small none (inr same) (inr (date, inr level)) = absurd (omega (arith, level.1))
least_in_minute s start q k small none (inr (date, inl later)) (inr (on, inl earlier)) =
    none_in s q (begun start) (start.time.second % 60 + 1) k (same_minute q start on (omega (arith, small, later, earlier))) none
    (λ whole. (omega (arith, small, later, earlier), omega (arith, small, later, earlier)))
least_in_minute s start q k small none (inr (date, inr level)) (inr (on, inl earlier)) =
    none_in s q (begun start) (start.time.second % 60 + 1) k (same_minute q start on (omega (arith, level.0))) none
    (λ whole. absurd (omega (arith, level.1, whole)))

-- in its minute, up to its end
rest_of_minute : (s : TimedSchedule) (start q : Moment) → start.time.second < 86_400 → q.time.second < 86_400 → Rest s start 60 → IsBefore start q → minute_number_of q ≤ℤ minute_number_of start → is_due_at_second s q ≡ false
rest_of_minute s start q small few none (inl later) le = absurd (omega (arith, signed, small, few, later, le))
rest_of_minute s start q small few none (inr (date, inl later)) le =
    none_in s q (begun start) (start.time.second % 60 + 1) 60 (same_minute q start (sym date) (omega (arith, signed, date, later, le))) none
    (λ whole. (omega (arith, signed, date, later, le), omega arith))
rest_of_minute s start q small few none (inr (date, inr level)) le =
    none_in s q (begun start) (start.time.second % 60 + 1) 60 (same_minute q start (sym date) (omega (arith, level.0))) none
    (λ whole. absurd (omega (arith, level.1, whole)))

-- no second at all is listed
abbrev pub NoSeconds : TimedSchedule → ℕ → ℕ → Type 0
NoSeconds s from end = (j : ℕ) → from ≤ j → j < end → has s.seconds j ≡ false

pub never_second : (s : TimedSchedule) (q : Moment) → NoSeconds s 0 60 → is_due_at_second s q ≡ false
never_second s q none = unlisted_in s q (none (q.time.second % 60) (omega arith) (omega arith))

-- in the minute that was found, up to a second
up_to_second : (s : TimedSchedule) (q next : Moment) (k : ℕ) → k < 60 → q.time.second < 86_400 → next.time.second < 86_400 → NoSeconds s 0 k → minute_number_of next ≤ℤ minute_number_of q → IsBefore q (second_in_minute next k) → is_due_at_second s q ≡ false
up_to_second s q next k small few end unlisted le (inl earlier) = absurd (omega (arith, signed, few, end, earlier, le))
up_to_second s q next k small few end unlisted le (inr (date, inl earlier)) = unlisted_in s q (unlisted (q.time.second % 60) (omega arith) (omega (arith, signed, small, date, earlier, le)))
up_to_second s q next k small few end unlisted le (inr (date, inr level)) = absurd (omega (arith, level.1))

-- in a later minute, in which the five fields are due next, up to a second
pub least_later : (s : TimedSchedule) (start q next : Moment) (k : ℕ) → k < 60 → IsMoment start → IsMoment q → IsMoment next → begun next ≡ next
    → Rest s start 60 → NotDueBetween s.schedule.sets (begun start) next → NoSeconds s 0 k → IsBefore start q → IsBefore q (second_in_minute next k) → is_due_at_second s q ≡ false
least_later s start q next k small is at end begins rest none unlisted later earlier =
    by_lt_z (minute_number_of start) (minute_number_of q)
    (λ after. by_lt_z (minute_number_of q) (minute_number_of next)
    (λ before. idle_in s q (none (begun q) (begun-moment q at) (begun_order start q is.time.second at.time.second after) (subst (IsBefore (begun q)) begins (begun_order q next at.time.second end.time.second before))))
    (λ not_before. up_to_second s q next k small at.time.second end.time.second unlisted not_before earlier))
    (λ not_after. rest_of_minute s start q is.time.second at.time.second rest later not_after)

-- at no later moment
pub none_later : (s : TimedSchedule) (start q : Moment) → IsMoment start → IsMoment q → Rest s start 60 → NotDueAfter s.schedule.sets (begun start) → IsBefore start q → is_due_at_second s q ≡ false
none_later s start q is at rest none later =
    by_lt_z (minute_number_of start) (minute_number_of q)
    (λ after. idle_in s q (none (begun q) (begun-moment q at) (begun_order start q is.time.second at.time.second after)))
    (λ not_after. rest_of_minute s start q is.time.second at.time.second rest later not_after)

-- ---- before a start

-- the seconds of the start's minute that begin before it are below a number
abbrev pub BeginBelow : Moment → ℕ → Type 0
BeginBelow start end = (k : ℕ) → IsEarlier (time_at 0 (start.time.second / 60) k 0) start.time → k < end

begins_earlier : (t a : TimeOfDay) → IsEarlier t a → t.fraction ≡ 0 → t.second / 60 ≡ a.second / 60 → IsEarlier (time_at 0 (a.second / 60) (t.second % 60) 0) a
begins_earlier t a (inl less) whole minute = inl (omega (arith, less, minute))
begins_earlier t a (inr same) whole minute = inr (omega (arith, same.0, minute), omega (arith, same.1, whole))

in_minute : (t a : TimeOfDay) (k : ℕ) → 0 * 3_600 + a.second / 60 * 60 + k < t.second → IsEarlier t a → t.second / 60 ≡ a.second / 60
in_minute t a k later (inl less) = omega (arith, later, less)
in_minute t a k later (inr same) = omega (arith, same.0)

not_earlier : (t a : TimeOfDay) → a.second / 60 ≤ t.second / 60 → IsEarlier t a → t.second / 60 ≡ a.second / 60
not_earlier t a le (inl less) = omega (arith, le, less)
not_earlier t a le (inr same) = omega (arith, same.0)

-- in its minute, down to a second
pub greatest_in_minute : (s : TimedSchedule) (start q : Moment) (k end : ℕ) → BeginBelow start end → NoSecondIn s (begun start) (k + 1) end → IsBefore (second_in_minute start k) q → IsBefore q start → is_due_at_second s q ≡ false
greatest_in_minute s start q k end begin none (inl later) (inl earlier) = absurd (omega (arith, signed, later, earlier))
greatest_in_minute s start q k end begin none (inl later) (inr same) = absurd (omega (arith, signed, later, same.0))
greatest_in_minute s start q k end begin none (inr same) (inl earlier) = absurd (omega (arith, signed, same.0, earlier))
greatest_in_minute s start q k end begin none (inr (on, inl later)) (inr (date, earlier)) =
    let minute : q.time.second / 60 ≡ start.time.second / 60 = in_minute q.time start.time k later earlier in
    none_in s q (begun start) (k + 1) end (same_minute q start date minute) none
    (λ whole. (omega (arith, later, minute), begin (q.time.second % 60) (begins_earlier q.time start.time earlier whole minute)))
greatest_in_minute s start q k end begin none (inr (on, inr level)) (inr (date, earlier)) =
    not_at_second s q (λ at. absurd (omega (arith, level.1, at.fraction)))

-- in its minute, down to its beginning
beginning_of_minute : (s : TimedSchedule) (start q : Moment) (end : ℕ) → start.time.second < 86_400 → q.time.second < 86_400 → BeginBelow start end → NoSecondIn s (begun start) 0 end → minute_number_of start ≤ℤ minute_number_of q → IsBefore q start → is_due_at_second s q ≡ false
beginning_of_minute s start q end small few begin none le (inl earlier) = absurd (omega (arith, signed, small, few, earlier, le))
beginning_of_minute s start q end small few begin none le (inr (date, earlier)) =
    let minute : q.time.second / 60 ≡ start.time.second / 60 = not_earlier q.time start.time (omega (arith, signed, date, le)) earlier in
    none_in s q (begun start) 0 end (same_minute q start date minute) none
    (λ whole. (omega arith, begin (q.time.second % 60) (begins_earlier q.time start.time earlier whole minute)))

-- in the minute that was found, down to a second
down_to_second : (s : TimedSchedule) (q previous : Moment) (k : ℕ) → q.time.second < 86_400 → previous.time.second < 86_400 → NoSeconds s (k + 1) 60 → minute_number_of q ≤ℤ minute_number_of previous → IsBefore (second_in_minute previous k) q → is_due_at_second s q ≡ false
down_to_second s q previous k few end unlisted le (inl later) = absurd (omega (arith, signed, few, end, later, le))
down_to_second s q previous k few end unlisted le (inr (date, inl later)) = unlisted_in s q (unlisted (q.time.second % 60) (omega (arith, signed, date, later, le)) (omega arith))
down_to_second s q previous k few end unlisted le (inr (date, inr level)) = not_at_second s q (λ at. absurd (omega (arith, level.1, at.fraction)))

-- in an earlier minute, in which the five fields were due last, down to a second
pub greatest_earlier : (s : TimedSchedule) (start q previous : Moment) (k end : ℕ) → IsMoment start → IsMoment q → IsMoment previous → begun previous ≡ previous → BeginBelow start end
    → NoSecondIn s (begun start) 0 end → NotDueBetween s.schedule.sets previous (begun start) → NoSeconds s (k + 1) 60 → IsBefore (second_in_minute previous k) q → IsBefore q start → is_due_at_second s q ≡ false
greatest_earlier s start q previous k end is at first begins begin rest none unlisted later earlier =
    by_lt_z (minute_number_of q) (minute_number_of start)
    (λ before. by_lt_z (minute_number_of previous) (minute_number_of q)
    (λ after. idle_in s q (none (begun q) (begun-moment q at) (subst (λ p. IsBefore p (begun q)) begins (begun_order previous q first.time.second at.time.second after)) (begun_order q start at.time.second is.time.second before)))
    (λ not_after. down_to_second s q previous k at.time.second first.time.second unlisted not_after later))
    (λ not_before. beginning_of_minute s start q end is.time.second at.time.second begin rest not_before earlier)

-- at no earlier moment
pub none_earlier : (s : TimedSchedule) (start q : Moment) (end : ℕ) → IsMoment start → IsMoment q → BeginBelow start end → NoSecondIn s (begun start) 0 end → NotDueBefore s.schedule.sets (begun start) → IsBefore q start → is_due_at_second s q ≡ false
none_earlier s start q end is at begin rest none earlier =
    by_lt_z (minute_number_of q) (minute_number_of start)
    (λ before. idle_in s q (none (begun q) (begun-moment q at) (begun_order q start at.time.second is.time.second before)))
    (λ not_before. beginning_of_minute s start q end is.time.second at.time.second begin rest not_before earlier)

-- ---- after the minute of a start

pub later_minute : (start next : Moment) (k : ℕ) → begun next ≡ next → IsBefore (begun start) next → IsBefore start (second_in_minute next k)
later_minute start next k begins (inl later) = inl later
later_minute start next k begins (inr (date, inl later)) = inr (date, inl (omega (arith, later, ap (λ m. m.time.second) begins)))
later_minute start next k begins (inr (date, inr level)) = absurd (omega (arith, level.1, ap (λ m. m.time.fraction) begins))
