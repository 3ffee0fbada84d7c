-- Which seconds of a day are times of a rule, and which seconds of local time are its local times.
use Rattle.std.proofs.Common.{◌≡◌, ◌⊎◌, ⊎_elim, ℕ, ◌+◌, ◌/◌, ◌%◌, ◌<◌, ◌≤◌, ◌==◌, ◌&&◌, Bool, true, false, inl, inr, ℤ, pos, ◌≤ℤ◌, ◌<ℤ◌, arith, ap, refl, subst, ◌∙◌}
use Rattle.std.proofs.Math.Bool.{and-false}
use Rattle.std.proofs.lemmas.Bool.{and_parts, both_ways, eqb-true, ne_eqb}
use Rattle.std.proofs.lemmas.Int.{by_lt_z, ints}
use Rattle.chrono_datetime.specs.Moment.{IsMoment, Moment, moment}
use Rattle.chrono_datetime.specs.PassedOver.{PassedNumbers}
use Rattle.chrono_datetime.proofs.Signed.{casts}
use Rattle.chrono_instant.specs.Instants.{epoch_second}
use Rattle.chrono_rules.specs.Instances.{is_instance}
use Rattle.chrono_rules.specs.declared.rule.Rule.{Rule}
use Rattle.zoned_rules.specs.declared.clock_steps.ClockUnit.{ClockUnit}
use Rattle.zoned_rules.specs.declared.day_times.DayTimes.{DayTimes}
use Rattle.zoned_rules.specs.LocalTimes.{LocalParts, is_above_hours, is_above_minutes, is_above_seconds, is_counted_time, is_planned, is_planned_on, is_time, names_number, units_behind}
use Rattle.zoned_rules.specs.Private.{IsListed, second_on}

-- ---- a part that does not name its number

pub no_hour : (u : ClockUnit) (t : DayTimes) (own n k : ℕ) → names_number (is_above_hours u) t.hours (own / 3_600) (n / 3_600) ≡ false → k / 3_600 ≡ n / 3_600 → is_time u t own k ≡ false
unfolding is_time
no_hour u t own n k off same =
    ap (λ b. b && (names_number (is_above_minutes u) t.minutes (own / 60 % 60) (k / 60 % 60) && names_number (is_above_seconds u) t.seconds (own % 60) (k % 60)))
    (ap (names_number (is_above_hours u) t.hours (own / 3_600)) same ∙ off)

pub no_minute : (u : ClockUnit) (t : DayTimes) (own n k : ℕ) → names_number (is_above_minutes u) t.minutes (own / 60 % 60) (n / 60 % 60) ≡ false → k / 60 ≡ n / 60 → is_time u t own k ≡ false
unfolding is_time
no_minute u t own n k off same =
    ap (λ b. names_number (is_above_hours u) t.hours (own / 3_600) (k / 3_600) && (b && names_number (is_above_seconds u) t.seconds (own % 60) (k % 60)))
    (ap (λ m. names_number (is_above_minutes u) t.minutes (own / 60 % 60) (m % 60)) same ∙ off)
    ∙ and-false (names_number (is_above_hours u) t.hours (own / 3_600) (k / 3_600))

pub no_second : (u : ClockUnit) (t : DayTimes) (own n k : ℕ) → names_number (is_above_seconds u) t.seconds (own % 60) (n % 60) ≡ false → k ≡ n → is_time u t own k ≡ false
unfolding is_time
no_second u t own n k off same =
    ap (λ b. names_number (is_above_hours u) t.hours (own / 3_600) (k / 3_600) && (names_number (is_above_minutes u) t.minutes (own / 60 % 60) (k / 60 % 60) && b))
    (ap (λ m. names_number (is_above_seconds u) t.seconds (own % 60) (m % 60)) same ∙ off)
    ∙ ap (λ b. names_number (is_above_hours u) t.hours (own / 3_600) (k / 3_600) && b) (and-false (names_number (is_above_minutes u) t.minutes (own / 60 % 60) (k / 60 % 60)))
    ∙ and-false (names_number (is_above_hours u) t.hours (own / 3_600) (k / 3_600))

pub all_three : (u : ClockUnit) (t : DayTimes) (own n : ℕ) → names_number (is_above_hours u) t.hours (own / 3_600) (n / 3_600) ≡ true → names_number (is_above_minutes u) t.minutes (own / 60 % 60) (n / 60 % 60) ≡ true → names_number (is_above_seconds u) t.seconds (own % 60) (n % 60) ≡ true → is_time u t own n ≡ true
unfolding is_time
all_three u t own n a b c =
    ap (λ x. x && (names_number (is_above_minutes u) t.minutes (own / 60 % 60) (n / 60 % 60) && names_number (is_above_seconds u) t.seconds (own % 60) (n % 60))) a
    ∙ ap (λ x. x && names_number (is_above_seconds u) t.seconds (own % 60) (n % 60)) b ∙ c

-- ---- units that INTERVAL counts

pub not_counted : (r : LocalParts) (n : ℤ) (k : ℕ) → 0 < units_behind r n k → is_counted_time r n k ≡ false
unfolding is_counted_time
not_counted r n k some = rw (ne_eqb (units_behind r n k) 0 (λ e. omega (arith, e, some))) refl

pub not_listed : (r : LocalParts) (n : ℤ) (k : ℕ) → is_time r.steps.unit r.times r.start.time.second k ≡ false → is_counted_time r n k ≡ false
unfolding is_counted_time
not_listed r n k off = ap (λ b. (units_behind r n k == 0) && b) off ∙ and-false (units_behind r n k == 0)

pub counted_and_listed : (r : LocalParts) (n : ℤ) (k : ℕ) → units_behind r n k ≡ 0 → is_time r.steps.unit r.times r.start.time.second k ≡ true → is_counted_time r n k ≡ true
unfolding is_counted_time
counted_and_listed r n k none on = rw (none, on) refl

pub counted_parts : (r : LocalParts) (n : ℤ) (k : ℕ) → is_counted_time r n k ≡ true → (units_behind r n k ≡ 0) × (is_time r.steps.unit r.times r.start.time.second k ≡ true)
unfolding is_counted_time
counted_parts r n k h =
    let both = and_parts (units_behind r n k == 0) (is_time r.steps.unit r.times r.start.time.second k) h in
    (eqb-true _ _ both.0, both.1)

-- ---- ranges of seconds

by_lt : {P : Type 0} (a b : ℕ) → (a < b → P) → (b ≤ a → P) → P
by_lt a b f g = by_lt_z (pos a) (pos b) (λ lt. f (omega (arith, ints, lt))) (λ ge. g (omega (arith, ints, ge)))

pub passed_on : (test : ℕ → Bool) (a b c : ℕ) → PassedNumbers test a b → PassedNumbers test b c → PassedNumbers test a c
passed_on test a b c h g k low high = by_lt k b (λ lt. h k low lt) (λ ge. g k ge high)

-- ---- local times

pub on_instance : (r : LocalParts) (n : ℤ) (k : ℕ) → is_instance r.days r.start.date n ≡ true → is_planned_on r n k ≡ is_counted_time r n k
unfolding is_planned_on
on_instance r n k h = ap (λ b. b && is_counted_time r n k) h

pub off_instance : (r : LocalParts) (n : ℤ) (k : ℕ) → is_instance r.days r.start.date n ≡ false → is_planned_on r n k ≡ false
unfolding is_planned_on
off_instance r n k h = ap (λ b. b && is_counted_time r n k) h

pub planned_parts : (r : LocalParts) (n : ℤ) (k : ℕ) → is_planned_on r n k ≡ true → (is_instance r.days r.start.date n ≡ true) × (is_counted_time r n k ≡ true)
unfolding is_planned_on
planned_parts r n k h = and_parts (is_instance r.days r.start.date n) (is_counted_time r n k) h

pub listed_at : (r : LocalParts) (n : ℤ) (k : ℕ) (m : Moment) → m ≡ moment n (record { second = k; fraction = 0 }) → IsMoment m → is_planned_on r n k ≡ true → IsListed r m
listed_at r n k m is exists h = record { exists = exists; listed = ap (is_planned r) is ∙ ap (λ b. b && true) h }

pub listed_parts : (r : LocalParts) (q : Moment) → IsListed r q → (is_planned_on r q.date q.time.second ≡ true) × (q.time.fraction ≡ 0)
listed_parts r q h =
    let both = and_parts (is_planned_on r q.date q.time.second) (q.time.fraction == 0) h.listed in
    (both.0, eqb-true _ _ both.1)

-- where the second k of the day n lies
at_second : (m : Moment) (n : ℤ) (k : ℕ) → m ≡ moment n (record { second = k; fraction = 0 }) → epoch_second m ≡ second_on n k
at_second m n k is = ap epoch_second is

abbrev IsOnOrBehind : Moment → ℤ → ℕ → Type 0
IsOnOrBehind q n k = (n <ℤ q.date) ⊎ ((q.date ≡ n) × (k ≤ q.time.second))

on_or_behind : (q : Moment) (n : ℤ) (k : ℕ) → IsMoment q → k ≤ 86_400 → second_on n k ≤ℤ epoch_second q → IsOnOrBehind q n k
on_or_behind q n k exists few le =
    by_lt_z n q.date (λ lt. inl lt)
    (λ ge. by_lt_z q.date n (λ lt. absurd (omega (arith, casts, lt, le, exists.time.second)))
    (λ same. inr (omega (arith, ints, ge, same), omega (arith, casts, ge, same, le))))

abbrev IsOnOrBefore : Moment → ℤ → ℕ → Type 0
IsOnOrBefore q n k = (q.date <ℤ n) ⊎ ((q.date ≡ n) × (q.time.second < k))

on_or_before : (q : Moment) (n : ℤ) (k : ℕ) → IsMoment q → k ≤ 86_400 → epoch_second q <ℤ second_on n k → IsOnOrBefore q n k
on_or_before q n k exists few lt =
    by_lt_z q.date n (λ less. inl less)
    (λ ge. by_lt_z n q.date (λ more. absurd (omega (arith, casts, more, lt, few)))
    (λ same. inr (omega (arith, ints, ge, same), omega (arith, casts, ge, same, lt))))

-- a listed second of the day n is none of those that were passed over
not_passed : (r : LocalParts) (q : Moment) (n : ℤ) (a b : ℕ) → IsListed r q → q.date ≡ n → PassedNumbers (is_planned_on r n) a b → a ≤ q.time.second → q.time.second < b → ⊥
not_passed r q n a b h is passed low high =
    both_ways (is_planned_on r n q.time.second) (passed q.time.second low high)
    (subst (λ (d : ℤ). is_planned_on r d q.time.second ≡ true) is (listed_parts r q h).0)

-- nor of the times of its day
not_timed : (r : LocalParts) (q : Moment) (n : ℤ) (a b : ℕ) → IsListed r q → q.date ≡ n → PassedNumbers (is_counted_time r n) a b → a ≤ q.time.second → q.time.second < b → ⊥
not_timed r q n a b h is passed low high =
    both_ways (is_counted_time r n q.time.second) (passed q.time.second low high)
    (subst (λ (d : ℤ). is_counted_time r d q.time.second ≡ true) is (planned_parts r q.date q.time.second (listed_parts r q h).0).1)

pub on_days : (r : LocalParts) (q : Moment) → IsListed r q → is_instance r.days r.start.date q.date ≡ true
on_days r q h = (planned_parts r q.date q.time.second (listed_parts r q h).0).0

pub counted_there : (r : LocalParts) (q : Moment) → IsListed r q → is_counted_time r q.date q.time.second ≡ true
counted_there r q h = (planned_parts r q.date q.time.second (listed_parts r q h).0).1

-- ---- the first from a second of a day on

pub first_here : (r : LocalParts) (n : ℤ) (from k : ℕ) (m q : Moment) → from ≤ 86_400 → k < 86_400 → m ≡ moment n (record { second = k; fraction = 0 }) → PassedNumbers (is_planned_on r n) from k → IsListed r q → second_on n from ≤ℤ epoch_second q → epoch_second m ≤ℤ epoch_second q
first_here r n from k m q few within is passed h le =
    ⊎_elim (λ later. omega (arith, casts, at_second m n k is, later, within))
    (λ (same, low). by_lt q.time.second k (λ lt. absurd (not_passed r q n from k h same passed low lt))
    (λ ge. omega (arith, casts, at_second m n k is, same, ge)))
    (on_or_behind q n from h.exists few le)

-- a local time that is none of those of the day n from a second on lies on a later day
pub on_later_day : (r : LocalParts) (n : ℤ) (from : ℕ) (q : Moment) → from ≤ 86_400 → PassedNumbers (is_planned_on r n) from 86_400 → IsListed r q → second_on n from ≤ℤ epoch_second q → n <ℤ q.date
on_later_day r n from q few passed h le =
    ⊎_elim (λ later. later) (λ (same, low). absurd (not_passed r q n from 86_400 h same passed low h.exists.time.second))
    (on_or_behind q n from h.exists few le)

pub later_day : (n : ℤ) (from : ℕ) (m : Moment) → from ≤ 86_400 → n <ℤ m.date → second_on n from ≤ℤ epoch_second m
later_day n from m few lt = omega (arith, casts, lt, few)

pub not_later_day : (n : ℤ) (from : ℕ) (q : Moment) → from ≤ 86_400 → IsMoment q → (second_on n from ≤ℤ epoch_second q → n <ℤ q.date) → q.date ≤ℤ n → epoch_second q <ℤ second_on n from
not_later_day n from q few exists later le =
    by_lt_z (epoch_second q) (second_on n from) (λ lt. lt) (λ ge. absurd (omega (arith, ints, le, later ge)))

-- the first of the times of a day, among the local times from that day on
pub first_of_day : (r : LocalParts) (day : ℤ) (k : ℕ) (m q : Moment) → k < 86_400 → m ≡ moment day (record { second = k; fraction = 0 }) → PassedNumbers (is_counted_time r day) 0 k → IsListed r q → day ≤ℤ q.date → epoch_second m ≤ℤ epoch_second q
first_of_day r day k m q within is untimed h le =
    by_lt_z day q.date (λ lt. omega (arith, casts, at_second m day k is, lt, within))
    (λ ge.
    by_lt q.time.second k (λ lt. absurd (not_timed r q day 0 k h (omega (arith, ints, le, ge)) untimed (omega arith) lt))
    (λ more. omega (arith, casts, at_second m day k is, le, more)))

-- a day without times has no local time
pub past_day : (r : LocalParts) (day : ℤ) (q : Moment) → PassedNumbers (is_counted_time r day) 0 86_400 → IsListed r q → ¬ (q.date ≡ day)
past_day r day q untimed h same = not_timed r q day 0 86_400 h same untimed (omega arith) h.exists.time.second

pub later_second : (n : ℤ) (from k : ℕ) (m : Moment) → from ≤ k → m ≡ moment n (record { second = k; fraction = 0 }) → second_on n from ≤ℤ epoch_second m
later_second n from k m le is = omega (arith, casts, at_second m n k is, le)

-- ---- the last before a second of a day

pub last_here : (r : LocalParts) (n : ℤ) (end k : ℕ) (m q : Moment) → end ≤ 86_400 → k < end → m ≡ moment n (record { second = k; fraction = 0 }) → PassedNumbers (is_planned_on r n) (k + 1) end → IsListed r q → epoch_second q <ℤ second_on n end → epoch_second q ≤ℤ epoch_second m
last_here r n end k m q few within is passed h lt =
    ⊎_elim (λ sooner. omega (arith, casts, at_second m n k is, sooner, h.exists.time.second))
    (λ (same, high). by_lt k q.time.second (λ more. absurd (not_passed r q n (k + 1) end h same passed (omega (arith, more)) high))
    (λ ge. omega (arith, casts, at_second m n k is, same, ge)))
    (on_or_before q n end h.exists few lt)

-- a local time that is none of those of the day n before a second lies on an earlier day
pub on_earlier_day : (r : LocalParts) (n : ℤ) (end : ℕ) (q : Moment) → end ≤ 86_400 → PassedNumbers (is_planned_on r n) 0 end → IsListed r q → epoch_second q <ℤ second_on n end → q.date <ℤ n
on_earlier_day r n end q few passed h lt =
    ⊎_elim (λ sooner. sooner) (λ (same, high). absurd (not_passed r q n 0 end h same passed (omega arith) high))
    (on_or_before q n end h.exists few lt)

pub before_day : (n day : ℤ) (k : ℕ) (m : Moment) → k < 86_400 → day <ℤ n → m ≡ moment day (record { second = k; fraction = 0 }) → epoch_second m <ℤ second_on n 0
before_day n day k m few lt is = omega (arith, casts, at_second m day k is, lt, few)

pub earlier_day : (n : ℤ) (end : ℕ) (m : Moment) → epoch_second m <ℤ second_on n 0 → epoch_second m <ℤ second_on n end
earlier_day n end m lt = omega (arith, casts, lt)

pub not_earlier_day : (n : ℤ) (end : ℕ) (q : Moment) → (epoch_second q <ℤ second_on n end → q.date <ℤ n) → n ≤ℤ q.date → second_on n end ≤ℤ epoch_second q
not_earlier_day n end q sooner le =
    by_lt_z (epoch_second q) (second_on n end) (λ lt. absurd (omega (arith, ints, le, sooner lt))) (λ ge. ge)

-- the last of the times of a day, among the local times up to that day
pub last_of_day : (r : LocalParts) (day : ℤ) (k : ℕ) (m q : Moment) → k < 86_400 → m ≡ moment day (record { second = k; fraction = 0 }) → PassedNumbers (is_counted_time r day) (k + 1) 86_400 → IsListed r q → q.date ≤ℤ day → epoch_second q ≤ℤ epoch_second m
last_of_day r day k m q within is untimed h le =
    by_lt_z q.date day (λ lt. omega (arith, casts, at_second m day k is, lt, h.exists.time.second))
    (λ ge.
    by_lt k q.time.second (λ more. absurd (not_timed r q day (k + 1) 86_400 h (omega (arith, ints, le, ge)) untimed (omega (arith, more)) h.exists.time.second))
    (λ less. omega (arith, casts, at_second m day k is, ge, less)))

pub earlier_second : (n : ℤ) (end k : ℕ) (m : Moment) → k < end → m ≡ moment n (record { second = k; fraction = 0 }) → epoch_second m <ℤ second_on n end
earlier_second n end k m lt is = omega (arith, casts, at_second m n k is, lt)

-- ---- what a call of the rule of days found

-- a claim on the instances of a rule, by other names of the rule and of its start
pub renamed : (P : (ℤ → Bool) → Type 0) (r s : Rule) (a b : ℤ) → r ≡ s → a ≡ b → P (is_instance r a) → P (is_instance s b)
renamed P r s a b is_rule is_start h =
    subst (λ (x : ℤ). P (is_instance s x)) is_start (subst (λ (x : Rule). P (is_instance x a)) is_rule h)
