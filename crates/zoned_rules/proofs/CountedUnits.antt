-- Which units of the clock INTERVAL leaves out.
use Rattle.std.proofs.Common.{◌≡◌, ◌==◌, ◌&&◌, ◌+◌, ◌*◌, ℕ, zero, suc, ◌%◌, ◌<◌, ◌≤◌, cond, ap, ◌∙◌, refl, sym, arith, ℤ, pos, neg_ℤ, ◌+ℤ◌, ◌-ℤ◌, ◌*ℤ◌, ◌≤ℤ◌, ◌<ℤ◌, unsigned_abs, of_z, to_z, w64}
use Rattle.std.specs.Int.{int_rem_euclid}
use Rattle.std.proofs.lemmas.Bool.{ne_eqb}
use Rattle.std.proofs.lemmas.Int.{by_lt_z, ints}
use Rattle.std.proofs.lemmas.Nat.{mod-mul-add}
use Rattle.chrono_datetime.proofs.Signed.{casts}
use Rattle.zoned_rules.specs.declared.clock_steps.ClockSteps.{ClockSteps}
use Rattle.zoned_rules.specs.declared.clock_steps.ClockUnit.{ClockUnit}
use Rattle.zoned_rules.specs.declared.clock_steps.ClockUnit.TheVariants.{Day, Hour, Minute, Second}
use Rattle.zoned_rules.specs.LocalTimes.{LocalParts, is_counted_time, is_time, unit_number, units_behind}
use Rattle.zoned_rules.specs.Private.{interval_units, units_of_day}
use Rattle.zoned_rules.proofs.Intervals.{none-left, off-ahead, off-back, off-behind-whole, rem-less}

pub unit_number-rises : (u : ClockUnit) (n : ℤ) (j k : ℕ) → j ≤ k → unit_number u n j ≤ℤ unit_number u n k
unfolding unit_number
unit_number-rises Day n j k le = omega (arith, ints)
unit_number-rises Hour n j k le = omega (arith, ints, le)
unit_number-rises Minute n j k le = omega (arith, ints, le)
unit_number-rises Second n j k le = omega (arith, ints, le)

-- on another day the second has the number of the unit whole days later
unit_number-moved : (u : ClockUnit) (n d : ℤ) (k : ℕ) → unit_number u d k ≡ unit_number u n k +ℤ (d -ℤ n) *ℤ pos (units_of_day u)
unfolding unit_number units_of_day
unit_number-moved Day n d k = omega (arith, casts)
unit_number-moved Hour n d k = omega (arith, casts)
unit_number-moved Minute n d k = omega (arith, casts)
unit_number-moved Second n d k = omega (arith, casts)

-- in front of the next unit that counts
pub behind-ahead : (r : LocalParts) (n d : ℤ) (j k : ℕ) → 0 < interval_units r.steps → 0 < units_behind r n j → unit_number r.steps.unit n j ≤ℤ unit_number r.steps.unit d k → unit_number r.steps.unit d k <ℤ (unit_number r.steps.unit n j +ℤ (pos (interval_units r.steps) -ℤ pos (units_behind r n j))) → 0 < units_behind r d k
unfolding units_behind
behind-ahead r n d j k some left low high =
    let own = unit_number r.steps.unit r.start.date r.start.time.second in
    off-ahead (unit_number r.steps.unit n j -ℤ own) (unit_number r.steps.unit d k -ℤ own) (interval_units r.steps) some left (omega (arith, ints, low)) (omega (arith, ints, high))

-- behind the last unit that counts
pub behind-back : (r : LocalParts) (n d : ℤ) (j k : ℕ) → 0 < interval_units r.steps → unit_number r.steps.unit d k ≤ℤ unit_number r.steps.unit n j → (unit_number r.steps.unit n j -ℤ pos (units_behind r n j)) <ℤ unit_number r.steps.unit d k → 0 < units_behind r d k
unfolding units_behind
behind-back r n d j k some high low =
    let own = unit_number r.steps.unit r.start.date r.start.time.second in
    off-back (unit_number r.steps.unit n j -ℤ own) (unit_number r.steps.unit d k -ℤ own) (interval_units r.steps) some (omega (arith, ints, high)) (omega (arith, ints, low))

-- behind a unit, and in front of the next that counts
pub behind-beyond : (r : LocalParts) (n d : ℤ) (j k : ℕ) → 0 < interval_units r.steps → unit_number r.steps.unit n j <ℤ unit_number r.steps.unit d k → unit_number r.steps.unit d k <ℤ (unit_number r.steps.unit n j +ℤ (pos (interval_units r.steps) -ℤ pos (units_behind r n j))) → 0 < units_behind r d k
unfolding units_behind
behind-beyond r n d j k some low high =
    let own = unit_number r.steps.unit r.start.date r.start.time.second in
    off-behind-whole (unit_number r.steps.unit n j -ℤ own) (unit_number r.steps.unit d k -ℤ own) (interval_units r.steps) some (omega (arith, ints, low)) (omega (arith, ints, high))

-- the units of a later day are later
pub later-day-unit : (u : ClockUnit) (n d : ℤ) (j k : ℕ) → n <ℤ d → j < 86_400 → unit_number u n j <ℤ unit_number u d k
unfolding unit_number
later-day-unit Day n d j k lt few = lt
later-day-unit Hour n d j k lt few = omega (arith, casts, lt, few)
later-day-unit Minute n d j k lt few = omega (arith, casts, lt, few)
later-day-unit Second n d j k lt few = omega (arith, casts, lt, few)

-- those of an earlier day are no later than its first unit
pub earlier-day-unit : (u : ClockUnit) (n d : ℤ) (k : ℕ) → d <ℤ n → k < 86_400 → unit_number u d k ≤ℤ unit_number u n 0
unfolding unit_number
earlier-day-unit Day n d k lt few = omega (arith, ints, lt)
earlier-day-unit Hour n d k lt few = omega (arith, casts, lt, few)
earlier-day-unit Minute n d k lt few = omega (arith, casts, lt, few)
earlier-day-unit Second n d k lt few = omega (arith, casts, lt, few)

pub some_interval : (g : ℕ) → 0 < g → cond (g == 0) 1 g ≡ g
some_interval g some = rw (ne_eqb g 0 (λ e. omega (arith, e, some))) refl

pub interval_units-some : (s : ClockSteps) → 0 < interval_units s
interval_units-some s =
    by_lt_z (pos 0) (pos s.interval)
    (λ lt. let some : 0 < s.interval = omega (arith, ints, lt) in rw (some_interval s.interval some) some)
    (λ ge. let none : s.interval ≡ 0 = omega (arith, ints, ge) in rw none (omega arith))

-- where the interval counts a unit, a divisor of the interval and of a day counts the units of that second of each day
pub common_units : (r : LocalParts) (n d : ℤ) (k g : ℕ) → 0 < interval_units r.steps → 0 < g → interval_units r.steps % g ≡ 0 → units_of_day r.steps.unit % g ≡ 0 → units_behind r n k ≡ 0 → units_behind (record r { steps = record { unit = r.steps.unit; interval = g } }) d k ≡ 0
unfolding units_behind
common_units r n d k g some some-g whole-s whole-day none =
    let u = r.steps.unit in
    let own = unit_number u r.start.date r.start.time.second in
    let apart : unit_number u d k -ℤ own ≡ (unit_number u n k -ℤ own) +ℤ (d -ℤ n) *ℤ pos (units_of_day u) = omega (arith, ints, unit_number-moved u n d k) in
    ap (λ x. unsigned_abs (int_rem_euclid (unit_number u d k -ℤ own) (pos x))) (some_interval g some-g)
    ∙ ap (λ (z : ℤ). unsigned_abs (int_rem_euclid z (pos g))) apart
    ∙ none-left (unit_number u n k -ℤ own) (d -ℤ n) (interval_units r.steps) (units_of_day u) g some some-g whole-s whole-day none

-- where the interval divides a day, it counts the units of that second of each day
units_again : (r : LocalParts) (n d : ℤ) (k : ℕ) → units_of_day r.steps.unit % interval_units r.steps ≡ 0 → units_behind r n k ≡ 0 → units_behind r d k ≡ 0
unfolding units_behind
units_again r n d k whole none =
    let u = r.steps.unit in
    let s = interval_units r.steps in
    let some = interval_units-some r.steps in
    let own = unit_number u r.start.date r.start.time.second in
    let apart : unit_number u d k -ℤ own ≡ (unit_number u n k -ℤ own) +ℤ (d -ℤ n) *ℤ pos (units_of_day u) = omega (arith, ints, unit_number-moved u n d k) in
    let once : s % s ≡ 0 = ap (λ x. x % s) (omega arith) ∙ mod-mul-add 1 s 0 some in
    ap (λ (z : ℤ). unsigned_abs (int_rem_euclid z (pos s))) apart ∙ none-left (unit_number u n k -ℤ own) (d -ℤ n) s (units_of_day u) s some some once whole none

are_none : (a b : ℕ) → (a ≡ 0 → b ≡ 0) → (b ≡ 0 → a ≡ 0) → (a == 0) ≡ (b == 0)
are_none zero b to from = ap (λ x. x == 0) (sym (to refl))
are_none (suc a) zero to from = absurd (omega (arith, from refl))
are_none (suc a) (suc b) to from = ne_eqb (suc a) 0 (λ e. omega (arith, e)) ∙ sym (ne_eqb (suc b) 0 (λ e. omega (arith, e)))

pub same_times : (r : LocalParts) (n d : ℤ) (k : ℕ) → units_of_day r.steps.unit % interval_units r.steps ≡ 0 → is_counted_time r d k ≡ is_counted_time r n k
unfolding is_counted_time
same_times r n d k whole =
    ap (λ b. b && is_time r.steps.unit r.times r.start.time.second k) (are_none (units_behind r d k) (units_behind r n k) (units_again r d n k whole) (units_again r n d k whole))

sum_none : (g s : ℕ) → 0 * g + s ≡ s
sum_none g s = omega arith

-- a divisor that is no less is the number
pub whole_divisor : (s g : ℕ) → 0 < s → s % g ≡ 0 → s ≤ g → 0 < g → g ≡ s
whole_divisor s g some none le some-g =
    by_lt_z (pos s) (pos g)
    (λ lt. absurd (omega (arith, some, none, ap (λ x. x % g) (sum_none g s), mod-mul-add 0 g s (omega (arith, ints, lt)))))
    (λ ge. omega (arith, ints, le, ge))

one_interval : (i : ℕ) → i ≤ 1 → cond (i == 0) 1 i ≡ 1
one_interval zero few = refl
one_interval (suc zero) few = refl
one_interval (suc (suc i)) few = absurd (omega (arith, few))

-- each unit counts without an interval
pub units_behind-one : (r : LocalParts) (n : ℤ) (k : ℕ) → r.steps.interval ≤ 1 → units_behind r n k ≡ 0
unfolding units_behind
units_behind-one r n k few =
    let apart : ℤ = unit_number r.steps.unit n k -ℤ unit_number r.steps.unit r.start.date r.start.time.second in
    ap (λ s. unsigned_abs (int_rem_euclid apart (pos s))) (one_interval r.steps.interval few) ∙ omega (arith, rem-less apart 1 (omega arith))

-- ---- how far two units lie apart

abbrev IsUnitNumber : ℤ → Type 0
IsUnitNumber z = (neg_ℤ (pos 10_000_000_000_000) ≤ℤ z) × (z ≤ℤ pos 10_000_000_000_000)

apart_again : (a b : ℤ) → IsUnitNumber a → IsUnitNumber b → to_z w64 (of_z w64 (to_z w64 (of_z w64 a) -ℤ to_z w64 (of_z w64 b))) ≡ (a -ℤ b)
apart_again a b one other = omega (arith, casts, one.0, one.1, other.0, other.1)

pub apart_low : (a b : ℤ) → IsUnitNumber a → IsUnitNumber b → neg_ℤ (pos 20_000_000_000_000) ≤ℤ to_z w64 (of_z w64 (to_z w64 (of_z w64 a) -ℤ to_z w64 (of_z w64 b)))
apart_low a b one other = let is = apart_again a b one other in omega (arith, ints, is, one.0, other.1)

pub apart_high : (a b : ℤ) → IsUnitNumber a → IsUnitNumber b → to_z w64 (of_z w64 (to_z w64 (of_z w64 a) -ℤ to_z w64 (of_z w64 b))) ≤ℤ pos 20_000_000_000_000
apart_high a b one other = let is = apart_again a b one other in omega (arith, ints, is, one.1, other.0)
