-- The days on which no unit that INTERVAL counts lies.
use Rattle.std.proofs.Common.{◌≡◌, ℕ, ◌%◌, ◌<◌, false, is_some, Option, Some, None, IfNone, ℤ, pos, ◌+ℤ◌, ◌-ℤ◌, ◌≤ℤ◌, ◌<ℤ◌, arith}
use Rattle.std.proofs.lemmas.Bool.{both_ways}
use Rattle.std.proofs.lemmas.Int.{by_lt_z, ints}
use Rattle.chrono_datetime.specs.Moment.{Moment}
use Rattle.chrono_datetime.specs.PassedOver.{PassedNumbers}
use Rattle.zoned_rules.specs.LocalTimes.{LocalParts, is_counted_time, unit_number, units_behind}
use Rattle.zoned_rules.specs.Private.{IsListed, interval_units, units_of_day}
use Rattle.zoned_rules.proofs.CountedUnits.{behind-back, behind-beyond, common_units, earlier-day-unit, later-day-unit}
use Rattle.zoned_rules.proofs.ListedTimes.{counted_and_listed, counted_parts, counted_there}

pub none_there : {X A : Type 0} (o : Option X) → IfNone o A → is_some o ≡ false → A
none_there None h off = h
none_there (Some x) h off = absurd cc

-- none of the times of a day is in a unit of the common divisor
pub never : (r : LocalParts) (g : ℕ) (d : ℤ) (q : Moment) → 0 < interval_units r.steps → 0 < g → interval_units r.steps % g ≡ 0 → units_of_day r.steps.unit % g ≡ 0 → PassedNumbers (is_counted_time (record r { steps = record { unit = r.steps.unit; interval = g } }) d) 0 86_400 → ¬ IsListed r q
never r g d q some some-g whole whole-day passed h =
    let k = q.time.second in
    let s : LocalParts = record r { steps = record { unit = r.steps.unit; interval = g } } in
    let parts = counted_parts r q.date k (counted_there r q h) in
    both_ways (is_counted_time s d k) (passed k (omega arith) h.exists.time.second)
    (counted_and_listed s d k (common_units r q.date d k g some some-g whole whole-day parts.0) parts.1)

-- the unit of a local time counts
unit_counts : (r : LocalParts) (q : Moment) → IsListed r q → units_behind r q.date q.time.second ≡ 0
unit_counts r q h = (counted_parts r q.date q.time.second (counted_there r q h)).0

-- behind a day, and up to the next unit that counts
pub beyond : (r : LocalParts) (day w units : ℤ) (q : Moment) → 0 < interval_units r.steps → units ≡ (pos (interval_units r.steps) -ℤ pos (units_behind r day 86_399)) -ℤ pos 1 → ((n d : ℤ) (k : ℕ) → d ≤ℤ (n +ℤ w) → k < 86_400 → unit_number r.steps.unit d k ≤ℤ (unit_number r.steps.unit n 86_399 +ℤ units)) → IsListed r q → day <ℤ q.date → (day +ℤ w) <ℤ q.date
beyond r day w units q some is ahead h lt =
    by_lt_z (day +ℤ w) q.date (λ less. less)
    (λ ge.
    let k = q.time.second in
    let left : 0 < units_behind r q.date k =
    behind-beyond r day q.date 86_399 k some (later-day-unit r.steps.unit day q.date 86_399 k lt (omega arith))
    (omega (arith, ints, ahead day q.date k ge h.exists.time.second, is)) in
    absurd (omega (arith, left, unit_counts r q h)))

-- before a day, and back to the last unit that counts
pub in_front : (r : LocalParts) (day w units : ℤ) (q : Moment) → 0 < interval_units r.steps → units ≡ pos (units_behind r day 0) -ℤ pos 1 → ((n d : ℤ) (k : ℕ) → (n -ℤ w) ≤ℤ d → (unit_number r.steps.unit n 0 -ℤ units) ≤ℤ unit_number r.steps.unit d k) → IsListed r q → q.date <ℤ day → q.date <ℤ (day -ℤ w)
in_front r day w units q some is back h lt =
    by_lt_z q.date (day -ℤ w) (λ less. less)
    (λ ge.
    let k = q.time.second in
    let left : 0 < units_behind r q.date k =
    behind-back r day q.date 0 k some (earlier-day-unit r.steps.unit day q.date k lt h.exists.time.second)
    (omega (arith, ints, back day q.date k ge, is)) in
    absurd (omega (arith, left, unit_counts r q h)))
