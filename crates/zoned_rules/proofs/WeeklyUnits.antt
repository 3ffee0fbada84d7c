-- Where a common divisor of the interval and a week leaves out all weekdays that a rule lists.
use Rattle.std.proofs.Common.{◌≡◌, ◌∙◌, ℕ, ◌*◌, ◌%◌, ◌<◌, true, ap, arith, ℤ, pos, neg_ℤ, ◌+ℤ◌, ◌-ℤ◌, ◌*ℤ◌, unsigned_abs}
use Rattle.std.specs.Int.{int_div_euclid, int_rem_euclid}
use Rattle.std.proofs.lemmas.Bool.{both_ways}
use Rattle.std.proofs.lemmas.Int.{ints}
use Rattle.chrono_datetime.proofs.Signed.{casts, signed}
use Rattle.chrono_datetime.specs.Moment.{Moment}
use Rattle.chrono_datetime.specs.Weekday.{days_from_monday, weekday_from_sunday}
use Rattle.chrono_datetime.specs.Weeks.{days_from_sunday_of, weekday_of}
use Rattle.chrono_sets.specs.FiniteSets.{has}
use Rattle.chrono_rules.specs.Instances.{is_instance}
use Rattle.zoned_rules.specs.declared.clock_steps.ClockUnit.{ClockUnit}
use Rattle.zoned_rules.specs.declared.clock_steps.ClockUnit.TheVariants.{Day, Hour, Minute, Second}
use Rattle.zoned_rules.specs.LocalTimes.{LocalParts, is_counted_time, unit_number, units_behind}
use Rattle.zoned_rules.specs.Private.{IsListed, MissesWeekday, interval_units, units_of_day}
use Rattle.zoned_rules.proofs.CountedUnits.{some_interval}
use Rattle.zoned_rules.proofs.Intervals.{none-left}
use Rattle.zoned_rules.proofs.ListedTimes.{counted_and_listed, counted_parts, counted_there, listed_parts, planned_parts}

-- whole weeks earlier the second has the number of the unit as many weeks earlier
unit_number-weeks : (u : ClockUnit) (n d m : ℤ) (k : ℕ) → n ≡ d +ℤ pos 7 *ℤ m → unit_number u d k ≡ unit_number u n k +ℤ neg_ℤ m *ℤ pos (7 * units_of_day u)
unfolding unit_number units_of_day
unit_number-weeks Day n d m k e = omega (arith, casts, e)
unit_number-weeks Hour n d m k e = omega (arith, casts, e)
unit_number-weeks Minute n d m k e = omega (arith, casts, e)
unit_number-weeks Second n d m k e = omega (arith, casts, e)

-- where the interval counts a unit, a divisor of the interval and of a week counts the units of that second whole weeks earlier
weekly_units : (r : LocalParts) (n d m : ℤ) (k g : ℕ) → n ≡ d +ℤ pos 7 *ℤ m → 0 < interval_units r.steps → 0 < g → interval_units r.steps % g ≡ 0 → (7 * units_of_day r.steps.unit) % g ≡ 0 → units_behind r n k ≡ 0 → units_behind (record r { steps = record { unit = r.steps.unit; interval = g } }) d k ≡ 0
unfolding units_behind
weekly_units r n d m k g e some some-g whole-s whole-week none =
    let u = r.steps.unit in
    let own = unit_number u r.start.date r.start.time.second in
    let apart : unit_number u d k -ℤ own ≡ (unit_number u n k -ℤ own) +ℤ neg_ℤ m *ℤ pos (7 * units_of_day u) = omega (arith, ints, unit_number-weeks u n d m k e) in
    ap (λ x. unsigned_abs (int_rem_euclid (unit_number u d k -ℤ own) (pos x))) (some_interval g some-g)
    ∙ ap (λ (z : ℤ). unsigned_abs (int_rem_euclid z (pos g))) apart
    ∙ none-left (unit_number u n k -ℤ own) (neg_ℤ m) (interval_units r.steps) (7 * units_of_day u) g some some-g whole-s whole-week none

pub misses : (r : LocalParts) (g : ℕ) (q : Moment) → 0 < interval_units r.steps → 0 < g → interval_units r.steps % g ≡ 0 → (7 * units_of_day r.steps.unit) % g ≡ 0 → ((n : ℤ) → is_instance r.days r.start.date n ≡ true → has r.days.weekdays.every (days_from_monday (weekday_of n)) ≡ true) → ((day : ℕ) → day < 7 → MissesWeekday (record r { steps = record { unit = r.steps.unit; interval = g } }) day) → ¬ IsListed r q
misses r g q some some-g whole-s whole-week listed missed h =
    let n : ℤ = q.date in
    let k : ℕ = q.time.second in
    let j : ℕ = days_from_sunday_of n in
    let s : LocalParts = record r { steps = record { unit = r.steps.unit; interval = g } } in
    let less : j < 7 = omega (arith, signed) in
    let apart : n ≡ pos j +ℤ pos 7 *ℤ int_div_euclid n (pos 7) = omega (arith, signed) in
    let same : days_from_sunday_of (pos j) ≡ j = omega (arith, signed, less) in
    let instance = (planned_parts r n k (listed_parts r q h).0).0 in
    let on : has r.days.weekdays.every (days_from_monday (weekday_of (pos j))) ≡ true = ap (λ (i : ℕ). has r.days.weekdays.every (days_from_monday (weekday_from_sunday i))) same ∙ listed n instance in
    let parts = counted_parts r n k (counted_there r q h) in
    both_ways (is_counted_time s (pos j) k) (missed j less on k (omega arith) h.exists.time.second)
    (counted_and_listed s (pos j) k (weekly_units r n (pos j) (int_div_euclid n (pos 7)) k g apart some some-g whole-s whole-week parts.0) parts.1)
