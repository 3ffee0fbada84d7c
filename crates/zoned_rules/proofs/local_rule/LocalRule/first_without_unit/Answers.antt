use Rattle.std.proofs.Common.{◌≡◌, rules, ℕ, ℤ, pos, ◌-ℤ◌, ◌≤ℤ◌, of_z, to_z, w64, arith, subst}
use Rattle.std.proofs.lemmas.Int.{by_lt_z}
use Rattle.std.proofs.lemmas.Option.{IfSome_then}
use Rattle.chrono_datetime.proofs.Signed.{casts}
use Rattle.chrono_zoned.proofs.OptionLemmas.{none_then}
use Rattle.zoned_rules.specs.LocalTimes.{unit_number, units_behind}
use Rattle.zoned_rules.specs.declared.clock_steps.ClockUnit.{ClockUnit}
use Rattle.zoned_rules.proofs.CandidateDays.{in_front}
use Rattle.zoned_rules.proofs.CountedUnits.{interval_units-some}
use Rattle.zoned_rules.proofs.local_rule.LocalRule.first_without_unit.Goals as goal

pub returns-clause-passed : goal.returns-clause-passed
returns-clause-passed c =
    let r = c.args.self.now in
    let behind = c.units_behind-behind in
    let is_unit : c.self.inside.steps.unit ≡ r.steps.unit = search rules in
    let units : ℤ = to_z w64 (of_z w64 (to_z w64 behind.result -ℤ pos 1)) in
    let is_units : units ≡ pos (units_behind r c.args.day 0) -ℤ pos 1 = omega (arith, casts, behind.ensures.value, behind.ensures.few) in
    let back = subst (λ (u : ClockUnit). (n d : ℤ) (k : ℕ) → (n -ℤ c.whole_days.result) ≤ℤ d → (unit_number u n 0 -ℤ units) ≤ℤ unit_number u d k) is_unit c.whole_days.ensures.back in
    IfSome_then c.moved_by_days.result c.moved_by_days.ensures.moved (λ e is q h lt.
    omega (arith, casts, is, in_front r c.args.day c.whole_days.result units q (interval_units-some r.steps) is_units back h lt, c.whole_days.ensures.low, c.whole_days.ensures.high))

pub returns-clause-none : goal.returns-clause-none
returns-clause-none c =
    let r = c.args.self.now in
    let behind = c.units_behind-behind in
    let is_unit : c.self.inside.steps.unit ≡ r.steps.unit = search rules in
    let units : ℤ = to_z w64 (of_z w64 (to_z w64 behind.result -ℤ pos 1)) in
    let is_units : units ≡ pos (units_behind r c.args.day 0) -ℤ pos 1 = omega (arith, casts, behind.ensures.value, behind.ensures.few) in
    let back = subst (λ (u : ClockUnit). (n d : ℤ) (k : ℕ) → (n -ℤ c.whole_days.result) ≤ℤ d → (unit_number u n 0 -ℤ units) ≤ℤ unit_number u d k) is_unit c.whole_days.ensures.back in
    none_then c.moved_by_days.result (λ no q h.
    by_lt_z q.date c.args.day
    (λ lt.
    let far = in_front r c.args.day c.whole_days.result units q (interval_units-some r.steps) is_units back h lt in
    let to = c.moved_by_days.ensures.in_range in
    let from = h.exists.date in
    absurd (no (c.moved_by_days.ensures.exists.1 (omega (arith, casts, from, far, c.whole_days.ensures.low, c.whole_days.ensures.high), omega (arith, casts, to, c.whole_days.ensures.low, c.whole_days.ensures.high)))))
    (λ ge. ge))
