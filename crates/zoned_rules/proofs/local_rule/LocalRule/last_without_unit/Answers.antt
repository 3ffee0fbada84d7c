use Rattle.std.proofs.Common.{◌≡◌, rules, ℕ, ◌<◌, ℤ, pos, ◌+ℤ◌, ◌-ℤ◌, ◌≤ℤ◌, of_z, to_z, w64, arith, subst}
use Rattle.std.proofs.lemmas.Int.{by_lt_z}
use Rattle.std.proofs.lemmas.Option.{IfSome_then}
use Rattle.chrono_datetime.proofs.Signed.{casts}
use Rattle.chrono_zoned.proofs.OptionLemmas.{none_then}
use Rattle.zoned_rules.specs.LocalTimes.{unit_number, units_behind}
use Rattle.zoned_rules.specs.Private.{interval_units}
use Rattle.zoned_rules.specs.declared.clock_steps.ClockUnit.{ClockUnit}
use Rattle.zoned_rules.proofs.CandidateDays.{beyond}
use Rattle.zoned_rules.proofs.CountedUnits.{interval_units-some}
use Rattle.zoned_rules.proofs.local_rule.LocalRule.last_without_unit.Goals as goal

pub returns-clause-passed : goal.returns-clause-passed
returns-clause-passed c =
    let r = c.args.self.now in
    let is_unit : c.self.inside.steps.unit ≡ r.steps.unit = search rules in
    let units : ℤ = to_z w64 (of_z w64 (to_z w64 (of_z w64 c.units_to_next-units.result) -ℤ pos 1)) in
    let is_units : units ≡ (pos (interval_units r.steps) -ℤ pos (units_behind r c.args.day 86_399)) -ℤ pos 1 = omega (arith, casts, c.units_to_next-units.ensures.value, c.units_to_next-units.ensures.some, c.units_to_next-units.ensures.few) in
    let ahead = subst (λ (u : ClockUnit). (n d : ℤ) (k : ℕ) → d ≤ℤ (n +ℤ c.whole_days.result) → k < 86_400 → unit_number u d k ≤ℤ (unit_number u n 86_399 +ℤ units)) is_unit c.whole_days.ensures.ahead in
    IfSome_then c.moved_by_days.result c.moved_by_days.ensures.moved (λ e is q h lt.
    omega (arith, casts, is, beyond r c.args.day c.whole_days.result units q (interval_units-some r.steps) is_units ahead h lt, c.whole_days.ensures.low, c.whole_days.ensures.high))

pub returns-clause-none : goal.returns-clause-none
returns-clause-none c =
    let r = c.args.self.now in
    let is_unit : c.self.inside.steps.unit ≡ r.steps.unit = search rules in
    let units : ℤ = to_z w64 (of_z w64 (to_z w64 (of_z w64 c.units_to_next-units.result) -ℤ pos 1)) in
    let is_units : units ≡ (pos (interval_units r.steps) -ℤ pos (units_behind r c.args.day 86_399)) -ℤ pos 1 = omega (arith, casts, c.units_to_next-units.ensures.value, c.units_to_next-units.ensures.some, c.units_to_next-units.ensures.few) in
    let ahead = subst (λ (u : ClockUnit). (n d : ℤ) (k : ℕ) → d ≤ℤ (n +ℤ c.whole_days.result) → k < 86_400 → unit_number u d k ≤ℤ (unit_number u n 86_399 +ℤ units)) is_unit c.whole_days.ensures.ahead in
    none_then c.moved_by_days.result (λ no q h.
    by_lt_z c.args.day q.date
    (λ lt.
    let far = beyond r c.args.day c.whole_days.result units q (interval_units-some r.steps) is_units ahead h lt in
    let from = c.moved_by_days.ensures.in_range in
    let to = h.exists.date in
    absurd (no (c.moved_by_days.ensures.exists.1 (omega (arith, casts, from, c.whole_days.ensures.low, c.whole_days.ensures.high), omega (arith, casts, to, far, c.whole_days.ensures.low, c.whole_days.ensures.high)))))
    (λ ge. ge))
