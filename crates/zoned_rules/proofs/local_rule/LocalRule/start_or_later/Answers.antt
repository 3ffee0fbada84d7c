use Rattle.std.proofs.Common.{◌≡◌, ap, inl, w64, arith, ◌∙◌}
use Rattle.std.proofs.lemmas.Int.{ints, to_z-of_z}
use Rattle.chrono_instant.specs.Instants.{epoch_second}
use Rattle.zoned_rules.specs.LocalTimes.{LocalParts}
use Rattle.zoned_rules.proofs.local_rule.LocalRule.start_or_later.Goals as goal

pub returns-then-second-timestamp-clause-later : goal.returns-then-second-timestamp-clause-later
returns-then-second-timestamp-clause-later c =
    omega (arith, ints, c.timestamp.ensures.value, to_z-of_z w64 c.timestamp.result (record { sfits = c.timestamp.type_inv }), to_z-of_z w64 c.args.second c.ranges.second, c.if-second-timestamp.true)

pub returns-in-Some-clause-start : goal.returns-in-Some-clause-start
returns-in-Some-clause-start c =
    let is_start : epoch_second c.self.inside.start ≡ epoch_second c.args.self.now.start = ap (λ (s : LocalParts). epoch_second s.start) c.self.view_is in
    omega (arith, ints, is_start, to_z-of_z w64 c.args.second c.ranges.second, c.in-Some.ensures.value.second, c.timestamp.ensures.value, to_z-of_z w64 c.timestamp.result (record { sfits = c.timestamp.type_inv }), c.if-second-timestamp.false)

pub returns-in-Some-clause-later : goal.returns-in-Some-clause-later
returns-in-Some-clause-later c = omega (arith, ints, c.in-Some.ensures.value.second, to_z-of_z w64 c.args.second c.ranges.second)

pub returns-in-Some-clause-either : goal.returns-in-Some-clause-either
returns-in-Some-clause-either c = inl (c.in-Some.ensures.value.second ∙ to_z-of_z w64 c.args.second c.ranges.second)

pub returns-in-None-clause-later : goal.returns-in-None-clause-later
returns-in-None-clause-later c =
    let there = to_z-of_z w64 c.timestamp.result (record { sfits = c.timestamp.type_inv }) in
    let here = to_z-of_z w64 c.args.second c.ranges.second in
    let date = c.timestamp.ensures.in_range in
    let some = c.in-None.ensures.exists.1 ((omega (arith, ints, date.0, there, c.if-second-timestamp.false), omega (arith, ints, here, c.requires)), (omega arith, λ leap. absurd (omega (arith, leap)))) in
    cc
