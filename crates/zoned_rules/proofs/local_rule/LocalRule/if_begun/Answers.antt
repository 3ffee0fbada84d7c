use Rattle.std.proofs.Common.{◌≡◌, ap, arith, w64}
use Rattle.std.proofs.lemmas.Int.{ints, to_z-of_z}
use Rattle.chrono_instant.specs.Instants.{epoch_second}
use Rattle.zoned_rules.specs.LocalTimes.{LocalParts}
use Rattle.zoned_rules.proofs.SinceStart.{since_listed}
use Rattle.zoned_rules.proofs.local_rule.LocalRule.if_begun.Goals as goal

pub returns-then-timestamp-clause-none : goal.returns-then-timestamp-clause-none
returns-then-timestamp-clause-none c =
    let is_start : epoch_second c.self.inside.start ≡ epoch_second c.args.self.now.start = ap (λ (s : LocalParts). epoch_second s.start) c.self.view_is in
    let here = to_z-of_z w64 c.timestamp.result (record { sfits = c.timestamp.type_inv }) in
    let begun = to_z-of_z w64 c.timestamp-2.result (record { sfits = c.timestamp-2.type_inv }) in
    omega (arith, ints, is_start, c.timestamp.ensures.value, c.timestamp-2.ensures.value, here, begun, c.if-timestamp.true)

pub returns-clause-listed : goal.returns-clause-listed
returns-clause-listed c =
    let is_start : epoch_second c.self.inside.start ≡ epoch_second c.args.self.now.start = ap (λ (s : LocalParts). epoch_second s.start) c.self.view_is in
    let here = to_z-of_z w64 c.timestamp.result (record { sfits = c.timestamp.type_inv }) in
    let begun = to_z-of_z w64 c.timestamp-2.result (record { sfits = c.timestamp-2.type_inv }) in
    since_listed c.args.self.now c.args.local c.requires (omega (arith, ints, is_start, c.timestamp.ensures.value, c.timestamp-2.ensures.value, here, begun, c.if-timestamp.false))
