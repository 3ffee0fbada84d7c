use Rattle.std.proofs.Common.{if◌then◌else◌, ◌-ℤ◌, ◌<ℤ◌, ◌≤ℤ◌, ℤ}
use Rattle.std.proofs.Common.{arith}
use Rattle.std.specs.Int.RustNames.{int_lt}
use Rattle.chrono_datetime.proofs.Signed.{casts}
use Rattle.chrono_instant.specs.Instants.{epoch_second}
use Rattle.chrono_zoned.proofs.OneChangeLemmas.{ChangesOnce-test, never, once_early, once_late, twice}
use Rattle.chrono_uses.proofs.one_change.OneChangeTimeZone.offset_from_local_datetime.Goals as goal

pub returns-then-late-from : goal.returns-then-late-from
returns-then-late-from c =
    let zone = c.args.self.now in
    let l = epoch_second c.args.local.now in
    let first : (l -ℤ zone.before) <ℤ zone.from = omega (arith, casts) in
    let second : (l -ℤ zone.after) <ℤ zone.from = omega (arith, casts) in
    once_early (λ u. if int_lt u zone.from then zone.before else zone.after) zone.from zone.before zone.after l (ChangesOnce-test zone.from zone.before zone.after) first second

pub returns-then-early-from : goal.returns-then-early-from
returns-then-early-from c =
    let zone = c.args.self.now in
    let l = epoch_second c.args.local.now in
    let first : (l -ℤ zone.before) <ℤ zone.from = omega (arith, casts) in
    let second : zone.from ≤ℤ (l -ℤ zone.after) = omega (arith, casts) in
    twice (λ u. if int_lt u zone.from then zone.before else zone.after) zone.from zone.before zone.after l (ChangesOnce-test zone.from zone.before zone.after) first second

pub returns-then-late-from-2 : goal.returns-then-late-from-2
returns-then-late-from-2 c =
    let zone = c.args.self.now in
    let l = epoch_second c.args.local.now in
    let first : zone.from ≤ℤ (l -ℤ zone.before) = omega (arith, casts) in
    let second : (l -ℤ zone.after) <ℤ zone.from = omega (arith, casts) in
    never (λ u. if int_lt u zone.from then zone.before else zone.after) zone.from zone.before zone.after l (ChangesOnce-test zone.from zone.before zone.after) first second

pub returns : goal.returns
returns c =
    let zone = c.args.self.now in
    let l = epoch_second c.args.local.now in
    let first : zone.from ≤ℤ (l -ℤ zone.before) = omega (arith, casts) in
    let second : zone.from ≤ℤ (l -ℤ zone.after) = omega (arith, casts) in
    once_late (λ u. if int_lt u zone.from then zone.before else zone.after) zone.from zone.before zone.after l (ChangesOnce-test zone.from zone.before zone.after) first second
