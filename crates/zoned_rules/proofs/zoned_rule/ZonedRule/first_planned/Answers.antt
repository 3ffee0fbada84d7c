use Rattle.std.proofs.Common.{◌≡◌, pos, ◌-ℤ◌, ◌<ℤ◌, of_z, to_z, w64, arith, refl}
use Rattle.std.proofs.lemmas.Int.{ints, to_z-of_z}
use Rattle.std.proofs.lemmas.Option.{IfSome_then}
use Rattle.chrono_instant.specs.Instants.{epoch_second}
use Rattle.chrono_instant.proofs.InstantLemmas.{IsEpochSecond-moment}
use Rattle.chrono_zoned.proofs.OptionLemmas.{one_of}
use Rattle.chrono_zoned.proofs.SecondSums.{carried}
use Rattle.zoned_rules.specs.Private.{IsStoodFor}
use Rattle.zoned_rules.proofs.Reached.{nothing_at_all, nothing_yet, reaches_all, reaches_far, reaches_next}
use Rattle.zoned_rules.proofs.SecondsAgain.{day_before, fewer_ahead}
use Rattle.zoned_rules.proofs.zoned_rule.ZonedRule.first_planned.Goals as goal

pub returns-in_default-clause-least : goal.returns-in_default-clause-least
returns-in_default-clause-least g c = λ m u h later.
    nothing_at_all c.args.self.now.local (g.Z.TimeZone.ahead c.args.self.now.zone) c.args.after _ c.offsets_are_small.ensures
    (day_before c.args.after (to_z w64 (of_z w64 c.args.after)) (to_z-of_z w64 c.args.after c.ranges.after) c.requires.low c.requires.high) c.in_default.ensures.none m u h later

pub may_precede-requires : goal.may_precede-requires
may_precede-requires g c = IfSome_then c.loop-local.best c.loop-local.invariant.2 (λ x h. h.1.1.dates.utc)

pub loop-local-smaller : goal.loop-local-smaller
loop-local-smaller g c =
    let next = c.in-Some-first_behind.next in
    fewer_ahead (epoch_second c.loop-local.local) (epoch_second next) c.in-Some-first_behind.ensures.later (IsEpochSecond-moment next c.in-Some-first_behind.ensures.listed.exists)

pub returns-clause-recurs : goal.returns-clause-recurs
returns-clause-recurs g c =
    let after = to_z w64 (of_z w64 c.args.after) in
    let fits : after ≡ c.args.after = to_z-of_z w64 c.args.after c.ranges.after in
    IfSome_then c.loop-local.best c.loop-local.invariant.2 (λ x h. (omega (arith, ints, fits, h.0), h.1))

pub loop-local-init : goal.loop-local-init
loop-local-init g c =
    let r = c.args.self.now.local in
    let ahead = g.Z.TimeZone.ahead c.args.self.now.zone in
    let after = to_z w64 (of_z w64 c.args.after) in
    let fits : after ≡ c.args.after = to_z-of_z w64 c.args.after c.ranges.after in
    let from = to_z w64 (of_z w64 (after -ℤ pos 86_400)) in
    let is : from ≡ (after -ℤ pos 86_400) = carried (after -ℤ pos 86_400) (after -ℤ pos 86_400) refl (omega (arith, ints, fits, c.requires.low), omega (arith, ints, fits, c.requires.high)) in
    (c.in-Some.ensures.listed, nothing_yet r ahead after (epoch_second c.in-Some.local) from c.offsets_are_small.ensures is c.in-Some.ensures.least, tt)

pub returns-in_default-first_behind-clause-recurs : goal.returns-in_default-first_behind-clause-recurs
returns-in_default-first_behind-clause-recurs g c =
    let r = c.args.self.now.local in
    let ahead = g.Z.TimeZone.ahead c.args.self.now.zone in
    let after = to_z w64 (of_z w64 c.args.after) in
    let fits : after ≡ c.args.after = to_z-of_z w64 c.args.after c.ranges.after in
    IfSome_then c.earlier-best.result
    (one_of (λ x. (after <ℤ x) × IsStoodFor r ahead x) c.loop-local.best c.instant_after.result c.earlier-best.result c.earlier-best.ensures.either c.loop-local.invariant.2 c.instant_after.ensures.recurs)
    (λ x h. (omega (arith, ints, fits, h.0), h.1))

pub returns-in_default-first_behind-clause-least : goal.returns-in_default-first_behind-clause-least
returns-in_default-first_behind-clause-least g c = λ m u h later.
    let r = c.args.self.now.local in
    let ahead = g.Z.TimeZone.ahead c.args.self.now.zone in
    let after = to_z w64 (of_z w64 c.args.after) in
    let fits : after ≡ c.args.after = to_z-of_z w64 c.args.after c.ranges.after in
    reaches_all r ahead after (epoch_second c.loop-local.local) c.loop-local.best c.instant_after.result c.earlier-best.result c.loop-local.invariant.1 c.instant_after.ensures.only c.earlier-best.ensures.least
    c.in_default-first_behind.ensures.none m u h (omega (arith, ints, fits, later))

pub loop-local-preserved : goal.loop-local-preserved
loop-local-preserved g c =
    let r = c.args.self.now.local in
    let ahead = g.Z.TimeZone.ahead c.args.self.now.zone in
    let after = to_z w64 (of_z w64 c.args.after) in (
      c.in-Some-first_behind.ensures.listed,
      reaches_next r ahead after (epoch_second c.loop-local.local) (epoch_second c.in-Some-first_behind.next) c.loop-local.best c.instant_after.result c.earlier-best.result c.loop-local.invariant.1 c.instant_after.ensures.only
          c.earlier-best.ensures.least c.in-Some-first_behind.ensures.least,
      one_of (λ x. (after <ℤ x) × IsStoodFor r ahead x) c.loop-local.best c.instant_after.result c.earlier-best.result c.earlier-best.ensures.either c.loop-local.invariant.2 c.instant_after.ensures.recurs,
    )

pub returns-clause-least : goal.returns-clause-least
returns-clause-least g c = λ m u h later.
    let r = c.args.self.now.local in
    let ahead = g.Z.TimeZone.ahead c.args.self.now.zone in
    let after = to_z w64 (of_z w64 c.args.after) in
    let fits : after ≡ c.args.after = to_z-of_z w64 c.args.after c.ranges.after in
    reaches_far r ahead after (epoch_second c.loop-local.local) c.loop-local.best c.offsets_are_small.ensures c.loop-local.invariant.1 (c.may_precede.ensures c.loop-local-test.false) m u h (omega (arith, ints, fits, later))
