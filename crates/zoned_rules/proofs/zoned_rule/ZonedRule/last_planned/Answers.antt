use Rattle.std.proofs.Common.{◌≡◌, pos, ◌+ℤ◌, ◌<ℤ◌, of_z, to_z, w64, arith, refl}
use Rattle.std.proofs.lemmas.Int.{ints, to_z-of_z}
use Rattle.std.proofs.lemmas.Option.{IfSome_then}
use Rattle.chrono_instant.specs.Instants.{epoch_second}
use Rattle.chrono_instant.proofs.InstantLemmas.{IsEpochSecond-moment}
use Rattle.chrono_zoned.proofs.OptionLemmas.{one_of}
use Rattle.chrono_zoned.proofs.SecondSums.{carried}
use Rattle.zoned_rules.specs.Private.{IsStoodFor}
use Rattle.zoned_rules.proofs.Reached.{nothing_at_all_back, nothing_yet_back, reaches_all_back, reaches_far_back, reaches_previous}
use Rattle.zoned_rules.proofs.SecondsAgain.{day_behind, fewer_back}
use Rattle.zoned_rules.proofs.zoned_rule.ZonedRule.last_planned.Goals as goal

pub returns-in_default-clause-greatest : goal.returns-in_default-clause-greatest
returns-in_default-clause-greatest g c = λ m u h earlier.
    nothing_at_all_back c.args.self.now.local (g.Z.TimeZone.ahead c.args.self.now.zone) c.args.end _ c.offsets_are_small.ensures
    (day_behind c.args.end (to_z w64 (of_z w64 c.args.end)) (to_z-of_z w64 c.args.end c.ranges.end) c.requires.low c.requires.high) c.in_default.ensures.none m u h earlier

pub may_follow-requires : goal.may_follow-requires
may_follow-requires g c = IfSome_then c.loop-local.best c.loop-local.invariant.2 (λ x h. h.1.1.dates.utc)

pub loop-local-smaller : goal.loop-local-smaller
loop-local-smaller g c =
    let previous = c.in-Some-last_in_front.previous in
    fewer_back (epoch_second c.loop-local.local) (epoch_second previous) c.in-Some-last_in_front.ensures.earlier (IsEpochSecond-moment previous c.in-Some-last_in_front.ensures.listed.exists)

pub returns-in_default-last_in_front-clause-recurs : goal.returns-in_default-last_in_front-clause-recurs
returns-in_default-last_in_front-clause-recurs g c =
    let r = c.args.self.now.local in
    let ahead = g.Z.TimeZone.ahead c.args.self.now.zone in
    let end = to_z w64 (of_z w64 c.args.end) in
    let fits : end ≡ c.args.end = to_z-of_z w64 c.args.end c.ranges.end in
    IfSome_then c.later-best.result
    (one_of (λ x. (x <ℤ end) × IsStoodFor r ahead x) c.loop-local.best c.instant_before.result c.later-best.result c.later-best.ensures.either c.loop-local.invariant.2 c.instant_before.ensures.recurs)
    (λ x h. (omega (arith, ints, fits, h.0), h.1))

pub returns-clause-recurs : goal.returns-clause-recurs
returns-clause-recurs g c =
    let end = to_z w64 (of_z w64 c.args.end) in
    let fits : end ≡ c.args.end = to_z-of_z w64 c.args.end c.ranges.end in
    IfSome_then c.loop-local.best c.loop-local.invariant.2 (λ x h. (omega (arith, ints, fits, h.0), h.1))

pub loop-local-init : goal.loop-local-init
loop-local-init g c =
    let r = c.args.self.now.local in
    let ahead = g.Z.TimeZone.ahead c.args.self.now.zone in
    let end = to_z w64 (of_z w64 c.args.end) in
    let fits : end ≡ c.args.end = to_z-of_z w64 c.args.end c.ranges.end in
    let from = to_z w64 (of_z w64 (end +ℤ pos 86_400)) in
    let is : from ≡ (end +ℤ pos 86_400) = carried (end +ℤ pos 86_400) (end +ℤ pos 86_400) refl (omega (arith, ints, fits, c.requires.low), omega (arith, ints, fits, c.requires.high)) in
    (c.in-Some.ensures.listed, nothing_yet_back r ahead end (epoch_second c.in-Some.local) from c.offsets_are_small.ensures is c.in-Some.ensures.greatest, tt)

pub returns-in_default-last_in_front-clause-greatest : goal.returns-in_default-last_in_front-clause-greatest
returns-in_default-last_in_front-clause-greatest g c = λ m u h earlier.
    let r = c.args.self.now.local in
    let ahead = g.Z.TimeZone.ahead c.args.self.now.zone in
    let end = to_z w64 (of_z w64 c.args.end) in
    let fits : end ≡ c.args.end = to_z-of_z w64 c.args.end c.ranges.end in
    reaches_all_back r ahead end (epoch_second c.loop-local.local) c.loop-local.best c.instant_before.result c.later-best.result c.loop-local.invariant.1 c.instant_before.ensures.only c.later-best.ensures.greatest
    c.in_default-last_in_front.ensures.none m u h (omega (arith, ints, fits, earlier))

pub loop-local-preserved : goal.loop-local-preserved
loop-local-preserved g c =
    let r = c.args.self.now.local in
    let ahead = g.Z.TimeZone.ahead c.args.self.now.zone in
    let end = to_z w64 (of_z w64 c.args.end) in (
      c.in-Some-last_in_front.ensures.listed,
      reaches_previous r ahead end (epoch_second c.loop-local.local) (epoch_second c.in-Some-last_in_front.previous) c.loop-local.best c.instant_before.result c.later-best.result c.loop-local.invariant.1 c.instant_before.ensures.only
          c.later-best.ensures.greatest c.in-Some-last_in_front.ensures.greatest,
      one_of (λ x. (x <ℤ end) × IsStoodFor r ahead x) c.loop-local.best c.instant_before.result c.later-best.result c.later-best.ensures.either c.loop-local.invariant.2 c.instant_before.ensures.recurs,
    )

pub returns-clause-greatest : goal.returns-clause-greatest
returns-clause-greatest g c = λ m u h earlier.
    let r = c.args.self.now.local in
    let ahead = g.Z.TimeZone.ahead c.args.self.now.zone in
    let end = to_z w64 (of_z w64 c.args.end) in
    let fits : end ≡ c.args.end = to_z-of_z w64 c.args.end c.ranges.end in
    reaches_far_back r ahead end (epoch_second c.loop-local.local) c.loop-local.best c.offsets_are_small.ensures c.loop-local.invariant.1 (c.may_follow.ensures c.loop-local-test.false) m u h (omega (arith, ints, fits, earlier))
