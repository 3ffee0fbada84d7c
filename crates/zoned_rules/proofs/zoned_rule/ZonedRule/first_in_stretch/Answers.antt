use Rattle.std.proofs.Common.{◌≡◌, true, rules, ℤ, pos, neg_ℤ, SFits, ◌+ℤ◌, ◌-ℤ◌, ◌≤ℤ◌, ◌<ℤ◌, of_z, to_z, w64, arith, subst, ◌∙◌}
use Rattle.std.specs.Int.RustNames.{int_lt}
use Rattle.std.proofs.lemmas.Int.{ints, to_z-of_z}
use Rattle.chrono_datetime.specs.Moment.{Moment}
use Rattle.chrono_instant.specs.Instants.{IsEpochSecond, epoch_second}
use Rattle.chrono_instant.specs.Offsets.{IsOffset}
use Rattle.chrono_zoned.specs.Zones.{HoldsUntil}
use Rattle.chrono_zoned.proofs.SecondSums.{carried, near, offset_carried}
use Rattle.zoned_rules.specs.LocalInstants.{HasDates}
use Rattle.zoned_rules.specs.LocalTimes.{LocalParts}
use Rattle.zoned_rules.specs.Recurs.{RecursFor}
use Rattle.zoned_rules.specs.Private.{IsListedSince, IsStoodFor}
use Rattle.zoned_rules.proofs.HeldStretch.{held_stood, least_held}
use Rattle.zoned_rules.proofs.Standing.{AreOffsets}
use Rattle.zoned_rules.proofs.zoned_rule.ZonedRule.first_in_stretch.Goals as goal

-- the sums of the search, where the clock is ahead by a from the second s on, and the search is for the first local time behind `after`
record AreSums (after a s from u l : ℤ) : Type 0 where
  begun : s ≡ (after -ℤ pos 172_800)
  next : from ≡ (after +ℤ a +ℤ pos 1)
  found : u ≡ (l -ℤ a)

sums : (after here o a t l : ℤ) → here ≡ after → neg_ℤ (pos 8_334_601_400_000) ≤ℤ after → after ≤ℤ pos 8_210_266_963_199 → o ≡ a → IsOffset a → t ≡ l → IsEpochSecond l
    → AreSums after a (to_z w64 (of_z w64 (here -ℤ pos 172_800))) (to_z w64 (of_z w64 (to_z w64 (of_z w64 (here +ℤ o)) +ℤ pos 1))) (to_z w64 (of_z w64 (t -ℤ o))) l
sums after here o a t l is low high is_o close is_t date =
    let bounds = near a close in
    let sum : to_z w64 (of_z w64 (here +ℤ o)) ≡ (after +ℤ a) = carried (here +ℤ o) (after +ℤ a) (omega (arith, ints, is, is_o)) (omega (arith, ints, low, bounds.0), omega (arith, ints, high, bounds.1)) in
    record {
      begun = carried (here -ℤ pos 172_800) (after -ℤ pos 172_800) (omega (arith, ints, is)) (omega (arith, ints, low), omega (arith, ints, high));
      next = carried (to_z w64 (of_z w64 (here +ℤ o)) +ℤ pos 1) (after +ℤ a +ℤ pos 1) (omega (arith, ints, sum)) (omega (arith, ints, low, bounds.0), omega (arith, ints, high, bounds.1));
      found = carried (t -ℤ o) (l -ℤ a) (omega (arith, ints, is_t, is_o)) (omega (arith, ints, date.0, bounds.1), omega (arith, ints, date.1, bounds.0));
    }

stood : (r : LocalParts) (ahead : ℤ → ℤ) (after s until bound from u : ℤ) (m : Moment) → AreOffsets ahead → HoldsUntil ahead s until → bound ≡ until → AreSums after (ahead s) s from u (epoch_second m) → from ≤ℤ epoch_second m
    → int_lt u bound ≡ true → HasDates ahead u → IsListedSince r m → (after <ℤ u) × IsStoodFor r ahead u
stood r ahead after s until bound from u m offsets holds end is not_before before dates listed =
    let begun = is.begun in
    let found = is.found in
    let low : after <ℤ u = omega (arith, ints, found, not_before, is.next) in
    (low, held_stood r ahead s until u m offsets holds (omega (arith, ints, begun, low)) (omega (arith, ints, end, before)) found dates listed)

least : (r : LocalParts) (ahead : ℤ → ℤ) (after s until bound from l u : ℤ) → AreOffsets ahead → HoldsUntil ahead s until → bound ≡ until → AreSums after (ahead s) s from u l → int_lt u bound ≡ true
    → ((q : Moment) → IsListedSince r q → from ≤ℤ epoch_second q → l ≤ℤ epoch_second q) → (m : Moment) (v : ℤ) → RecursFor r ahead m v → after <ℤ v → u ≤ℤ v
least r ahead after s until bound from l u offsets holds end is before all =
    let begun = is.begun in
    let next = is.next in
    least_held r ahead s until after from l u offsets holds (omega (arith, ints, begun)) (omega (arith, ints, next)) is.found (omega (arith, ints, end, before)) all

pub returns-then-has_dates-clause-recurs : goal.returns-then-has_dates-clause-recurs
returns-then-has_dates-clause-recurs g c =
    let r = c.args.self.now.local in
    let ahead = g.Z.TimeZone.ahead c.args.self.now.zone in
    let stretch = c.stretch_from-stretch in
    let after : ℤ = to_z w64 (of_z w64 c.args.after) in
    let s : ℤ = to_z w64 (of_z w64 (after -ℤ pos 172_800)) in
    let close = stretch.ensures.near s in
    let o : ℤ = to_z w64 (of_z w64 c.from-offset.result) in
    let is_o : o ≡ ahead s = offset_carried c.from-offset.result c.local_minus_utc.result stretch.result.offset (ahead s) c.from-offset.ensures c.local_minus_utc.ensures.value stretch.ensures.offset close in
    let until : ℤ = stretch.result.until in
    let fits : SFits w64 until = search rules in
    let m = c.in-Some.local in
    let t : ℤ = to_z w64 (of_z w64 c.timestamp.result) in
    let at : t ≡ epoch_second m = to_z-of_z w64 c.timestamp.result (record { sfits = c.timestamp.type_inv }) ∙ c.timestamp.ensures.value in
    let date : IsEpochSecond (epoch_second m) = subst (λ (x : ℤ). IsEpochSecond x) c.timestamp.ensures.value c.timestamp.ensures.in_range in
    let is = sums c.args.after after o (ahead s) t (epoch_second m) (to_z-of_z w64 c.args.after c.ranges.after) c.requires.low c.requires.high is_o close at date in
    stood r ahead c.args.after s until _ _ _ m stretch.ensures.near stretch.ensures.holds (to_z-of_z w64 until fits) is c.in-Some.ensures.not_before c.if-second-stretch.true (c.has_dates.ensures.0 c.if-has_dates.true) c.in-Some.ensures.listed

pub returns-then-has_dates-clause-least : goal.returns-then-has_dates-clause-least
returns-then-has_dates-clause-least g c =
    let r = c.args.self.now.local in
    let ahead = g.Z.TimeZone.ahead c.args.self.now.zone in
    let stretch = c.stretch_from-stretch in
    let after : ℤ = to_z w64 (of_z w64 c.args.after) in
    let s : ℤ = to_z w64 (of_z w64 (after -ℤ pos 172_800)) in
    let close = stretch.ensures.near s in
    let o : ℤ = to_z w64 (of_z w64 c.from-offset.result) in
    let is_o : o ≡ ahead s = offset_carried c.from-offset.result c.local_minus_utc.result stretch.result.offset (ahead s) c.from-offset.ensures c.local_minus_utc.ensures.value stretch.ensures.offset close in
    let until : ℤ = stretch.result.until in
    let fits : SFits w64 until = search rules in
    let m = c.in-Some.local in
    let t : ℤ = to_z w64 (of_z w64 c.timestamp.result) in
    let at : t ≡ epoch_second m = to_z-of_z w64 c.timestamp.result (record { sfits = c.timestamp.type_inv }) ∙ c.timestamp.ensures.value in
    let date : IsEpochSecond (epoch_second m) = subst (λ (x : ℤ). IsEpochSecond x) c.timestamp.ensures.value c.timestamp.ensures.in_range in
    let is = sums c.args.after after o (ahead s) t (epoch_second m) (to_z-of_z w64 c.args.after c.ranges.after) c.requires.low c.requires.high is_o close at date in
    least r ahead c.args.after s until _ _ (epoch_second m) _ stretch.ensures.near stretch.ensures.holds (to_z-of_z w64 until fits) is c.if-second-stretch.true c.in-Some.ensures.least
