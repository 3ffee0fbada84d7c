use Rattle.std.proofs.Common.{◌≡◌, true, false, rules, int_le, ℤ, pos, neg_ℤ, SFits, ◌+ℤ◌, ◌-ℤ◌, ◌≤ℤ◌, ◌<ℤ◌, of_z, to_z, w64, arith, subst, ◌∙◌}
use Rattle.std.specs.Int.RustNames.{int_lt}
use Rattle.std.proofs.lemmas.Int.{ints, to_z-of_z}
use Rattle.chrono_datetime.specs.Moment.{Moment}
use Rattle.chrono_instant.specs.Instants.{IsEpochSecond, epoch_second}
use Rattle.chrono_instant.specs.Offsets.{IsOffset}
use Rattle.chrono_zoned.specs.Zones.{HoldsUntil}
use Rattle.chrono_zoned.proofs.SecondSums.{carried, near, offset_carried}
use Rattle.zoned_rules.specs.LocalInstants.{HasDates}
use Rattle.zoned_rules.specs.LocalTimes.{LocalParts}
use Rattle.zoned_rules.specs.Recurs.{RecursFor}
use Rattle.zoned_rules.specs.Private.{IsListedSince, IsStoodFor}
use Rattle.zoned_rules.proofs.HeldStretch.{greatest_held, held_stood}
use Rattle.zoned_rules.proofs.Standing.{AreOffsets}
use Rattle.zoned_rules.proofs.zoned_rule.ZonedRule.last_in_stretch.Goals as goal

-- the sums of the search, where the clock is ahead by a from the second s on, and the search is for the last local time before `end`
record AreSums (end a s to low u l : ℤ) : Type 0 where
  begun : s ≡ (end -ℤ pos 345_600)
  past : to ≡ (end +ℤ a)
  least : low ≡ (end -ℤ pos 172_800)
  found : u ≡ (l -ℤ a)

sums : (end here o a t l : ℤ) → here ≡ end → neg_ℤ (pos 8_334_601_228_800) ≤ℤ end → end ≤ℤ pos 8_210_266_876_800 → o ≡ a → IsOffset a → t ≡ l → IsEpochSecond l
    → AreSums end a (to_z w64 (of_z w64 (here -ℤ pos 345_600))) (to_z w64 (of_z w64 (here +ℤ o))) (to_z w64 (of_z w64 (here -ℤ pos 172_800))) (to_z w64 (of_z w64 (t -ℤ o))) l
sums end here o a t l is low high is_o close is_t date = let bounds = near a close in record {
  begun = carried (here -ℤ pos 345_600) (end -ℤ pos 345_600) (omega (arith, ints, is)) (omega (arith, ints, low), omega (arith, ints, high));
  past = carried (here +ℤ o) (end +ℤ a) (omega (arith, ints, is, is_o)) (omega (arith, ints, low, bounds.0), omega (arith, ints, high, bounds.1));
  least = carried (here -ℤ pos 172_800) (end -ℤ pos 172_800) (omega (arith, ints, is)) (omega (arith, ints, low), omega (arith, ints, high));
  found = carried (t -ℤ o) (l -ℤ a) (omega (arith, ints, is_t, is_o)) (omega (arith, ints, date.0, bounds.1), omega (arith, ints, date.1, bounds.0));
}

stood : (r : LocalParts) (ahead : ℤ → ℤ) (end here s until bound to low u : ℤ) (m : Moment) → here ≡ end → AreOffsets ahead → HoldsUntil ahead s until → bound ≡ until → AreSums end (ahead s) s to low u (epoch_second m) → epoch_second m <ℤ to
    → int_lt bound here ≡ false → int_le low u ≡ true → HasDates ahead u → IsListedSince r m → (u <ℤ end) × IsStoodFor r ahead u
stood r ahead end here s until bound to low u m at offsets holds stop is earlier long late dates listed =
    let begun = is.begun in
    let found = is.found in
    let least = is.least in
    let before : u <ℤ end = omega (arith, ints, found, earlier, is.past) in
    (before, held_stood r ahead s until u m offsets holds (omega (arith, ints, begun, least, late)) (omega (arith, ints, stop, before, at, long)) found dates listed)

greatest : (r : LocalParts) (ahead : ℤ → ℤ) (end here s until bound to low l u : ℤ) → here ≡ end → AreOffsets ahead → HoldsUntil ahead s until → bound ≡ until → AreSums end (ahead s) s to low u l → int_lt bound here ≡ false → int_le low u ≡ true
    → ((q : Moment) → IsListedSince r q → epoch_second q <ℤ to → epoch_second q ≤ℤ l) → (m : Moment) (v : ℤ) → RecursFor r ahead m v → v <ℤ end → v ≤ℤ u
greatest r ahead end here s until bound to low l u at offsets holds stop is long late all =
    let begun = is.begun in
    let least = is.least in
    let past = is.past in
    greatest_held r ahead s until end to l u offsets holds (omega (arith, ints, stop, at, long)) (omega (arith, ints, past)) is.found (omega (arith, ints, begun, least, late)) all

pub returns-then-has_dates-clause-recurs : goal.returns-then-has_dates-clause-recurs
returns-then-has_dates-clause-recurs g c =
    let r = c.args.self.now.local in
    let ahead = g.Z.TimeZone.ahead c.args.self.now.zone in
    let stretch = c.stretch_from-stretch in
    let end : ℤ = to_z w64 (of_z w64 c.args.end) in
    let here : end ≡ c.args.end = to_z-of_z w64 c.args.end c.ranges.end in
    let s : ℤ = to_z w64 (of_z w64 (end -ℤ pos 345_600)) in
    let close = stretch.ensures.near s in
    let o : ℤ = to_z w64 (of_z w64 c.from-offset.result) in
    let is_o : o ≡ ahead s = offset_carried c.from-offset.result c.local_minus_utc.result stretch.result.offset (ahead s) c.from-offset.ensures c.local_minus_utc.ensures.value stretch.ensures.offset close in
    let until : ℤ = stretch.result.until in
    let fits : SFits w64 until = search rules in
    let m = c.in-Some.local in
    let t : ℤ = to_z w64 (of_z w64 c.timestamp.result) in
    let at : t ≡ epoch_second m = to_z-of_z w64 c.timestamp.result (record { sfits = c.timestamp.type_inv }) ∙ c.timestamp.ensures.value in
    let date : IsEpochSecond (epoch_second m) = subst (λ (x : ℤ). IsEpochSecond x) c.timestamp.ensures.value c.timestamp.ensures.in_range in
    let is = sums c.args.end end o (ahead s) t (epoch_second m) here c.requires.low c.requires.high is_o close at date in
    stood r ahead c.args.end end s until _ _ _ _ m here stretch.ensures.near stretch.ensures.holds (to_z-of_z w64 until fits) is c.in-Some.ensures.before c.if-stretch-end.false c.if-end-second.true (c.has_dates.ensures.0 c.if-has_dates.true) c.in-Some.ensures.listed

pub returns-then-has_dates-clause-greatest : goal.returns-then-has_dates-clause-greatest
returns-then-has_dates-clause-greatest g c =
    let r = c.args.self.now.local in
    let ahead = g.Z.TimeZone.ahead c.args.self.now.zone in
    let stretch = c.stretch_from-stretch in
    let end : ℤ = to_z w64 (of_z w64 c.args.end) in
    let here : end ≡ c.args.end = to_z-of_z w64 c.args.end c.ranges.end in
    let s : ℤ = to_z w64 (of_z w64 (end -ℤ pos 345_600)) in
    let close = stretch.ensures.near s in
    let o : ℤ = to_z w64 (of_z w64 c.from-offset.result) in
    let is_o : o ≡ ahead s = offset_carried c.from-offset.result c.local_minus_utc.result stretch.result.offset (ahead s) c.from-offset.ensures c.local_minus_utc.ensures.value stretch.ensures.offset close in
    let until : ℤ = stretch.result.until in
    let fits : SFits w64 until = search rules in
    let m = c.in-Some.local in
    let t : ℤ = to_z w64 (of_z w64 c.timestamp.result) in
    let at : t ≡ epoch_second m = to_z-of_z w64 c.timestamp.result (record { sfits = c.timestamp.type_inv }) ∙ c.timestamp.ensures.value in
    let date : IsEpochSecond (epoch_second m) = subst (λ (x : ℤ). IsEpochSecond x) c.timestamp.ensures.value c.timestamp.ensures.in_range in
    let is = sums c.args.end end o (ahead s) t (epoch_second m) here c.requires.low c.requires.high is_o close at date in
    greatest r ahead c.args.end end s until _ _ _ (epoch_second m) _ here stretch.ensures.near stretch.ensures.holds (to_z-of_z w64 until fits) is c.if-stretch-end.false c.if-end-second.true c.in-Some.ensures.greatest
