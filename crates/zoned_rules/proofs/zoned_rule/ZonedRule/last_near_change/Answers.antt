use Rattle.std.proofs.Common.{◌≡◌, false, rules, ℤ, pos, neg_ℤ, SFits, ◌-ℤ◌, ◌≤ℤ◌, ◌<ℤ◌, of_z, to_z, w64, arith, refl, subst, sym}
use Rattle.std.specs.Int.RustNames.{int_lt}
use Rattle.std.proofs.lemmas.Bool.{both_ways}
use Rattle.std.proofs.lemmas.Int.{ints, to_z-of_z}
use Rattle.chrono_instant.specs.Instants.{epoch_second}
use Rattle.chrono_zoned.specs.Zones.{HoldsUntil}
use Rattle.chrono_zoned.proofs.SecondSums.{carried}
use Rattle.zoned_rules.specs.LocalTimes.{LocalParts}
use Rattle.zoned_rules.specs.Private.{IsStoodFor}
use Rattle.zoned_rules.proofs.Candidates.{AreByOne, LieBefore, greatest_candidate, passed_back}
use Rattle.zoned_rules.proofs.NearOffsets.{by_one_of_two}
use Rattle.zoned_rules.proofs.Standing.{AreOffsets}
use Rattle.zoned_rules.proofs.zoned_rule.ZonedRule.last_near_change.Goals as goal

days_before : (n : ℤ) (end here : ℤ) → here ≡ end → pos 0 ≤ℤ n → n ≤ℤ pos 345_600 → neg_ℤ (pos 8_334_601_228_800) ≤ℤ end → end ≤ℤ pos 8_210_266_876_800 → to_z w64 (of_z w64 (here -ℤ n)) ≡ (end -ℤ n)
days_before n end here is some few low high = carried (here -ℤ n) (end -ℤ n) (omega (arith, ints, is)) (omega (arith, ints, low, few), omega (arith, ints, high, some))

four_before : (end here : ℤ) → here ≡ end → neg_ℤ (pos 8_334_601_228_800) ≤ℤ end → end ≤ℤ pos 8_210_266_876_800 → to_z w64 (of_z w64 (here -ℤ pos 345_600)) ≡ (end -ℤ pos 345_600)
four_before end here is low high = days_before (pos 345_600) end here is (omega (arith, ints)) (omega (arith, ints)) low high

two_before : (end here : ℤ) → here ≡ end → neg_ℤ (pos 8_334_601_228_800) ≤ℤ end → end ≤ℤ pos 8_210_266_876_800 → to_z w64 (of_z w64 (here -ℤ pos 172_800)) ≡ (end -ℤ pos 172_800)
two_before end here is low high = days_before (pos 172_800) end here is (omega (arith, ints)) (omega (arith, ints)) low high

-- the two stretches lead to each instant of the two days before the end
led_to : (r : LocalParts) (ahead : ℤ → ℤ) (end here s t from until bound one other : ℤ) → AreOffsets ahead → HoldsUntil ahead s t → HoldsUntil ahead from until → from ≡ t → one ≡ ahead s → other ≡ ahead from → s ≡ (end -ℤ pos 345_600) → here ≡ end → bound ≡ until → int_lt bound here ≡ false
    → AreByOne r ahead one other ((end -ℤ pos 172_800) -ℤ pos 1) end
led_to r ahead end here s t from until bound one other offsets first next same is_one is_other is_s is is_bound long m u h within earlier =
    by_one_of_two ahead s t from until one other first next same is_one is_other (epoch_second m) u offsets (omega (arith, ints, is_s, within)) (omega (arith, ints, is, is_bound, long, earlier)) h.stands

-- the second of a candidate comes back as it
candidate_is : (end here second n : ℤ) → here ≡ end → end ≤ℤ pos 8_210_266_876_800 → second ≤ℤ here → n <ℤ second → neg_ℤ (pos 8_334_601_315_200) ≤ℤ n → to_z w64 (of_z w64 n) ≡ n
candidate_is end here second n is high to earlier low = carried n n refl (omega (arith, ints, low), omega (arith, ints, is, high, to, earlier))

comes_earlier : (end here second n N : ℤ) → here ≡ end → second ≤ℤ here → n <ℤ second → N ≡ n → N <ℤ end
comes_earlier end here second n N is to earlier same = omega (arith, ints, is, to, earlier, same)

goes_back : (here second n N : ℤ) → second ≤ℤ here → n <ℤ second → N ≡ n → N ≤ℤ here
goes_back here second n N to earlier same = omega (arith, ints, to, earlier, same)

inside : (end low n N : ℤ) → N ≡ n → low ≡ (end -ℤ pos 172_800) → int_lt N low ≡ false → (end -ℤ pos 172_800) ≤ℤ n
inside end low n N same is not = omega (arith, ints, same, is, not)

inside_here : (end here low N : ℤ) → here ≡ end → low ≡ (end -ℤ pos 172_800) → int_lt N low ≡ false → (here -ℤ pos 172_800) ≤ℤ N
inside_here end here low N is is_low not = omega (arith, ints, is, is_low, not)

pub previous_candidate-requires-clause-low : goal.previous_candidate-requires-clause-low
previous_candidate-requires-clause-low g c =
    let end : ℤ = to_z w64 (of_z w64 c.args.end) in
    let here : end ≡ c.args.end = to_z-of_z w64 c.args.end c.ranges.end in
    omega (arith, ints, here, c.requires.low, c.loop-second.second-is, c.loop-second.invariant.1)

pub returns-then-previous-clause-recurs : goal.returns-then-previous-clause-recurs
returns-then-previous-clause-recurs g c =
    let r = c.args.self.now.local in
    let ahead = g.Z.TimeZone.ahead c.args.self.now.zone in
    let end : ℤ = to_z w64 (of_z w64 c.args.end) in
    let here : end ≡ c.args.end = to_z-of_z w64 c.args.end c.ranges.end in
    let second : ℤ = to_z w64 c.loop-second.second-bits in
    let previous = c.in-Some.previous in
    let to = c.loop-second.invariant.0 in
    let back = candidate_is c.args.end end second previous.second here c.requires.high to c.in-Some.ensures.earlier c.in-Some.ensures.low in
    (comes_earlier c.args.end end second previous.second _ here to c.in-Some.ensures.earlier back, subst (λ (k : ℤ). IsStoodFor r ahead k) (sym back) (c.in-Some.ensures.stands c.if-previous.true))

pub returns-then-previous-clause-greatest : goal.returns-then-previous-clause-greatest
returns-then-previous-clause-greatest g c = λ m u h earlier.
    let r = c.args.self.now.local in
    let ahead = g.Z.TimeZone.ahead c.args.self.now.zone in
    let end : ℤ = to_z w64 (of_z w64 c.args.end) in
    let here : end ≡ c.args.end = to_z-of_z w64 c.args.end c.ranges.end in
    let second : ℤ = to_z w64 c.loop-second.second-bits in
    let previous = c.in-Some.previous in
    let to = c.loop-second.invariant.0 in
    let back = candidate_is c.args.end end second previous.second here c.requires.high to c.in-Some.ensures.earlier c.in-Some.ensures.low in
    let before = c.stretch_from-before in
    let behind = c.stretch_from-behind in
    let fits_before : SFits w64 before.result.until = search rules in
    let fits_behind : SFits w64 behind.result.until = search rules in
    let least : ℤ = c.args.end -ℤ pos 172_800 in
    let is_least = two_before c.args.end end here c.requires.low c.requires.high in
    let by = led_to r ahead c.args.end end (to_z w64 (of_z w64 (end -ℤ pos 345_600))) before.result.until (to_z w64 (of_z w64 before.result.until)) behind.result.until (to_z w64 (of_z w64 behind.result.until)) before.result.offset behind.result.offset before.ensures.near
    before.ensures.holds behind.ensures.holds (to_z-of_z w64 before.result.until fits_before) before.ensures.offset behind.ensures.offset (four_before c.args.end end here c.requires.low c.requires.high) here (to_z-of_z w64 behind.result.until fits_behind) c.if-behind-end.false in
    let passed_yet = subst (λ (x : ℤ). LieBefore r ahead (x -ℤ pos 172_800) x second) here c.loop-second.invariant.2 in
    subst (λ (x : ℤ). u ≤ℤ x) (sym back)
    (greatest_candidate r ahead before.result.offset behind.result.offset least c.args.end second previous by passed_yet c.in-Some.ensures.reached (inside c.args.end _ previous.second _ back is_least c.if-previous-end.false) m u h earlier)

pub loop-second-preserved : goal.loop-second-preserved
loop-second-preserved g c =
    let r = c.args.self.now.local in
    let ahead = g.Z.TimeZone.ahead c.args.self.now.zone in
    let end : ℤ = to_z w64 (of_z w64 c.args.end) in
    let here : end ≡ c.args.end = to_z-of_z w64 c.args.end c.ranges.end in
    let second : ℤ = to_z w64 c.loop-second.second-bits in
    let previous = c.in-Some.previous in
    let to = c.loop-second.invariant.0 in
    let back = candidate_is c.args.end end second previous.second here c.requires.high to c.in-Some.ensures.earlier c.in-Some.ensures.low in
    let before = c.stretch_from-before in
    let behind = c.stretch_from-behind in
    let fits_before : SFits w64 before.result.until = search rules in
    let fits_behind : SFits w64 behind.result.until = search rules in
    let least : ℤ = c.args.end -ℤ pos 172_800 in
    let is_least = two_before c.args.end end here c.requires.low c.requires.high in
    let by = led_to r ahead c.args.end end (to_z w64 (of_z w64 (end -ℤ pos 345_600))) before.result.until (to_z w64 (of_z w64 before.result.until)) behind.result.until (to_z w64 (of_z w64 behind.result.until)) before.result.offset behind.result.offset before.ensures.near
    before.ensures.holds behind.ensures.holds (to_z-of_z w64 before.result.until fits_before) before.ensures.offset behind.ensures.offset (four_before c.args.end end here c.requires.low c.requires.high) here (to_z-of_z w64 behind.result.until fits_behind) c.if-behind-end.false in
    let passed_yet = subst (λ (x : ℤ). LieBefore r ahead (x -ℤ pos 172_800) x second) here c.loop-second.invariant.2 in
    let before_previous = passed_back r ahead before.result.offset behind.result.offset least c.args.end second previous by passed_yet c.in-Some.ensures.reached (λ t. both_ways previous.stands c.if-previous.false t) in (
      goes_back end second previous.second _ to c.in-Some.ensures.earlier back,
      inside_here c.args.end end _ _ here is_least c.if-previous-end.false,
      subst (λ (x : ℤ). LieBefore r ahead (x -ℤ pos 172_800) x (to_z w64 (of_z w64 previous.second))) (sym here) (subst (λ (x : ℤ). LieBefore r ahead least c.args.end x) (sym back) before_previous),
    )
