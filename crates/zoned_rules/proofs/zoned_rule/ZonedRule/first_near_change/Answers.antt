use Rattle.std.proofs.Common.{◌≡◌, false, rules, int_le, ℤ, pos, neg_ℤ, SFits, ◌<◌, ◌-ℤ◌, ◌≤ℤ◌, ◌<ℤ◌, unsigned_abs, of_z, to_z, w64, arith, refl, subst, sym}
use Rattle.std.proofs.lemmas.Bool.{both_ways}
use Rattle.std.proofs.lemmas.Int.{ints, to_z-of_z}
use Rattle.chrono_datetime.proofs.Signed.{casts}
use Rattle.chrono_instant.specs.Instants.{epoch_second}
use Rattle.chrono_zoned.specs.Zones.{HoldsUntil}
use Rattle.chrono_zoned.proofs.SecondSums.{carried}
use Rattle.zoned_rules.specs.LocalTimes.{LocalParts}
use Rattle.zoned_rules.specs.Private.{IsStoodFor}
use Rattle.zoned_rules.proofs.Candidates.{AreByOne, LieBehind, least_candidate, passed}
use Rattle.zoned_rules.proofs.NearOffsets.{by_one_of_two}
use Rattle.zoned_rules.proofs.Standing.{AreOffsets}
use Rattle.zoned_rules.proofs.zoned_rule.ZonedRule.first_near_change.Goals as goal

two_days_before : (after here : ℤ) → here ≡ after → neg_ℤ (pos 8_334_601_400_000) ≤ℤ after → after ≤ℤ pos 8_210_266_963_199 → to_z w64 (of_z w64 (here -ℤ pos 172_800)) ≡ (after -ℤ pos 172_800)
two_days_before after here is low high = carried (here -ℤ pos 172_800) (after -ℤ pos 172_800) (omega (arith, ints, is)) (omega (arith, ints, low), omega (arith, ints, high))

-- the two stretches lead to each instant behind the start and before their end
led_to : (r : LocalParts) (ahead : ℤ → ℤ) (after s t from until end one other : ℤ) → AreOffsets ahead → HoldsUntil ahead s t → HoldsUntil ahead from until → from ≡ t → one ≡ ahead s → other ≡ ahead from → s ≡ (after -ℤ pos 172_800) → end ≡ until → AreByOne r ahead one other after end
led_to r ahead after s t from until end one other offsets first next same is_one is_other is_s is_end m u h later within =
    by_one_of_two ahead s t from until one other first next same is_one is_other (epoch_second m) u offsets (omega (arith, ints, is_s, later)) (omega (arith, ints, is_end, within)) h.stands

-- the second of a candidate comes back as it
candidate_is : (after here second n : ℤ) → here ≡ after → neg_ℤ (pos 8_334_601_400_000) ≤ℤ after → here ≤ℤ second → second <ℤ n → n ≤ℤ pos 8_210_266_963_199 → to_z w64 (of_z w64 n) ≡ n
candidate_is after here second n is low from later high = carried n n refl (omega (arith, ints, is, low, from, later), omega (arith, ints, high))

comes_later : (after here second n N : ℤ) → here ≡ after → here ≤ℤ second → second <ℤ n → N ≡ n → after <ℤ N
comes_later after here second n N is from later same = omega (arith, ints, is, from, later, same)

goes_on : (here second n N : ℤ) → here ≤ℤ second → second <ℤ n → N ≡ n → here ≤ℤ N
goes_on here second n N from later same = omega (arith, ints, from, later, same)

inside : (end n N : ℤ) → N ≡ n → int_le end N ≡ false → n <ℤ end
inside end n N same not = omega (arith, ints, same, not)

closer : (end second n N : ℤ) → N ≡ n → second <ℤ n → int_le end N ≡ false → unsigned_abs (end -ℤ N) < unsigned_abs (end -ℤ second)
closer end second n N same later not = omega (arith, casts, same, later, not)

no_later : (x : ℤ) → x ≤ℤ x
no_later x = omega (arith, ints)

pub loop-second-init : goal.loop-second-init
loop-second-init g c =
    let after : ℤ = to_z w64 (of_z w64 c.args.after) in
    (no_later after, subst (λ (x : ℤ). x ≤ℤ pos 8_210_266_963_199) (sym (to_z-of_z w64 c.args.after c.ranges.after)) c.requires.high, λ m u h later within. later)

pub next_candidate-requires-clause-low : goal.next_candidate-requires-clause-low
next_candidate-requires-clause-low g c = omega (arith, casts, c.requires, c.loop-second.second-is, c.loop-second.invariant.0)

pub next_candidate-requires-clause-high : goal.next_candidate-requires-clause-high
next_candidate-requires-clause-high g c = c.loop-second.invariant.1

pub returns-then-next-clause-recurs : goal.returns-then-next-clause-recurs
returns-then-next-clause-recurs g c =
    let r = c.args.self.now.local in
    let ahead = g.Z.TimeZone.ahead c.args.self.now.zone in
    let after : ℤ = to_z w64 (of_z w64 c.args.after) in
    let here : after ≡ c.args.after = to_z-of_z w64 c.args.after c.ranges.after in
    let second : ℤ = to_z w64 c.loop-second.second-bits in
    let next = c.in-Some.next in
    let from = c.loop-second.invariant.0 in
    let back = candidate_is c.args.after after second next.second here c.requires.low from c.in-Some.ensures.later c.in-Some.ensures.high in
    (comes_later c.args.after after second next.second _ here from c.in-Some.ensures.later back, subst (λ (k : ℤ). IsStoodFor r ahead k) (sym back) (c.in-Some.ensures.stands c.if-next.true))

pub returns-then-next-clause-least : goal.returns-then-next-clause-least
returns-then-next-clause-least g c = λ m u h later.
    let r = c.args.self.now.local in
    let ahead = g.Z.TimeZone.ahead c.args.self.now.zone in
    let after : ℤ = to_z w64 (of_z w64 c.args.after) in
    let here : after ≡ c.args.after = to_z-of_z w64 c.args.after c.ranges.after in
    let second : ℤ = to_z w64 c.loop-second.second-bits in
    let next = c.in-Some.next in
    let from = c.loop-second.invariant.0 in
    let back = candidate_is c.args.after after second next.second here c.requires.low from c.in-Some.ensures.later c.in-Some.ensures.high in
    let before = c.stretch_from-before in
    let behind = c.stretch_from-behind in
    let fits_before : SFits w64 before.result.until = search rules in
    let fits_behind : SFits w64 behind.result.until = search rules in
    let end : ℤ = to_z w64 (of_z w64 behind.result.until) in
    let by = led_to r ahead c.args.after (to_z w64 (of_z w64 (after -ℤ pos 172_800))) before.result.until (to_z w64 (of_z w64 before.result.until)) behind.result.until end before.result.offset behind.result.offset before.ensures.near
    before.ensures.holds behind.ensures.holds (to_z-of_z w64 before.result.until fits_before) before.ensures.offset behind.ensures.offset (two_days_before c.args.after after here c.requires.low c.requires.high) (to_z-of_z w64 behind.result.until fits_behind) in
    let passed_yet = subst (λ (x : ℤ). LieBehind r ahead x end second) here c.loop-second.invariant.2 in
    subst (λ (x : ℤ). x ≤ℤ u) (sym back)
    (least_candidate r ahead before.result.offset behind.result.offset c.args.after end second next by passed_yet c.in-Some.ensures.reached (inside end next.second _ back c.if-until-next.false) m u h later)

pub loop-second-smaller : goal.loop-second-smaller
loop-second-smaller g c =
    let r = c.args.self.now.local in
    let ahead = g.Z.TimeZone.ahead c.args.self.now.zone in
    let after : ℤ = to_z w64 (of_z w64 c.args.after) in
    let here : after ≡ c.args.after = to_z-of_z w64 c.args.after c.ranges.after in
    let second : ℤ = to_z w64 c.loop-second.second-bits in
    let next = c.in-Some.next in
    let from = c.loop-second.invariant.0 in
    let back = candidate_is c.args.after after second next.second here c.requires.low from c.in-Some.ensures.later c.in-Some.ensures.high in
    closer (to_z w64 (of_z w64 c.stretch_from-behind.result.until)) second next.second _ back c.in-Some.ensures.later c.if-until-next.false

pub loop-second-preserved : goal.loop-second-preserved
loop-second-preserved g c =
    let r = c.args.self.now.local in
    let ahead = g.Z.TimeZone.ahead c.args.self.now.zone in
    let after : ℤ = to_z w64 (of_z w64 c.args.after) in
    let here : after ≡ c.args.after = to_z-of_z w64 c.args.after c.ranges.after in
    let second : ℤ = to_z w64 c.loop-second.second-bits in
    let next = c.in-Some.next in
    let from = c.loop-second.invariant.0 in
    let back = candidate_is c.args.after after second next.second here c.requires.low from c.in-Some.ensures.later c.in-Some.ensures.high in
    let before = c.stretch_from-before in
    let behind = c.stretch_from-behind in
    let fits_before : SFits w64 before.result.until = search rules in
    let fits_behind : SFits w64 behind.result.until = search rules in
    let end : ℤ = to_z w64 (of_z w64 behind.result.until) in
    let by = led_to r ahead c.args.after (to_z w64 (of_z w64 (after -ℤ pos 172_800))) before.result.until (to_z w64 (of_z w64 before.result.until)) behind.result.until end before.result.offset behind.result.offset before.ensures.near
    before.ensures.holds behind.ensures.holds (to_z-of_z w64 before.result.until fits_before) before.ensures.offset behind.ensures.offset (two_days_before c.args.after after here c.requires.low c.requires.high) (to_z-of_z w64 behind.result.until fits_behind) in
    let passed_yet = subst (λ (x : ℤ). LieBehind r ahead x end second) here c.loop-second.invariant.2 in
    let behind_next = passed r ahead before.result.offset behind.result.offset c.args.after end second next by passed_yet c.in-Some.ensures.reached (λ t. both_ways next.stands c.if-next.false t) in (
      goes_on after second next.second _ from c.in-Some.ensures.later back,
      subst (λ (x : ℤ). x ≤ℤ pos 8_210_266_963_199) (sym back) c.in-Some.ensures.high,
      subst (λ (x : ℤ). LieBehind r ahead x end (to_z w64 (of_z w64 next.second))) (sym here) (subst (λ (x : ℤ). LieBehind r ahead c.args.after end x) (sym back) behind_next),
    )
