use Rattle.std.proofs.Common.{◌≡◌, ℤ, pos, neg_ℤ, ◌+◌, ◌≤ℤ◌, ◌<ℤ◌, to_z, w64, arith, refl, subst, sym}
use Rattle.std.proofs.lemmas.Int.{by_lt_z, ints}
use Rattle.zoned_rules.specs.LocalTimes.{LocalParts}
use Rattle.zoned_rules.specs.Recurs.{IsOneOf, Recurs}
use Rattle.zoned_rules.specs.Private.{AreBehind}
use Rattle.zoned_rules.proofs.CountedSeconds.{are_sum, counted_inside, counted_outside}
use Rattle.zoned_rules.proofs.SecondsAgain.{last_again}
use Rattle.zoned_rules.proofs.zoned_rule.ZonedRule.last_of.Goals as goal

-- no instance comes before the first date of UTC
all_behind : (r : LocalParts) (ahead : ℤ → ℤ) (w : ℤ) → Recurs r ahead w → neg_ℤ (pos 8_334_601_228_801) <ℤ w
all_behind r ahead w q = omega (arith, ints, q.recurs.dates.utc.0)

pub loop-seen-init : goal.loop-seen-init
loop-seen-init g c = (omega arith, (omega (arith, ints), λ u low high q. omega (arith, ints, low, high)), omega (arith, ints), omega (arith, ints))

pub returns-in_default-clause-inside : goal.returns-in_default-clause-inside
returns-in_default-clause-inside g c = λ u f high.
    let ahead = g.Z.TimeZone.ahead c.args.self.now.zone in
    let s : ℤ = to_z w64 c.loop-seen.second-bits in
    let inv = c.loop-seen.invariant in
    let le : u ≤ℤ s = by_lt_z s u (λ lt. absurd (c.in_default.ensures.least u lt f)) (λ ge. ge) in
    counted_inside (Recurs c.args.self.now.local ahead) c.loop-seen.seen c.args.count (neg_ℤ (pos 8_334_601_228_801)) s u (all_behind c.args.self.now.local ahead) inv.1 inv.0 f le

pub loop-seen-preserved : goal.loop-seen-preserved
loop-seen-preserved g c =
    let P : ℤ → Type 0 = Recurs c.args.self.now.local (g.Z.TimeZone.ahead c.args.self.now.zone) in
    let start : ℤ = neg_ℤ (pos 8_334_601_228_801) in
    let s : ℤ = to_z w64 c.loop-seen.second-bits in
    let inv = c.loop-seen.invariant in
    let counted = c.count_on-counted in
    let is = last_again counted.result.second counted.ensures.low counted.ensures.high in (
      omega (arith, inv.0, counted.ensures.few),
      subst (λ (x : ℤ). AreBehind P (c.loop-seen.seen + counted.result.seen) start x) (sym is) (are_sum P c.loop-seen.seen counted.result.seen (c.loop-seen.seen + counted.result.seen) start s counted.result.second refl inv.1 counted.ensures.value),
      subst (λ (x : ℤ). start ≤ℤ x) (sym is) counted.ensures.low,
      subst (λ (x : ℤ). x ≤ℤ pos 8_210_266_876_799) (sym is) counted.ensures.high,
    )

pub returns-clause-inside : goal.returns-clause-inside
returns-clause-inside g c = λ u f high.
    let ahead = g.Z.TimeZone.ahead c.args.self.now.zone in
    let inv = c.loop-seen.invariant in
    counted_inside (Recurs c.args.self.now.local ahead) c.loop-seen.seen c.args.count (neg_ℤ (pos 8_334_601_228_801)) (to_z w64 c.loop-seen.second-bits) u (all_behind c.args.self.now.local ahead) inv.1 inv.0 f high

pub returns-clause-outside : goal.returns-clause-outside
returns-clause-outside g c = λ u f one.
    let ahead = g.Z.TimeZone.ahead c.args.self.now.zone in
    let inv = c.loop-seen.invariant in
    let all : c.args.count ≡ c.loop-seen.seen = omega (arith, inv.0, c.loop-seen-test.false) in
    counted_outside (Recurs c.args.self.now.local ahead) c.loop-seen.seen (neg_ℤ (pos 8_334_601_228_801)) (to_z w64 c.loop-seen.second-bits) u (all_behind c.args.self.now.local ahead) inv.1 (subst (λ n. IsOneOf (Recurs c.args.self.now.local ahead) n u) all one)
