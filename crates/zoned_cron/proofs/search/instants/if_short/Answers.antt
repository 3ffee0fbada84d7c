use Rattle.std.proofs.Common.{◌≡◌, ℤ, pos, SFits, ◌+ℤ◌, ◌-ℤ◌, ◌<ℤ◌, of_z, to_z, w64, ap, arith, sym, ◌∙◌}
use Rattle.std.proofs.lemmas.Bool.{false≢true}
use Rattle.std.proofs.lemmas.Int.{ints, to_z-of_z}
use Rattle.chrono_datetime.proofs.Signed.{casts}
use Rattle.zoned_cron.specs.Private.{IsNearADate}
use Rattle.zoned_cron.proofs.Instants.{short_no, short_yes}
use Rattle.zoned_cron.proofs.search.instants.if_short.Goals as goal

prior_is : (end : ℤ) → SFits w64 end → IsNearADate end → to_z w64 (of_z w64 (to_z w64 (of_z w64 end) -ℤ pos 1)) ≡ (end -ℤ pos 1)
prior_is end fits near = let here = to_z-of_z w64 end fits in omega (arith, casts, here, near.0, near.1)

steps : (a b x y : ℤ) → a ≡ x → b ≡ y → b <ℤ (a +ℤ pos 10_800) → y <ℤ (x +ℤ pos 10_800)
steps a b x y first other less = omega (arith, ints, first, other, less)

steps_back : (a b x y : ℤ) → a ≡ x → b ≡ y → y <ℤ (x +ℤ pos 10_800) → b <ℤ (a +ℤ pos 10_800)
steps_back a b x y first other less = omega (arith, ints, first, other, less)

pub returns-then-is_short : goal.returns-then-is_short
returns-then-is_short g c =
    let ahead = g.Z.TimeZone.ahead c.args.zone in
    let stop = c.args.end in
    let here : to_z w64 (of_z w64 stop) ≡ stop = to_z-of_z w64 stop c.ranges.end in
    let one : c.stretch_from-before.result.offset ≡ ahead (stop -ℤ pos 1) = c.stretch_from-before.ensures.offset ∙ ap ahead (prior_is stop c.ranges.end c.requires) in
    let two : c.stretch_from-behind.result.offset ≡ ahead stop = c.stretch_from-behind.ensures.offset ∙ ap ahead here in
    short_yes ahead stop (to_z w64 (of_z w64 stop)) here (steps c.stretch_from-before.result.offset c.stretch_from-behind.result.offset (ahead (stop -ℤ pos 1)) (ahead stop) one two (c.is_short.ensures.0 c.if-is_short.true))

pub returns-else-is_short : goal.returns-else-is_short
returns-else-is_short g c =
    let ahead = g.Z.TimeZone.ahead c.args.zone in
    let stop = c.args.end in
    let here : to_z w64 (of_z w64 stop) ≡ stop = to_z-of_z w64 stop c.ranges.end in
    let one : c.stretch_from-before.result.offset ≡ ahead (stop -ℤ pos 1) = c.stretch_from-before.ensures.offset ∙ ap ahead (prior_is stop c.ranges.end c.requires) in
    let two : c.stretch_from-behind.result.offset ≡ ahead stop = c.stretch_from-behind.ensures.offset ∙ ap ahead here in
    short_no ahead stop (λ step.
    false≢true (sym c.if-is_short.false ∙ c.is_short.ensures.1 (steps_back c.stretch_from-before.result.offset c.stretch_from-behind.result.offset (ahead (stop -ℤ pos 1)) (ahead stop) one two step)))
