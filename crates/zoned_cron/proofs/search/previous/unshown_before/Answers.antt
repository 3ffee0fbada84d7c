use Rattle.std.proofs.Common.{rules, ◌≡◌, ℤ, pos, neg_ℤ, SFits, ◌+ℤ◌, ◌-ℤ◌, ◌≤ℤ◌, ◌<ℤ◌, of_z, to_z, w64, arith, subst, sym}
use Rattle.std.specs.Int.{int_max}
use Rattle.std.proofs.lemmas.Int.{int_max_is, ints, to_z-of_z}
use Rattle.chrono_datetime.proofs.Signed.{casts, signed}
use Rattle.chrono_zoned.specs.Zones.{HoldsUntil}
use Rattle.chrono_zoned.proofs.SecondSums.{IsNearDates, fits_by, near, offset_carried}
use Rattle.zoned_cron.proofs.Windows.{one_offset_before, two_offsets, within_day}
use Rattle.zoned_cron.proofs.search.previous.unshown_before.Goals as goal

begun_is : (stop : ℤ) → SFits w64 stop → neg_ℤ (pos 8_334_601_228_800) ≤ℤ stop → stop ≤ℤ pos 8_210_266_876_800 → to_z w64 (of_z w64 (to_z w64 (of_z w64 stop) -ℤ pos 172_800)) ≡ (stop -ℤ pos 172_800)
begun_is stop fits low high = let here = to_z-of_z w64 stop fits in omega (arith, casts, here, low, high)

sum_is : (stop most : ℤ) → SFits w64 stop → SFits w64 most → neg_ℤ (pos 8_334_601_228_800) ≤ℤ stop → stop ≤ℤ pos 8_210_266_876_800 → neg_ℤ (pos 86_400) <ℤ most → most <ℤ pos 86_400 → to_z w64 (of_z w64 (to_z w64 (of_z w64 stop) +ℤ to_z w64 (of_z w64 most))) ≡ (stop +ℤ most)
sum_is stop most fits small low high least greatest =
    let here = to_z-of_z w64 stop fits in
    let there = to_z-of_z w64 most small in
    omega (arith, casts, here, there, low, high, least, greatest)

most_low : (m o n a b : ℤ) → m ≡ int_max o n → o ≡ a → n ≡ b → neg_ℤ (pos 86_400) <ℤ a → neg_ℤ (pos 86_400) <ℤ b → neg_ℤ (pos 86_400) <ℤ m
most_low m o n a b is is_o is_n low other = let bounds = int_max_is o n in omega (arith, signed, is, is_o, is_n, low, other, bounds)

most_high : (m o n a b : ℤ) → m ≡ int_max o n → o ≡ a → n ≡ b → a <ℤ pos 86_400 → b <ℤ pos 86_400 → m <ℤ pos 86_400
most_high m o n a b is is_o is_n high other = let bounds = int_max_is o n in omega (arith, signed, is, is_o, is_n, high, other, bounds)

near_end : (stop most : ℤ) → neg_ℤ (pos 8_334_601_228_800) ≤ℤ stop → stop ≤ℤ pos 8_210_266_876_800 → neg_ℤ (pos 86_400) <ℤ most → most <ℤ pos 86_400 → IsNearDates (stop +ℤ most)
near_end stop most low high least greatest = (omega (arith, ints, low, least), omega (arith, ints, high, greatest))

sum_fits : (stop most : ℤ) → SFits w64 stop → SFits w64 most → neg_ℤ (pos 8_334_601_228_800) ≤ℤ stop → stop ≤ℤ pos 8_210_266_876_800 → neg_ℤ (pos 86_400) <ℤ most → most <ℤ pos 86_400 → SFits w64 (to_z w64 (of_z w64 stop) +ℤ to_z w64 (of_z w64 most))
sum_fits stop most fits small low high least greatest =
    let here = to_z-of_z w64 stop fits in
    let there = to_z-of_z w64 most small in
    fits_by (to_z w64 (of_z w64 stop) +ℤ to_z w64 (of_z w64 most)) (stop +ℤ most) (omega (arith, ints, here, there)) (near_end stop most low high least greatest)

reaches_end : (stop e a o bound x : ℤ) → e ≡ stop → o ≡ a → bound ≡ x → (e +ℤ o) ≤ℤ x → (stop +ℤ a) ≤ℤ bound
reaches_end stop e a o bound x is_end is_o is le = omega (arith, ints, is_end, is_o, is, le)

reaches_bound : (stop a o m bound x : ℤ) → bound ≡ x → o ≡ a → o ≤ℤ m → (stop +ℤ m) ≤ℤ x → (stop +ℤ a) ≤ℤ bound
reaches_bound stop a o m bound x is is_o le sum = omega (arith, ints, is, is_o, le, sum)

pub returns-then-end-first : goal.returns-then-end-first
returns-then-end-first g c =
    let ahead = g.Z.TimeZone.ahead c.args.zone in
    let stop = c.args.end in
    let here : to_z w64 (of_z w64 stop) ≡ stop = to_z-of_z w64 stop c.ranges.end in
    let first = c.stretch_from-first in
    let from : ℤ = to_z w64 (of_z w64 (to_z w64 (of_z w64 stop) -ℤ pos 172_800)) in
    let begun : from ≡ (stop -ℤ pos 172_800) = begun_is stop c.ranges.end c.requires.low c.requires.high in
    let until_fits : SFits w64 first.result.until = search rules in
    let is_until : to_z w64 (of_z w64 first.result.until) ≡ first.result.until = to_z-of_z w64 first.result.until until_fits in
    let long : stop ≤ℤ first.result.until = omega (arith, ints, here, is_until, c.if-end-first.true) in
    let bound : ℤ = to_z w64 (of_z w64 c.shown_at_most.result) in
    let is_bound : bound ≡ c.shown_at_most.result = to_z-of_z w64 c.shown_at_most.result (record { sfits = c.shown_at_most.type_inv }) in
    let reach : (stop +ℤ ahead from) ≤ℤ bound = reaches_end stop (to_z w64 (of_z w64 stop)) (ahead from) first.result.offset bound c.shown_at_most.result here first.ensures.offset is_bound c.shown_at_most.ensures in
    one_offset_before ahead stop from first.result.until bound first.ensures.near begun first.ensures.holds long reach

pub returns-then-next-end : goal.returns-then-next-end
returns-then-next-end g c =
    within_day (g.Z.TimeZone.ahead c.args.zone) c.args.end (to_z w64 (of_z w64 (to_z w64 (of_z w64 c.args.end) +ℤ pos 86_400))) c.stretch_from-first.ensures.near (omega (arith, casts, c.requires.low, c.requires.high))

pub overflow_add-end : goal.overflow_add-end
overflow_add-end g c =
    let ahead = g.Z.TimeZone.ahead c.args.zone in
    let first = c.stretch_from-first in
    let next = c.stretch_from-next in
    let from : ℤ = to_z w64 (of_z w64 (to_z w64 (of_z w64 c.args.end) -ℤ pos 172_800)) in
    let change : ℤ = to_z w64 (of_z w64 first.result.until) in
    let small = near (ahead from) (first.ensures.near from) in
    let other_small = near (ahead change) (first.ensures.near change) in
    let o : ℤ = to_z w64 (of_z w64 c.from-before.result) in
    let is_o : o ≡ ahead from = offset_carried c.from-before.result c.local_minus_utc.result first.result.offset (ahead from) c.from-before.ensures c.local_minus_utc.ensures.value first.ensures.offset (first.ensures.near from) in
    let n : ℤ = to_z w64 (of_z w64 c.from-after.result) in
    let is_n : n ≡ ahead change = offset_carried c.from-after.result c.local_minus_utc-2.result next.result.offset (ahead change) c.from-after.ensures c.local_minus_utc-2.ensures.value next.ensures.offset (first.ensures.near change) in
    let most : ℤ = c.max.result in
    sum_fits c.args.end most c.ranges.end (record { sfits = c.max.type_inv }) c.requires.low c.requires.high
    (most_low most o n (ahead from) (ahead change) c.max.ensures.value is_o is_n small.0 other_small.0)
    (most_high most o n (ahead from) (ahead change) c.max.ensures.value is_o is_n small.1 other_small.1)

pub returns : goal.returns
returns g c =
    let ahead = g.Z.TimeZone.ahead c.args.zone in
    let stop = c.args.end in
    let here : to_z w64 (of_z w64 stop) ≡ stop = to_z-of_z w64 stop c.ranges.end in
    let first = c.stretch_from-first in
    let next = c.stretch_from-next in
    let from : ℤ = to_z w64 (of_z w64 (to_z w64 (of_z w64 stop) -ℤ pos 172_800)) in
    let begun : from ≡ (stop -ℤ pos 172_800) = begun_is stop c.ranges.end c.requires.low c.requires.high in
    let change : ℤ = to_z w64 (of_z w64 first.result.until) in
    let change_fits : SFits w64 first.result.until = search rules in
    let is_change : change ≡ first.result.until = to_z-of_z w64 first.result.until change_fits in
    let until_fits : SFits w64 next.result.until = search rules in
    let is_until : to_z w64 (of_z w64 next.result.until) ≡ next.result.until = to_z-of_z w64 next.result.until until_fits in
    let long : stop ≤ℤ next.result.until = omega (arith, ints, here, is_until, c.if-next-end.false) in
    let small = near (ahead from) (first.ensures.near from) in
    let other_small = near (ahead change) (first.ensures.near change) in
    let o : ℤ = to_z w64 (of_z w64 c.from-before.result) in
    let is_o : o ≡ ahead from = offset_carried c.from-before.result c.local_minus_utc.result first.result.offset (ahead from) c.from-before.ensures c.local_minus_utc.ensures.value first.ensures.offset (first.ensures.near from) in
    let n : ℤ = to_z w64 (of_z w64 c.from-after.result) in
    let is_n : n ≡ ahead change = offset_carried c.from-after.result c.local_minus_utc-2.result next.result.offset (ahead change) c.from-after.ensures c.local_minus_utc-2.ensures.value next.ensures.offset (first.ensures.near change) in
    let most : ℤ = c.max.result in
    let most_fits : SFits w64 most = record { sfits = c.max.type_inv } in
    let is_most : to_z w64 (of_z w64 most) ≡ most = to_z-of_z w64 most most_fits in
    let low = most_low most o n (ahead from) (ahead change) c.max.ensures.value is_o is_n small.0 other_small.0 in
    let high = most_high most o n (ahead from) (ahead change) c.max.ensures.value is_o is_n small.1 other_small.1 in
    let sum = sum_is stop most c.ranges.end most_fits c.requires.low c.requires.high low high in
    let behind : (stop +ℤ most) ≤ℤ c.max-2.result = subst (λ (x : ℤ). x ≤ℤ c.max-2.result) sum c.max-2.ensures.self_bound in
    let bound : ℤ = to_z w64 (of_z w64 c.max-2.result) in
    let is_bound : bound ≡ c.max-2.result = to_z-of_z w64 c.max-2.result (record { sfits = c.max-2.type_inv }) in
    two_offsets ahead stop from change next.result.until bound first.ensures.near begun
    (subst (λ (x : ℤ). HoldsUntil ahead from x) (sym is_change) first.ensures.holds) next.ensures.holds long
    (reaches_bound stop (ahead from) o most bound c.max-2.result is_bound is_o c.max.ensures.self_bound behind)
    (reaches_bound stop (ahead change) n most bound c.max-2.result is_bound is_n c.max.ensures.other_bound behind)
