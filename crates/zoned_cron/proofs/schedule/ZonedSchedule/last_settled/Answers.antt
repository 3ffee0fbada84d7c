use Rattle.std.proofs.Common.{◌≡◌, ◌≤◌, false, rules, ℤ, pos, neg_ℤ, SFits, ◌+ℤ◌, ◌-ℤ◌, ◌≤ℤ◌, of_z, to_z, w64, ap, arith, refl, subst, ◌∙◌}
use Rattle.std.specs.Int.RustNames.{int_lt}
use Rattle.std.proofs.lemmas.Int.{ints, to_z-of_z}
use Rattle.std.proofs.lemmas.Option.{IfSome_then}
use Rattle.chrono_instant.specs.Instants.{LiesIn, epoch_second}
use Rattle.chrono_instant.specs.Offsets.{IsOffset}
use Rattle.chrono_instant.proofs.InstantLemmas.{IsEpochSecond-moment}
use Rattle.chrono_zoned.proofs.HeldSecondLemmas.{IsFirstFrom}
use Rattle.chrono_zoned.proofs.SecondSums.{IsNearDates, carried, fits_by, near, offset_carried}
use Rattle.zoned_cron.proofs.Carried.{days_before}
use Rattle.zoned_cron.proofs.Settled.{IsLastDue, IsStretch, last_settled_there}
use Rattle.zoned_cron.proofs.schedule.ZonedSchedule.last_settled.Goals as goal

five_days_near : (stop r : ℤ) → stop ≡ r → neg_ℤ (pos 8_334_601_228_800) ≤ℤ r → r ≤ℤ pos 8_210_266_876_800 → IsNearDates (stop -ℤ pos 432_000)
five_days_near stop r is low high = (omega (arith, ints, is, low), omega (arith, ints, is, high))

sum_near : (stop r a : ℤ) → stop ≡ r → neg_ℤ (pos 8_334_601_228_800) ≤ℤ r → r ≤ℤ pos 8_210_266_876_800 → IsOffset a → IsNearDates (stop +ℤ a)
sum_near stop r a is low high close = let bounds = near a close in (omega (arith, ints, is, low, bounds.0), omega (arith, ints, is, high, bounds.1))

reaches : (stop until bound : ℤ) → bound ≡ until → int_lt bound stop ≡ false → stop ≤ℤ until
reaches stop until bound is not = omega (arith, ints, is, not)

two_days_behind : (from stop : ℤ) → from ≡ (stop -ℤ pos 432_000) → (from +ℤ pos 172_800) ≤ℤ stop
two_days_behind from stop is = omega (arith, ints, is)

few : 259_200 ≤ 600_000
few = omega arith

pub overflow_sub-end : goal.overflow_sub-end
overflow_sub-end g c =
    let low = c.begun_by-end.ensures.low in
    let high = c.begun_by-end.ensures.high in
    let stop = to_z w64 (of_z w64 c.begun_by-end.result) in
    let fits : stop ≡ c.begun_by-end.result = to_z-of_z w64 c.begun_by-end.result (record { sfits = c.begun_by-end.type_inv }) in
    let close = five_days_near stop c.begun_by-end.result fits low high in
    fits_by (stop -ℤ pos 432_000) (stop -ℤ pos 432_000) refl close

pub overflow_add-end : goal.overflow_add-end
overflow_add-end g c =
    let low = c.begun_by-end.ensures.low in
    let high = c.begun_by-end.ensures.high in
    let stop = to_z w64 (of_z w64 c.begun_by-end.result) in
    let fits : stop ≡ c.begun_by-end.result = to_z-of_z w64 c.begun_by-end.result (record { sfits = c.begun_by-end.type_inv }) in
    let close = five_days_near stop c.begun_by-end.result fits low high in
    let ahead = g.Z.TimeZone.ahead c.args.self.now.zone in
    let stretch = c.from_second-held in
    let from = stretch.result.from in
    let small = stretch.ensures.held.near from in
    let o = to_z w64 (of_z w64 c.from-ahead.result) in
    let is_o : o ≡ ahead from = offset_carried c.from-ahead.result c.local_minus_utc.result stretch.result.offset (ahead from) c.from-ahead.ensures c.local_minus_utc.ensures.value stretch.ensures.held.offset (stretch.ensures.held.near from) in
    fits_by (stop +ℤ o) (stop +ℤ ahead from) (ap (λ (x : ℤ). stop +ℤ x) is_o) (sum_near stop c.begun_by-end.result (ahead from) fits low high small)

pub returns-in-Some-settled_instant : goal.returns-in-Some-settled_instant
returns-in-Some-settled_instant g c =
    let low = c.begun_by-end.ensures.low in
    let high = c.begun_by-end.ensures.high in
    let stop = to_z w64 (of_z w64 c.begun_by-end.result) in
    let fits : stop ≡ c.begun_by-end.result = to_z-of_z w64 c.begun_by-end.result (record { sfits = c.begun_by-end.type_inv }) in
    let close = five_days_near stop c.begun_by-end.result fits low high in
    let ahead = g.Z.TimeZone.ahead c.args.self.now.zone in
    let stretch = c.from_second-held in
    let from = stretch.result.from in
    let begun : from ≡ (stop -ℤ pos 432_000) = stretch.ensures.from ∙ carried (stop -ℤ pos 432_000) (stop -ℤ pos 432_000) refl close in
    let until_fits : SFits w64 stretch.result.until = search rules in
    let until : to_z w64 (of_z w64 stretch.result.until) ≡ stretch.result.until = to_z-of_z w64 stretch.result.until until_fits in
    let reach = reaches stop stretch.result.until _ until c.if-held-end.false in
    let small = stretch.ensures.held.near from in
    let o = to_z w64 (of_z w64 c.from-ahead.result) in
    let is_o : o ≡ ahead from = offset_carried c.from-ahead.result c.local_minus_utc.result stretch.result.offset (ahead from) c.from-ahead.ensures c.local_minus_utc.ensures.value stretch.ensures.held.offset (stretch.ensures.held.near from) in
    let is : to_z w64 (of_z w64 (stop +ℤ o)) ≡ (stop +ℤ ahead from) = carried (stop +ℤ o) (stop +ℤ ahead from) (ap (λ (x : ℤ). stop +ℤ x) is_o) (sum_near stop c.begun_by-end.result (ahead from) fits low high small) in
    let local = c.in-Some.local in
    let lies : LiesIn (stop +ℤ ahead from) 0 local = subst (λ (x : ℤ). LiesIn x 0 local) is c.in-Some.ensures.value in
    let due = c.in-Some-prev_before.ensures in
    let last : IsLastDue c.args.self.now local c.in-Some-prev_before.planned = record { exists = c.date_times_exist.ensures; due = due.member; earlier = due.earlier; greatest = due.greatest } in
    let held : IsStretch ahead from stretch.result.until = record { holds = stretch.ensures.held.holds; near = stretch.ensures.held.near } in
    let first : IsFirstFrom stop c.args.end = record { whole = λ e. fits ∙ c.begun_by-end.ensures.whole e; within = λ e. fits ∙ c.begun_by-end.ensures.within e } in
    let exists = c.begun_by-end.ensures.exists in
    last_settled_there g.Z.TimeZone.ahead c.args.self.now from stretch.result.until stop c.args.end local c.in-Some-prev_before.planned c.in-Some-settled_instant.found held (two_days_behind from stop begun) reach first exists lies last c.in-Some-settled_instant.ensures

pub overflow_sub-timestamp : goal.overflow_sub-timestamp
overflow_sub-timestamp g c =
    let planned = c.in-Some-prev_before.planned in
    let l = epoch_second planned in
    let at : to_z w64 (of_z w64 c.timestamp.result) ≡ l = to_z-of_z w64 c.timestamp.result (record { sfits = c.timestamp.type_inv }) ∙ c.timestamp.ensures.value in
    fits_by (to_z w64 (of_z w64 c.timestamp.result) -ℤ pos 259_200) (l -ℤ pos 259_200) (ap (λ (x : ℤ). x -ℤ pos 259_200) at) (days_before l 259_200 (IsEpochSecond-moment planned c.date_times_exist.ensures) few)

pub returns : goal.returns
returns g c =
    let low = c.begun_by-end.ensures.low in
    let high = c.begun_by-end.ensures.high in
    let stop = to_z w64 (of_z w64 c.begun_by-end.result) in
    let fits : stop ≡ c.begun_by-end.result = to_z-of_z w64 c.begun_by-end.result (record { sfits = c.begun_by-end.type_inv }) in
    let close = five_days_near stop c.begun_by-end.result fits low high in
    let ahead = g.Z.TimeZone.ahead c.args.self.now.zone in
    let stretch = c.from_second-held in
    let from = stretch.result.from in
    let begun : from ≡ (stop -ℤ pos 432_000) = stretch.ensures.from ∙ carried (stop -ℤ pos 432_000) (stop -ℤ pos 432_000) refl close in
    let until_fits : SFits w64 stretch.result.until = search rules in
    let until : to_z w64 (of_z w64 stretch.result.until) ≡ stretch.result.until = to_z-of_z w64 stretch.result.until until_fits in
    let reach = reaches stop stretch.result.until _ until c.if-held-end.false in
    let small = stretch.ensures.held.near from in
    let o = to_z w64 (of_z w64 c.from-ahead.result) in
    let is_o : o ≡ ahead from = offset_carried c.from-ahead.result c.local_minus_utc.result stretch.result.offset (ahead from) c.from-ahead.ensures c.local_minus_utc.ensures.value stretch.ensures.held.offset (stretch.ensures.held.near from) in
    let is : to_z w64 (of_z w64 (stop +ℤ o)) ≡ (stop +ℤ ahead from) = carried (stop +ℤ o) (stop +ℤ ahead from) (ap (λ (x : ℤ). stop +ℤ x) is_o) (sum_near stop c.begun_by-end.result (ahead from) fits low high small) in
    let local = c.in-Some.local in
    let lies : LiesIn (stop +ℤ ahead from) 0 local = subst (λ (x : ℤ). LiesIn x 0 local) is c.in-Some.ensures.value in
    let due = c.in-Some-prev_before.ensures in
    let last : IsLastDue c.args.self.now local c.in-Some-prev_before.planned = record { exists = c.date_times_exist.ensures; due = due.member; earlier = due.earlier; greatest = due.greatest } in
    let held : IsStretch ahead from stretch.result.until = record { holds = stretch.ensures.held.holds; near = stretch.ensures.held.near } in
    let first : IsFirstFrom stop c.args.end = record { whole = λ e. fits ∙ c.begun_by-end.ensures.whole e; within = λ e. fits ∙ c.begun_by-end.ensures.within e } in
    let exists = c.begun_by-end.ensures.exists in
    IfSome_then c.settled_instant-2.result c.settled_instant-2.ensures (λ d h.
    last_settled_there g.Z.TimeZone.ahead c.args.self.now from stretch.result.until stop c.args.end local c.in-Some-prev_before.planned d held (two_days_behind from stop begun) reach first exists lies last h)
