use Rattle.std.proofs.Common.{◌≡◌, ◌⊎◌, inl, inr, ℕ, ◌<◌, false, rules, int_le, ℤ, pos, neg_ℤ, SFits, ◌+ℤ◌, ◌-ℤ◌, ◌≤ℤ◌, ◌<ℤ◌, of_z, to_z, w64, arith, ap, refl, sym, ◌∙◌}
use Rattle.std.specs.Int.RustNames.{int_lt}
use Rattle.std.proofs.lemmas.Int.{ints, to_z-of_z}
use Rattle.chrono_datetime.specs.Days.{IsDate}
use Rattle.chrono_datetime.specs.Moment.{Moment}
use Rattle.chrono_instant.specs.Instants.{IsEpochSecond, epoch_second}
use Rattle.chrono_instant.specs.Offsets.{IsOffset}
use Rattle.chrono_zoned.specs.Zones.{HoldsUntil}
use Rattle.chrono_zoned.proofs.SecondSums.{carried, fits_by, near, offset_carried}
use Rattle.zoned_rules.specs.LocalInstants.{IsInstantOf}
use Rattle.zoned_rules.specs.LocalTimes.{LocalParts}
use Rattle.zoned_rules.specs.Private.{AreWholeDays}
use Rattle.zoned_rules.proofs.Standing.{AreOffsets}
use Rattle.zoned_rules.proofs.WholeDays.{begin_at, end_before_day, whole_days_of}
use Rattle.zoned_rules.proofs.zoned_rule.ZonedRule.held_days.Goals as goal

-- the second at which the day of `next` begins
begin_is : (next here f : ℤ) (k : ℕ) → here ≡ next → IsEpochSecond next → f ≡ pos k → k < 86_400 → to_z w64 (of_z w64 (here -ℤ f)) ≡ (next -ℤ pos k)
begin_is next here f k is date is_k few =
    carried (here -ℤ f) (next -ℤ pos k) (omega (arith, ints, is, is_k)) (omega (arith, ints, date.0, few), omega (arith, ints, date.1))

-- three days before it
three_days : (next here : ℤ) → here ≡ next → IsEpochSecond next → to_z w64 (of_z w64 (here -ℤ pos 259_200)) ≡ (next -ℤ pos 259_200)
three_days next here is date = carried (here -ℤ pos 259_200) (next -ℤ pos 259_200) (omega (arith, ints, is)) (omega (arith, ints, date.0), omega (arith, ints, date.1))

-- no more than the seconds of dates and four days
IsNear : ℤ → Type 0
IsNear z = (neg_ℤ (pos 8_334_601_575_000) ≤ℤ z) × (z ≤ℤ pos 8_210_266_876_799)

-- what the clock shows there
shown_fits : (x here a o : ℤ) → here ≡ x → IsNear x → o ≡ a → IsOffset a → SFits w64 (here +ℤ o)
unfolding IsNear
shown_fits x here a o is close is_o small =
    let bounds = near a small in
    fits_by (here +ℤ o) (x +ℤ a) (omega (arith, ints, is, is_o)) (omega (arith, ints, close.0, bounds.0), omega (arith, ints, close.1, bounds.1))

shown_is : (x here a o : ℤ) → here ≡ x → IsNear x → o ≡ a → IsOffset a → to_z w64 (of_z w64 (here +ℤ o)) ≡ (x +ℤ a)
shown_is x here a o is close is_o small = to_z-of_z w64 (here +ℤ o) (shown_fits x here a o is close is_o small) ∙ omega (arith, ints, is, is_o)

day_near : (next : ℤ) (k : ℕ) → IsEpochSecond next → k < 86_400 → IsNear (next -ℤ pos k)
unfolding IsNear
day_near next k date few = (omega (arith, ints, date.0, few), omega (arith, ints, date.1))

next_near : (next : ℤ) → IsEpochSecond next → IsNear next
unfolding IsNear
next_near next date = (omega (arith, ints, date.0), omega (arith, ints, date.1))

-- the end of the stretch, or the last second
end_near : (next s until U end : ℤ) → IsEpochSecond next → s ≡ (next -ℤ pos 259_200) → U ≡ until → (s <ℤ pos 9_223_372_036_854_775_807 → s <ℤ until) → (end ≡ U) ⊎ (end ≡ pos 8_210_266_876_799) → end ≤ℤ pos 8_210_266_876_799 → IsNear end
unfolding IsNear
end_near next s until U end date is is_u later (inl e) high = (omega (arith, ints, date.0, date.1, is, is_u, later (omega (arith, ints, date.1, is)), e), high)
end_near next s until U end date is is_u later (inr e) high = (omega (arith, ints, e), high)

-- the facts that the code has found
record AreFound (r : LocalParts) (ahead : ℤ → ℤ) (s until second next before last o begin end e start : ℤ) (k : ℕ) (m n : Moment) : Type 0 where
  offsets : AreOffsets ahead
  holds : HoldsUntil ahead s until
  offset : o ≡ ahead s
  stretch : s ≡ (next -ℤ pos 259_200)
  place : k < 86_400
  begins : begin ≡ (next -ℤ pos k)
  shown : epoch_second m ≡ (next +ℤ ahead s)
  second_is : m.time.second ≡ k
  before_is : before ≡ (m.date -ℤ pos 1)
  before_date : IsDate before
  behind : second <ℤ begin
  low : neg_ℤ (pos 8_334_601_228_801) ≤ℤ second
  since : epoch_second r.start ≤ℤ (begin +ℤ ahead s)
  stands : IsInstantOf ahead (epoch_second r.start) start
  begun : start ≤ℤ begin
  ends : epoch_second n ≡ e
  end_within : e ≤ℤ (end +ℤ ahead s)
  end_held : end ≤ℤ until
  end_high : end ≤ℤ pos 8_210_266_876_799
  last_is : last ≡ (n.date -ℤ pos 1)
  last_date : IsDate last
  order : before ≤ℤ last

days_held : (r : LocalParts) (ahead : ℤ → ℤ) (s until second next before last o begin end e start : ℤ) (k : ℕ) (m n : Moment) → AreFound r ahead s until second next before last o begin end e start k m n → AreWholeDays r ahead second next o before last
days_held r ahead s until second next before last o begin end e start k m n f =
    let last_end = end_before_day n e (ahead s) end last f.ends f.last_is f.end_within in
    let first = begin_at m next (ahead s) before k f.shown f.second_is f.before_is in
    let begins = f.begins in
    whole_days_of r ahead s until begin before last second next o f.offset
    (record {
      offsets = f.offsets;
      holds = f.holds;
      begin_date = f.before_date;
      end_date = f.last_date;
      begin = omega (arith, ints, begins, first);
      low = omega (arith, ints, f.behind, f.low);
      two_days = omega (arith, ints, f.stretch, begins, f.place);
      since = f.since;
      start = start;
      stands = f.stands;
      begun = f.begun;
      end = omega (arith, ints, last_end, f.end_held);
      high = omega (arith, ints, last_end, f.end_high);
    })
    f.order f.behind (omega (arith, ints, begins))

less_is : (a b x y : ℤ) → a ≡ x → b ≡ y → int_le a b ≡ false → y <ℤ x
less_is a b x y is_a is_b not = omega (arith, ints, is_a, is_b, not)

not_less_is : (a b x y : ℤ) → a ≡ x → b ≡ y → int_lt a b ≡ false → y ≤ℤ x
not_less_is a b x y is_a is_b not = omega (arith, ints, is_a, is_b, not)

at_most : (x X Y : ℤ) → x ≤ℤ X → X ≡ Y → x ≤ℤ Y
at_most x X Y le is = omega (arith, ints, le, is)

as_natural : (f : ℤ) (k : ℕ) → f ≡ pos k → k < 86_400 → to_z w64 (of_z w64 f) ≡ pos k
as_natural f k is few = carried f (pos k) is (omega (arith, ints), omega (arith, ints, few))

pub overflow_add-begin : goal.overflow_add-begin
overflow_add-begin g c =
    let next = c.args.next in
    let here : to_z w64 (of_z w64 next) ≡ next = to_z-of_z w64 next c.ranges.next in
    let ahead = g.Z.TimeZone.ahead c.args.self.now.zone in
    let stretch = c.stretch_from-stretch in
    let s : ℤ = to_z w64 (of_z w64 (to_z w64 (of_z w64 next) -ℤ pos 259_200)) in
    let close = stretch.ensures.near s in
    let o : ℤ = to_z w64 (of_z w64 c.from-offset.result) in
    let is_o : o ≡ ahead s = offset_carried c.from-offset.result c.local_minus_utc.result stretch.result.offset (ahead s) c.from-offset.ensures c.local_minus_utc.ensures.value stretch.ensures.offset close in
    let k : ℕ = c.num_seconds_from_midnight.result in
    let few = c.num_seconds_from_midnight.ensures.bound in
    let begin = begin_is next (to_z w64 (of_z w64 next)) (to_z w64 (of_z w64 c.from.result)) k here c.requires.date (as_natural c.from.result k c.from.ensures few) few in
    let day = day_near next k c.requires.date few in
    shown_fits (next -ℤ pos k) _ (ahead s) o begin day is_o close

pub overflow_add-earlier_of : goal.overflow_add-earlier_of
overflow_add-earlier_of g c =
    let next = c.args.next in
    let here : to_z w64 (of_z w64 next) ≡ next = to_z-of_z w64 next c.ranges.next in
    let ahead = g.Z.TimeZone.ahead c.args.self.now.zone in
    let stretch = c.stretch_from-stretch in
    let s : ℤ = to_z w64 (of_z w64 (to_z w64 (of_z w64 next) -ℤ pos 259_200)) in
    let close = stretch.ensures.near s in
    let o : ℤ = to_z w64 (of_z w64 c.from-offset.result) in
    let is_o : o ≡ ahead s = offset_carried c.from-offset.result c.local_minus_utc.result stretch.result.offset (ahead s) c.from-offset.ensures c.local_minus_utc.ensures.value stretch.ensures.offset close in
    let begin_s = three_days next (to_z w64 (of_z w64 next)) here c.requires.date in
    let fits : SFits w64 stretch.result.until = search rules in
    let until = to_z-of_z w64 stretch.result.until fits in
    let end = end_near next s stretch.result.until (to_z w64 (of_z w64 stretch.result.until)) c.earlier_of.result c.requires.date begin_s until stretch.ensures.later c.earlier_of.ensures.either c.earlier_of.ensures.second in
    let back : to_z w64 (of_z w64 c.earlier_of.result) ≡ c.earlier_of.result = to_z-of_z w64 c.earlier_of.result (record { sfits = c.earlier_of.type_inv }) in
    shown_fits c.earlier_of.result _ (ahead s) o back end is_o close

pub returns-clause-days : goal.returns-clause-days
returns-clause-days g c =
    let next = c.args.next in
    let here : to_z w64 (of_z w64 next) ≡ next = to_z-of_z w64 next c.ranges.next in
    let ahead = g.Z.TimeZone.ahead c.args.self.now.zone in
    let stretch = c.stretch_from-stretch in
    let s : ℤ = to_z w64 (of_z w64 (to_z w64 (of_z w64 next) -ℤ pos 259_200)) in
    let close = stretch.ensures.near s in
    let o : ℤ = to_z w64 (of_z w64 c.from-offset.result) in
    let is_o : o ≡ ahead s = offset_carried c.from-offset.result c.local_minus_utc.result stretch.result.offset (ahead s) c.from-offset.ensures c.local_minus_utc.ensures.value stretch.ensures.offset close in
    let k : ℕ = c.num_seconds_from_midnight.result in
    let few = c.num_seconds_from_midnight.ensures.bound in
    let begin = begin_is next (to_z w64 (of_z w64 next)) (to_z w64 (of_z w64 c.from.result)) k here c.requires.date (as_natural c.from.result k c.from.ensures few) few in
    let day = day_near next k c.requires.date few in
    let begin_s = three_days next (to_z w64 (of_z w64 next)) here c.requires.date in
    let fits : SFits w64 stretch.result.until = search rules in
    let until = to_z-of_z w64 stretch.result.until fits in
    let end = end_near next s stretch.result.until (to_z w64 (of_z w64 stretch.result.until)) c.earlier_of.result c.requires.date begin_s until stretch.ensures.later c.earlier_of.ensures.either c.earlier_of.ensures.second in
    let back : to_z w64 (of_z w64 c.earlier_of.result) ≡ c.earlier_of.result = to_z-of_z w64 c.earlier_of.result (record { sfits = c.earlier_of.type_inv }) in
    let r = c.args.self.now.local in
    let m = c.in_ok-local.local in
    let n = c.in_ok-from_timestamp.field-0 in
    let first = c.in_ok-before.ensures in
    let last = c.in_ok-last.ensures in
    let outer = c.earlier_of-end in
    let stamp = to_z-of_z w64 c.timestamp.result (record { sfits = c.timestamp.type_inv }) in
    days_held r ahead s stretch.result.until c.args.second next c.in_ok-before.before c.in_ok-last.last o (next -ℤ pos k) c.earlier_of.result outer.result c.start_second.result k m n
    (record {
      offsets = stretch.ensures.near;
      holds = stretch.ensures.holds;
      offset = is_o;
      stretch = begin_s;
      place = few;
      begins = refl;
      shown = c.in_ok-local.ensures.value.second ∙ shown_is next (to_z w64 (of_z w64 next)) (ahead s) o here (next_near next c.requires.date) is_o close;
      second_is = sym c.num_seconds_from_midnight.ensures.value;
      before_is = first.moved ∙ ap (λ (d : ℤ). d -ℤ pos 1) c.date.ensures;
      before_date = first.in_range;
      behind = less_is _ _ (next -ℤ pos k) c.args.second begin (to_z-of_z w64 c.args.second c.ranges.second) c.if-begin-second.false;
      low = c.requires.low;
      since = not_less_is _ _ (next -ℤ pos k +ℤ ahead s) (epoch_second r.start) (shown_is (next -ℤ pos k) _ (ahead s) o begin day is_o close) (stamp ∙ (c.timestamp.ensures.value ∙ ap epoch_second c.start-start.ensures)) c.if-begin-offset.false;
      stands = c.start_second.ensures.stands;
      begun = not_less_is _ _ (next -ℤ pos k) c.start_second.result begin (to_z-of_z w64 c.start_second.result (record { sfits = c.start_second.type_inv })) c.if-begin-start_second.false;
      ends = c.in_ok-from_timestamp.ensures.value.second ∙ to_z-of_z w64 outer.result (record { sfits = outer.type_inv });
      end_within = at_most outer.result _ _ outer.ensures.first (shown_is c.earlier_of.result _ (ahead s) o back end is_o close);
      end_held = at_most c.earlier_of.result _ _ c.earlier_of.ensures.first until;
      end_high = c.earlier_of.ensures.second;
      last_is = last.moved ∙ ap (λ (d : ℤ). d -ℤ pos 1) c.date-2.ensures;
      last_date = last.in_range;
      order = search rules;
    })
