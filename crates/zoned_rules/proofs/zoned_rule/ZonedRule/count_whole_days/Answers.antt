use Rattle.std.proofs.Common.{◌≡◌, ◌*◌, ℤ, pos, neg_ℤ, SFits, IfSome, ◌-ℤ◌, ◌≤ℤ◌, of_z, to_z, w64, arith, ap, refl, subst, sym, ◌∙◌}
use Rattle.std.proofs.lemmas.Int.{ints, to_z-of_z}
use Rattle.chrono_datetime.proofs.Signed.{casts}
use Rattle.chrono_instant.specs.Instants.{IsEpochSecond, epoch_second}
use Rattle.chrono_instant.specs.Offsets.{IsOffset}
use Rattle.chrono_zoned.proofs.SecondSums.{carried, fits_by, near}
use Rattle.zoned_rules.specs.LocalTimes.{LocalParts, is_counted_time}
use Rattle.zoned_rules.specs.Recurs.{Recurs}
use Rattle.zoned_rules.specs.Private.{AreBehind, AreWholeDays, count_below, second_on}
use Rattle.zoned_rules.proofs.WholeDays.{whole_days_counted}
use Rattle.zoned_rules.proofs.zoned_rule.ZonedRule.count_whole_days.Goals as goal

held_again : (r : LocalParts) (ahead : ℤ → ℤ) (second S next N offset before last : ℤ) → S ≡ second → N ≡ next → AreWholeDays r ahead S N offset before last → AreWholeDays r ahead second next offset before last
held_again r ahead second S next N offset before last is_s is_n h =
    subst (λ (x : ℤ). AreWholeDays r ahead x next offset before last) is_s (subst (λ (x : ℤ). AreWholeDays r ahead S x offset before last) is_n h)

-- the last second of a day, by UTC
end_fits : (stamp offset : ℤ) → IsEpochSecond stamp → IsOffset offset → SFits w64 (to_z w64 (of_z w64 stamp) -ℤ to_z w64 (of_z w64 offset))
end_fits stamp offset date small =
    let bounds = near offset small in
    let stamp_again = carried stamp stamp refl (omega (arith, ints, date.0), omega (arith, ints, date.1)) in
    let offset_again = carried offset offset refl (omega (arith, ints, bounds.0), omega (arith, ints, bounds.1)) in
    fits_by _ (stamp -ℤ offset) (omega (arith, ints, stamp_again, offset_again)) (omega (arith, ints, date.0, bounds.1), omega (arith, ints, date.1, bounds.0))

end_is : (stamp offset day : ℤ) → IsEpochSecond stamp → IsOffset offset → stamp ≡ second_on day 86_399 → to_z w64 (of_z w64 (to_z w64 (of_z w64 stamp) -ℤ to_z w64 (of_z w64 offset))) ≡ (second_on day 86_399 -ℤ offset)
end_is stamp offset day date small is =
    let bounds = near offset small in
    let stamp_again = carried stamp stamp refl (omega (arith, ints, date.0), omega (arith, ints, date.1)) in
    let offset_again = carried offset offset refl (omega (arith, ints, bounds.0), omega (arith, ints, bounds.1)) in
    carried (to_z w64 (of_z w64 stamp) -ℤ to_z w64 (of_z w64 offset)) (stamp -ℤ offset) (omega (arith, ints, stamp_again, offset_again)) (omega (arith, ints, date.0, bounds.1), omega (arith, ints, date.1, bounds.0))
    ∙ ap (λ (x : ℤ). x -ℤ offset) is

end_low : (r : LocalParts) (ahead : ℤ → ℤ) (second next offset before last day end : ℤ) → AreWholeDays r ahead second next offset before last → neg_ℤ (pos 8_334_601_228_801) ≤ℤ second → before ≤ℤ day → end ≡ (second_on day 86_399 -ℤ offset) → neg_ℤ (pos 8_334_601_228_801) ≤ℤ end
end_low r ahead second next offset before last day end h low order is = omega (arith, casts, h.behind, low, order, is)

end_high : (r : LocalParts) (ahead : ℤ → ℤ) (second next offset before last day end : ℤ) → AreWholeDays r ahead second next offset before last → day ≤ℤ last → end ≡ (second_on day 86_399 -ℤ offset) → end ≤ℤ pos 8_210_266_876_799
end_high r ahead second next offset before last day end h within is = omega (arith, casts, h.end, within, is)

pub overflow_sub-result : goal.overflow_sub-result
overflow_sub-result g c = end_fits c.timestamp.result c.in_ok-whole.whole.offset c.timestamp.ensures.in_range c.in_ok-whole.ensures.offset

pub returns-clause-value : goal.returns-clause-value
returns-clause-value g c =
    let r = c.args.self.now.local in
    let ahead = g.Z.TimeZone.ahead c.args.self.now.zone in
    let whole = c.in_ok-whole.whole in
    let days = c.count_days-days in
    let held = held_again c.args.self.now.local (g.Z.TimeZone.ahead c.args.self.now.zone) c.args.second (to_z w64 (of_z w64 c.args.second)) c.args.next (to_z w64 (of_z w64 c.args.next)) whole.offset whole.before whole.last (to_z-of_z w64 c.args.second c.ranges.second) (to_z-of_z w64 c.args.next c.ranges.next) c.in_ok-whole.ensures.days in
    let is = end_is c.timestamp.result whole.offset days.result.last c.timestamp.ensures.in_range c.in_ok-whole.ensures.offset (c.timestamp.ensures.value ∙ ap epoch_second c.beginning.ensures.value) in
    let each : (d : ℤ) → count_below (is_counted_time r d) 86_400 ≡ c.in_ok-times.times = subst (λ o. IfSome o (λ n. (d : ℤ) → count_below (is_counted_time r d) 86_400 ≡ n)) c.in_ok-times.was c.requires.times in
    subst (λ (b : ℤ). AreBehind (Recurs r ahead) (c.in_ok-times.times * days.result.seen) c.args.second b) (sym is)
    (whole_days_counted r ahead c.args.second c.args.next whole.offset whole.before whole.last c.in_ok-times.times held each c.requires.least days.result.last days.result.seen days.ensures.order days.ensures.within days.ensures.value)

pub returns-clause-low : goal.returns-clause-low
returns-clause-low g c =
    let whole = c.in_ok-whole.whole in
    let days = c.count_days-days in
    let held = held_again c.args.self.now.local (g.Z.TimeZone.ahead c.args.self.now.zone) c.args.second (to_z w64 (of_z w64 c.args.second)) c.args.next (to_z w64 (of_z w64 c.args.next)) whole.offset whole.before whole.last (to_z-of_z w64 c.args.second c.ranges.second) (to_z-of_z w64 c.args.next c.ranges.next) c.in_ok-whole.ensures.days in
    end_low c.args.self.now.local (g.Z.TimeZone.ahead c.args.self.now.zone) c.args.second c.args.next whole.offset whole.before whole.last days.result.last _ held c.requires.low days.ensures.order
    (end_is c.timestamp.result whole.offset days.result.last c.timestamp.ensures.in_range c.in_ok-whole.ensures.offset (c.timestamp.ensures.value ∙ ap epoch_second c.beginning.ensures.value))

pub returns-clause-high : goal.returns-clause-high
returns-clause-high g c =
    let whole = c.in_ok-whole.whole in
    let days = c.count_days-days in
    let held = held_again c.args.self.now.local (g.Z.TimeZone.ahead c.args.self.now.zone) c.args.second (to_z w64 (of_z w64 c.args.second)) c.args.next (to_z w64 (of_z w64 c.args.next)) whole.offset whole.before whole.last (to_z-of_z w64 c.args.second c.ranges.second) (to_z-of_z w64 c.args.next c.ranges.next) c.in_ok-whole.ensures.days in
    end_high c.args.self.now.local (g.Z.TimeZone.ahead c.args.self.now.zone) c.args.second c.args.next whole.offset whole.before whole.last days.result.last _ held days.ensures.within
    (end_is c.timestamp.result whole.offset days.result.last c.timestamp.ensures.in_range c.in_ok-whole.ensures.offset (c.timestamp.ensures.value ∙ ap epoch_second c.beginning.ensures.value))
