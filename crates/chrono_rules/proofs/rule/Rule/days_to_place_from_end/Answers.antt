use Rattle.std.proofs.Common.{◌≡◌, ◌&&◌, cond, nat_lt, refl, sym, ◌∙◌, arith, ℤ, pos, ◌+ℤ◌, ◌-ℤ◌, ◌≤ℤ◌, ◌<ℤ◌, to_z, of_z, w64}
use Rattle.std.proofs.lemmas.Int.{by_lt_z}
use Rattle.chrono_datetime.specs.Days.{IsDate}
use Rattle.chrono_datetime.specs.Recurrence.{count_between}
use Rattle.chrono_datetime.proofs.CountBetween.{count_between-empty}
use Rattle.chrono_datetime.proofs.Signed.{casts, signed}
use Rattle.chrono_rules.specs.ByParts.{date_passes}
use Rattle.chrono_sets.specs.FiniteSets.{has}
use Rattle.chrono_rules.specs.Periods.{period_end}
use Rattle.chrono_rules.proofs.PlacesFromEnd.{before_places, chosen, counted-back, from_chosen, off_day_back, same_end}
use Rattle.chrono_rules.proofs.rule.Rule.days_to_place_from_end.Goals as goal

pub loop-later-init : goal.loop-later-init
loop-later-init c = record {
  low = omega (arith, signed, c.requires.low);
  order = omega (arith, signed);
  high = omega (arith, signed);
  count = sym (count_between-empty (date_passes c.args.self.now c.args.start) _ _ (omega (arith, signed)));
  few = omega (arith, signed);
  none = λ d low high. absurd (omega (arith, signed, low, high));
}

pub loop-later-preserved : goal.loop-later-preserved
loop-later-preserved c =
    let r = c.args.self.now in
    let p = date_passes r c.args.start in
    let inv = c.loop-later.invariant in
    let test = c.loop-later-test.true in
    let later : ℤ = to_z w64 c.loop-later.later-bits in
    let first : ℤ = to_z w64 c.loop-later.first-bits in
    let next : ℤ = to_z w64 (of_z w64 (later -ℤ pos 1)) in
    let x : ℤ = to_z w64 (of_z w64 c.earlier_named-first.result) in
    let end : ℤ = to_z w64 (of_z w64 c.args.end) in
    let e : ℤ = c.args.day +ℤ next in
    let past : ℤ = c.args.day +ℤ end in
    let place = c.and_later-place.result in
    let high = c.requires.high in
    let at : next ≡ later -ℤ pos 1 = omega (arith, casts, inv.low, inv.order, inv.high, test, high) in
    let low : c.args.day ≤ℤ e = omega (arith, signed, at, test) in
    let less : e <ℤ past = omega (arith, signed, at, inv.order, inv.high) in
    let date : IsDate e = c.requires.dates e low (omega (arith, signed, less)) in
    let end-is : period_end r.frequency r.week_start e ≡ past = same_end r.frequency r.week_start c.args.day e low (omega (arith, signed, less, c.requires.end)) date ∙ omega (arith, signed, c.requires.end) in
    let count : place ≡ count_between p e past = counted-back p e (c.args.day +ℤ later) past c.loop-later.place place inv.count c.and_later-place.ensures.value less (omega (arith, signed, at)) in
    let named = nat_lt c.loop-later.place place && has r.positions_from_end place in
    let is : x ≡ cond named next first = omega (arith, signed, c.earlier_named-first.ensures) in
    let bounds = chosen named x next first end is (omega (arith, signed, at, inv.order)) inv.high in
    record {
      low = omega (arith, signed, at, test);
      order = bounds.0;
      high = bounds.1;
      count = count;
      few = omega (arith, signed, at, inv.few, c.and_later-place.ensures.step);
      none = λ d above below. from_chosen r c.args.start c.args.day d e next first x named is refl above below
          (λ none. off_day_back r c.args.start e past c.loop-later.place place (p e) refl date c.requires.some (c.requires.front e low (omega (arith, signed, less))) end-is count c.and_later-place.ensures.value none)
          (λ d lt under. inv.none d (omega (arith, signed, at, lt)) under);
    }

pub returns-then-place-last-clause-passed : goal.returns-then-place-last-clause-passed
returns-then-place-last-clause-passed c = λ d low high.
    let r = c.args.self.now in
    let p = date_passes r c.args.start in
    let inv = c.loop-later.invariant in
    let later : ℤ = to_z w64 c.loop-later.later-bits in
    let end : ℤ = to_z w64 (of_z w64 c.args.end) in
    let past : ℤ = c.args.day +ℤ end in
    let less : d <ℤ past = omega (arith, signed, high, inv.high) in
    let date : IsDate d = c.requires.dates d low (omega (arith, signed, less)) in
    let end-is : period_end r.frequency r.week_start d ≡ past = same_end r.frequency r.week_start c.args.day d low (omega (arith, signed, less, c.requires.end)) date ∙ omega (arith, signed, c.requires.end) in
    by_lt_z d (c.args.day +ℤ later)
    (λ lt.
    before_places r c.args.start d (c.args.day +ℤ later) past c.loop-later.place c.last_place-last.result (p d) refl date c.requires.some (c.requires.front d low (omega (arith, signed, less))) end-is
    lt (omega (arith, signed, inv.order, inv.high)) inv.count c.if-place-last.true c.last_place-last.ensures.none)
    (λ ge. inv.none d ge high)

pub returns-clause-passed : goal.returns-clause-passed
returns-clause-passed c = λ d low high.
    c.loop-later.invariant.none d (omega (arith, signed, low, c.loop-later.invariant.low, c.loop-later-test.false)) high
