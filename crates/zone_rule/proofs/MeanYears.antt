-- Changes by mean years.
use Rattle.std.proofs.Common.{◌≡◌, ℕ, ◌+◌, ◌<◌, ℤ, pos, neg_ℤ, ◌+ℤ◌, ◌-ℤ◌, ◌*ℤ◌, ◌≤ℤ◌, ◌<ℤ◌, Bool, true, false, not, int_le, unsigned_abs, to_z, of_z, w32, w64, SFits, ◌⊎◌, ⊎_elim, refl, sym, ap, ◌∙◌, arith}
use Rattle.std.specs.Int.{int_div_euclid, int_min, int_rem_euclid}
use Rattle.std.proofs.lemmas.Bool.{true≢false}
use Rattle.std.proofs.lemmas.Int.{by_lt_z, int_min_is, to_z-of_z}
use Rattle.chrono_units.specs.Years.{IsYear}
use Rattle.chrono_clock.proofs.TimeLemmas.{int_le-above, int_le-below}
use Rattle.chrono_calendar.specs.Days.{days_before_year}
use Rattle.chrono_calendar.proofs.Signed.{casts, signed}
use Rattle.chrono_calendar.proofs.Years.{days_before_year-closed}
use Rattle.chrono_zoned.specs.Offsets.{IsOffset}
use Rattle.zone_rule.specs.Changes.{IsChange, LiesWithin, YearlyChange, change_second, day_in_year, last_by, window_high, window_low, year_of_second}
use Rattle.zone_rule.specs.Private.{ComesWithin, IsLastOfTwo}
use Rattle.zone_rule.specs.RuleDays.{days_later, least_place}
use Rattle.zone_rule.specs.Rules.{is_daylight}
use Rattle.zone_rule.specs.declared.mean_year.Past.{Past}
use Rattle.zone_rule.specs.declared.rule.Daylight.{Daylight}
use Rattle.zone_rule.proofs.Carried.{carried, fits}
use Rattle.zone_rule.proofs.Holds.{told, told_not}
use Rattle.zone_rule.proofs.LastChanges.{last_by-some}
use Rattle.zone_rule.proofs.LastOfAll.{behind, change_second-later, last_change}

-- a calendar year begins near its mean year
begins_behind : (n : ℤ) → (n *ℤ pos 31_556_952 -ℤ pos 109_296) ≤ℤ ((days_before_year (pos 1_970 +ℤ n) -ℤ pos 719_162) *ℤ pos 86_400)
begins_behind n = let closed = days_before_year-closed (pos 1_970 +ℤ n) in omega (arith, signed, closed)

begins_before : (n : ℤ) → ((days_before_year (pos 1_970 +ℤ n) -ℤ pos 719_162) *ℤ pos 86_400) ≤ℤ (n *ℤ pos 31_556_952 +ℤ pos 127_224)
begins_before n = let closed = days_before_year-closed (pos 1_970 +ℤ n) in omega (arith, signed, closed)

near_year : (n : ℤ) → neg_ℤ (pos 70) ≤ℤ n → n ≤ℤ pos 530 → IsYear (pos 1_970 +ℤ n)
near_year n low high = omega (arith, signed, low, high)

-- so a change comes between two seconds of it, as its day lies between two places
pub lies_within : (offset : ℤ) (c : YearlyChange) (least most : ℕ) (low high : ℤ) → ((y : ℤ) → IsYear y → (days_before_year y +ℤ pos least) ≤ℤ day_in_year y c.day) → ((y : ℤ) → IsYear y → day_in_year y c.day ≤ℤ (days_before_year y +ℤ pos most)) → low ≡ ((pos least -ℤ pos 1) *ℤ pos 86_400 +ℤ c.second -ℤ offset -ℤ pos 109_296) → high ≡ ((pos most -ℤ pos 1) *ℤ pos 86_400 +ℤ c.second -ℤ offset +ℤ pos 127_224) → LiesWithin (change_second offset c) low high
lies_within offset c least most low high from to is_low is_high = record {
  not_before = λ n after before.
      let first = from (pos 1_970 +ℤ n) (near_year n after before) in
      let begins = begins_behind n in
      omega (arith, signed, first, begins, is_low);
  not_behind = λ n after before.
      let last = to (pos 1_970 +ℤ n) (near_year n after before) in
      let begins = begins_before n in
      omega (arith, signed, last, begins, is_high);
}

-- and so by any other clock
pub lies_ahead : (offset : ℤ) (c : YearlyChange) (low high l h : ℤ) → LiesWithin (change_second (pos 0) c) low high → l ≡ low -ℤ offset → h ≡ high -ℤ offset → LiesWithin (change_second offset c) l h
lies_ahead offset c low high l h lies is_l is_h = record {
  not_before = λ n after before. omega (arith, signed, lies.not_before n after before, is_l);
  not_behind = λ n after before. omega (arith, signed, lies.not_behind n after before, is_h);
}

pub window_low-is : (c : YearlyChange) → window_low c ≡ ((pos (least_place c.day) -ℤ pos 1) *ℤ pos 86_400 +ℤ c.second -ℤ pos 109_296)
unfolding window_low
window_low-is c = refl

pub window_high-is : (c : YearlyChange) → window_high c ≡ ((pos (least_place c.day + days_later c.day) -ℤ pos 1) *ℤ pos 86_400 +ℤ c.second +ℤ pos 127_224)
unfolding window_high
window_high-is c = refl

-- of a second the mean year's number tells which change it is
pub comes_within : (f : ℤ → ℤ) (second place low high k : ℤ) (p : Past) → LiesWithin f low high → pos 0 ≤ℤ second → second ≤ℤ pos 12_622_867_200 → place ≡ int_rem_euclid second (pos 31_556_952) → pos 0 ≤ℤ k → k ≤ℤ pos 1 → p.low ≡ low -ℤ k *ℤ pos 31_556_952 → p.high ≡ high -ℤ k *ℤ pos 31_556_952 → p.year ≡ pos 1_970 +ℤ int_div_euclid second (pos 31_556_952) -ℤ k → ComesWithin f (second -ℤ place) p
comes_within f second place low high k p lies first last at least most is_l is_h is_y =
    let n : ℤ = int_div_euclid second (pos 31_556_952) -ℤ k in
    let begin : (second -ℤ place) ≡ int_div_euclid second (pos 31_556_952) *ℤ pos 31_556_952 = omega (arith, signed, at) in
    let after : neg_ℤ (pos 70) ≤ℤ n = omega (arith, signed, first, most) in
    let before : n ≤ℤ pos 500 = omega (arith, signed, last, least) in
    let not_before = lies.not_before n after (omega (arith, signed, before)) in
    let not_behind = lies.not_behind n after (omega (arith, signed, before)) in
    let next = lies.not_before (n +ℤ pos 1) (omega (arith, signed, after)) (omega (arith, signed, before)) in
    let next_behind = lies.not_behind (n +ℤ pos 1) (omega (arith, signed, after)) (omega (arith, signed, before)) in
    let again = lies.not_before (n +ℤ pos 2) (omega (arith, signed, after)) (omega (arith, signed, before)) in
    let same : f (pos 1_970 +ℤ n) ≡ f p.year = ap f (omega (arith, signed, is_y)) in
    let same_next : f (pos 1_970 +ℤ (n +ℤ pos 1)) ≡ f (p.year +ℤ pos 1) = ap f (omega (arith, signed, is_y)) in
    let same_again : f (pos 1_970 +ℤ (n +ℤ pos 2)) ≡ f (p.year +ℤ pos 1 +ℤ pos 1) = ap f (omega (arith, signed, is_y)) in
    record {
      not_before = omega (arith, signed, begin, is_l, not_before, same);
      not_behind = omega (arith, signed, begin, is_h, not_behind, same);
      next = omega (arith, signed, begin, is_l, next, same_next);
      next_behind = omega (arith, signed, begin, is_h, next_behind, same_next);
      again = omega (arith, signed, begin, is_l, again, same_again);
    }

-- the change is the last one of all by each second from there on until the next one may come
known_last : (offset : ℤ) (c : YearlyChange) (u y : ℤ) → IsChange c → IsOffset offset → change_second offset c y ≤ℤ u → u <ℤ change_second offset c (y +ℤ pos 1) → last_by (change_second offset c) (year_of_second u) u ≡ change_second offset c y
known_last offset c u y is near come next =
    let f : ℤ → ℤ = change_second offset c in
    let now : ℤ = last_by f (year_of_second u) u in
    let last = last_change offset c u is near in
    let front : now ≤ℤ f y = last_by-some f (year_of_second u) u (λ (x : ℤ). x ≤ℤ u → x ≤ℤ f y) (λ w by. behind f (λ z. change_second-later offset c z is.day) y u next w by) last.0 in
    let back : f y ≤ℤ now = last.1 y come in
    omega (arith, signed, front, back)

-- ---- so daylight time holds, or does not

pub of_two : (offset : ℤ) (d : Daylight) (u : ℤ) (b : Bool) → IsChange d.begins → IsChange d.ends → IsOffset offset → IsOffset d.offset → IsLastOfTwo (change_second offset d.begins) (change_second d.offset d.ends) u b → is_daylight offset d u ≡ b
unfolding is_daylight
of_two offset d u b is_begin is_end near far last =
    let begun = known_last offset d.begins u last.y is_begin near last.first.0 last.first.1 in
    let ended = known_last d.offset d.ends u last.z is_end far last.other.0 last.other.1 in
    rw (begun, ended) (sym (told b (change_second offset d.begins last.y) (change_second d.offset d.ends last.z) last.behind last.before))

pub of_two_ended : (offset : ℤ) (d : Daylight) (u : ℤ) (b : Bool) → IsChange d.begins → IsChange d.ends → IsOffset offset → IsOffset d.offset → IsLastOfTwo (change_second d.offset d.ends) (change_second offset d.begins) u b → is_daylight offset d u ≡ not b
unfolding is_daylight
of_two_ended offset d u b is_begin is_end near far last =
    let begun = known_last offset d.begins u last.z is_begin near last.other.0 last.other.1 in
    let ended = known_last d.offset d.ends u last.y is_end far last.first.0 last.first.1 in
    rw (begun, ended) (sym (told_not b (change_second offset d.begins last.z) (change_second d.offset d.ends last.y) last.behind last.before))

pub daylight_far : (offset : ℤ) (d : Daylight) (begin u : ℤ) (b e : Past) → IsChange d.begins → IsChange d.ends → IsOffset offset → IsOffset d.offset → ComesWithin (change_second offset d.begins) begin b → ComesWithin (change_second d.offset d.ends) begin e → (begin +ℤ b.high) ≤ℤ u → (begin +ℤ e.high) ≤ℤ u → u <ℤ (begin +ℤ b.low +ℤ pos 31_556_952) → u <ℤ (begin +ℤ e.low +ℤ pos 31_556_952) → e.high ≤ℤ b.low → is_daylight offset d u ≡ true
unfolding is_daylight
daylight_far offset d begin u b e is_begin is_end near far begins ends begun ended by_begin by_end order =
    let last_b = known_last offset d.begins u b.year is_begin near (omega (arith, signed, begins.not_behind, begun)) (omega (arith, signed, begins.next, by_begin)) in
    let last_e = known_last d.offset d.ends u e.year is_end far (omega (arith, signed, ends.not_behind, ended)) (omega (arith, signed, ends.next, by_end)) in
    rw (last_b, last_e) (int_le-below (change_second d.offset d.ends e.year) (change_second offset d.begins b.year) (omega (arith, signed, ends.not_behind, begins.not_before, order)))

pub standard_far : (offset : ℤ) (d : Daylight) (begin u : ℤ) (b e : Past) → IsChange d.begins → IsChange d.ends → IsOffset offset → IsOffset d.offset → ComesWithin (change_second offset d.begins) begin b → ComesWithin (change_second d.offset d.ends) begin e → (begin +ℤ b.high) ≤ℤ u → (begin +ℤ e.high) ≤ℤ u → u <ℤ (begin +ℤ b.low +ℤ pos 31_556_952) → u <ℤ (begin +ℤ e.low +ℤ pos 31_556_952) → b.high <ℤ e.low → is_daylight offset d u ≡ false
unfolding is_daylight
standard_far offset d begin u b e is_begin is_end near far begins ends begun ended by_begin by_end order =
    let last_b = known_last offset d.begins u b.year is_begin near (omega (arith, signed, begins.not_behind, begun)) (omega (arith, signed, begins.next, by_begin)) in
    let last_e = known_last d.offset d.ends u e.year is_end far (omega (arith, signed, ends.not_behind, ended)) (omega (arith, signed, ends.next, by_end)) in
    rw (last_b, last_e) (int_le-above (change_second d.offset d.ends e.year) (change_second offset d.begins b.year) (omega (arith, signed, begins.not_behind, ends.not_before, order)))

pub holds_far : (offset : ℤ) (d : Daylight) (second place begin m u : ℤ) (b e : Past) → IsChange d.begins → IsChange d.ends → IsOffset offset → IsOffset d.offset → begin ≡ second -ℤ place → ComesWithin (change_second offset d.begins) begin b → ComesWithin (change_second d.offset d.ends) begin e → b.high ≤ℤ place → e.high ≤ℤ place → m ≤ℤ b.low → m ≤ℤ e.low → second ≤ℤ u → u <ℤ (second +ℤ (m +ℤ pos 31_556_952 -ℤ place)) → (e.high ≤ℤ b.low) ⊎ (b.high <ℤ e.low) → is_daylight offset d u ≡ int_le e.high b.low
holds_far offset d second place begin m u b e is_begin is_end near far is begins ends begun ended by_b by_e from to order =
    let after_b : (begin +ℤ b.high) ≤ℤ u = omega (arith, signed, is, begun, from) in
    let after_e : (begin +ℤ e.high) ≤ℤ u = omega (arith, signed, is, ended, from) in
    let before_b : u <ℤ (begin +ℤ b.low +ℤ pos 31_556_952) = omega (arith, signed, is, by_b, to) in
    let before_e : u <ℤ (begin +ℤ e.low +ℤ pos 31_556_952) = omega (arith, signed, is, by_e, to) in
    by_lt_z b.low e.high
    (λ (above : b.low <ℤ e.high).
    let apart : b.high <ℤ e.low = ⊎_elim (λ below. absurd (omega (arith, signed, above, below))) (λ lt. lt) order in
    standard_far offset d begin u b e is_begin is_end near far begins ends after_b after_e before_b before_e apart ∙ sym (int_le-above e.high b.low above))
    (λ (below : e.high ≤ℤ b.low). daylight_far offset d begin u b e is_begin is_end near far begins ends after_b after_e before_b before_e below ∙ sym (int_le-below e.high b.low below))

-- ---- near the next one of two changes

pub not_come : (f g : ℤ → ℤ) (second place u : ℤ) (p q : Past) → ComesWithin f (second -ℤ place) p → ComesWithin g (second -ℤ place) q → p.high ≤ℤ place → q.high ≤ℤ place → p.high <ℤ q.low → second ≤ℤ u → u <ℤ f (p.year +ℤ pos 1) → IsLastOfTwo f g u false
not_come f g second place u p q comes other come behind order from by = record {
  y = p.year;
  z = q.year;
  first = (omega (arith, signed, comes.not_behind, come, from), by);
  other = (omega (arith, signed, other.not_behind, behind, from), omega (arith, signed, other.next, comes.next_behind, order, by));
  behind = λ (e : false ≡ true). absurd (true≢false (sym e));
  before = λ (e : false ≡ false). omega (arith, signed, comes.not_behind, other.not_before, order);
}

pub has_come : (f g : ℤ → ℤ) (second place u : ℤ) (p q : Past) → ComesWithin f (second -ℤ place) p → ComesWithin g (second -ℤ place) q → q.high ≤ℤ place → q.high <ℤ (p.low +ℤ pos 31_556_952) → f (p.year +ℤ pos 1) ≤ℤ second → second ≤ℤ u → u <ℤ (second -ℤ place +ℤ q.low +ℤ pos 31_556_952) → IsLastOfTwo f g u true
has_come f g second place u p q comes other behind order come from by = record {
  y = p.year +ℤ pos 1;
  z = q.year;
  first = (omega (arith, signed, come, from), omega (arith, signed, comes.again, other.not_before, other.not_behind, order, by));
  other = (omega (arith, signed, other.not_behind, behind, from), omega (arith, signed, other.next, by));
  behind = λ (e : true ≡ true). omega (arith, signed, comes.next, other.not_behind, order);
  before = λ (e : true ≡ false). absurd (true≢false e);
}

pub year_is : (y : ℤ) → pos 1_969 ≤ℤ y → y ≤ℤ pos 2_370 → to_z w32 (of_z w32 (to_z w32 (of_z w32 y) +ℤ pos 1)) ≡ y +ℤ pos 1
year_is y low high = omega (arith, casts, low, high)

pub year_before : (y q : ℤ) → pos 1_970 ≤ℤ y → y ≤ℤ pos 2_370 → y ≡ q → to_z w32 (of_z w32 (to_z w32 (of_z w32 y) -ℤ pos 1)) ≡ q -ℤ pos 1
year_before y q low high is = omega (arith, casts, low, high, is)

pub year_kept : (y q : ℤ) → pos 1_970 ≤ℤ y → y ≤ℤ pos 2_370 → y ≡ q → to_z w32 (of_z w32 y) ≡ q -ℤ pos 0
year_kept y q low high is = omega (arith, casts, low, high, is)

pub again_is : (s p l second place low : ℤ) → s ≡ second → p ≡ place → l ≡ low → (s -ℤ p +ℤ l +ℤ pos 31_556_952) ≡ (second -ℤ place +ℤ low +ℤ pos 31_556_952)
again_is s p l second place low is at from = omega (arith, signed, is, at, from)

-- ---- the wait in numbers that fit

pub sum_is : (m : ℤ) → SFits w64 m → unsigned_abs m < 80_000_000 → to_z w64 (of_z w64 (to_z w64 (of_z w64 m) +ℤ pos 31_556_952)) ≡ m +ℤ pos 31_556_952
sum_is m fit near = carried (to_z w64 (of_z w64 m) +ℤ pos 31_556_952) (m +ℤ pos 31_556_952) (ap (λ (z : ℤ). z +ℤ pos 31_556_952) (to_z-of_z w64 m fit)) (omega (arith, signed, near))

pub sum_fits : (m : ℤ) → SFits w64 m → unsigned_abs m < 80_000_000 → SFits w64 (to_z w64 (of_z w64 m) +ℤ pos 31_556_952)
sum_fits m fit near = let is = to_z-of_z w64 m fit in fits (to_z w64 (of_z w64 m) +ℤ pos 31_556_952) (omega (arith, signed, near, is))

pub wait_fits : (m p : ℤ) → SFits w64 m → SFits w64 p → unsigned_abs m < 80_000_000 → pos 0 ≤ℤ p → p <ℤ pos 31_556_952 → SFits w64 (to_z w64 (of_z w64 (to_z w64 (of_z w64 m) +ℤ pos 31_556_952)) -ℤ to_z w64 (of_z w64 p))
wait_fits m p fit here near low high =
    let is = sum_is m fit near in
    let at = to_z-of_z w64 p here in
    fits (to_z w64 (of_z w64 (to_z w64 (of_z w64 m) +ℤ pos 31_556_952)) -ℤ to_z w64 (of_z w64 p)) (omega (arith, signed, is, at, near, low, high))

pub wait_is : (m p : ℤ) → SFits w64 m → SFits w64 p → unsigned_abs m < 80_000_000 → pos 0 ≤ℤ p → p <ℤ pos 31_556_952 → to_z w64 (of_z w64 (to_z w64 (of_z w64 (to_z w64 (of_z w64 m) +ℤ pos 31_556_952)) -ℤ to_z w64 (of_z w64 p))) ≡ m +ℤ pos 31_556_952 -ℤ p
wait_is m p fit here near low high =
    carried (to_z w64 (of_z w64 (to_z w64 (of_z w64 m) +ℤ pos 31_556_952)) -ℤ to_z w64 (of_z w64 p)) (m +ℤ pos 31_556_952 -ℤ p)
    (ap (λ (z : ℤ). z -ℤ to_z w64 (of_z w64 p)) (sum_is m fit near) ∙ ap (λ (z : ℤ). m +ℤ pos 31_556_952 -ℤ z) (to_z-of_z w64 p here))
    (omega (arith, signed, near, low, high))

pub small : (x : ℤ) → unsigned_abs x < 80_000_000 → SFits w64 x
small x h = fits x (omega (arith, h))

pub kept : (x : ℤ) → unsigned_abs x < 80_000_000 → to_z w64 (of_z w64 x) ≡ x
kept x h = to_z-of_z w64 x (small x h)

pub least_is : (m b e : ℤ) → SFits w64 m → unsigned_abs b < 80_000_000 → unsigned_abs e < 80_000_000 → m ≡ int_min (to_z w64 (of_z w64 b)) (to_z w64 (of_z w64 e)) → (unsigned_abs m < 80_000_000) × (m ≤ℤ b) × (m ≤ℤ e)
least_is m b e fit near far is =
    let at_b = kept b near in
    let at_e = kept e far in
    let bounds = int_min_is (to_z w64 (of_z w64 b)) (to_z w64 (of_z w64 e)) in
    (omega (arith, signed, is, at_b, at_e, bounds, near, far), omega (arith, signed, is, at_b, bounds), omega (arith, signed, is, at_e, bounds))

pub is_short : (wait m p : ℤ) → wait ≡ m +ℤ pos 31_556_952 -ℤ p → unsigned_abs m < 80_000_000 → pos 0 ≤ℤ p → wait ≤ℤ pos 120_000_000
is_short wait m p is near low = omega (arith, signed, is, near, low)
