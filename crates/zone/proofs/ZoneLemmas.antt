-- Which of a zone's two clocks shows a local time.
use Rattle.std.proofs.Common.{◌≡◌, ◌↔◌, ℕ, ◌+◌, ◌-◌, ◌<◌, ◌≤◌, ℤ, pos, ◌+ℤ◌, ◌≤ℤ◌, ◌<ℤ◌, true, false, int_le, List, length, inl, inr, refl, sym, ap, ◌∙◌, arith}
use Rattle.std.specs.Prelude.{◌⊎◌, None, Option, Some}
use Rattle.std.proofs.lemmas.Bool.{both_ways, cond_both}
use Rattle.std.proofs.lemmas.Bool.Decides.{leb_tells, nat_tests}
use Rattle.std.proofs.lemmas.Int.{by_lt_z, int_min_is, ints}
use Rattle.chrono_zoned.specs.Offsets.{IsOffset}
use Rattle.chrono_zoned.specs.Zones.{HoldsUntil, IsMapped, Shows}
use Rattle.chrono_zoned.specs.declared.mapped_local_time.MappedLocalTime.{MappedLocalTime}
use Rattle.chrono_zoned.specs.declared.mapped_local_time.MappedLocalTime.TheVariants.{None as NoInstant, Single, Ambiguous}
use Rattle.zone_rule.specs.Rules.{IsSetAt, rule_offset}
use Rattle.zone_rule.specs.declared.rule.ZoneRule.{ZoneRule}
use Rattle.zone_table.specs.Sequence.{Come, IsRising, come_by, local_start}
use Rattle.zone_table.specs.Table.{BeginsAt, IsTable, offset_after, row_at, row_second, table_offset}
use Rattle.zone_table.specs.declared.row.Row.{Row}
use Rattle.zone_table.proofs.LocalTimes.{mapped_after, seconds_rise, starts_rise}
use Rattle.zone_table.proofs.SequenceLemmas.{IsRising-le, come_by-Come}
use Rattle.zone_table.proofs.TableLemmas.{offset_after-some}
use Rattle.zone.specs.Parts.{IsSetBehind, KeepsOffset, is_behind, last_row, offset_with}
use Rattle.zone.specs.Private.{ShowAlike}

-- clocks that show a local time at the same instants have the same offsets there
pub mapped_alike : (f g : ℤ → ℤ) (l : ℤ) (m : MappedLocalTime ℤ) → ShowAlike f g l → IsMapped f l m → IsMapped g l m
mapped_alike f g l NoInstant alike mapped = λ u shows. mapped u ((alike u).1 shows)
mapped_alike f g l (Single x) alike mapped = λ u. ((λ shows. (mapped u).0 ((alike u).1 shows)), (λ is. (alike u).0 ((mapped u).1 is)))
mapped_alike f g l (Ambiguous x y) alike mapped = (mapped.0, λ u. ((λ shows. (mapped.1 u).0 ((alike u).1 shows)), (λ is. (alike u).0 ((mapped.1 u).1 is))))

same_shows : (f g : ℤ → ℤ) (l u : ℤ) → f u ≡ g u → Shows f l u ↔ Shows g l u
same_shows f g l u e = ((λ shows. ap (λ (x : ℤ). u +ℤ x) (sym e) ∙ shows), (λ shows. ap (λ (x : ℤ). u +ℤ x) e ∙ shows))

-- ---- whether a second lies behind the rows

all_come : (rows : List Row) → IsRising (row_second rows) (length rows) → (u : ℤ) → (0 < length rows → (last_row rows).second ≤ℤ u) → come_by (row_second rows) (length rows) u ≡ length rows
all_come rows up u last =
    let n : ℕ = length rows in
    let c : ℕ = come_by (row_second rows) n u in
    let at : Come (row_second rows) n u c = come_by-Come (row_second rows) n up u in
    let bound = at.bound in
    elim (leb_tells n c) [
      | inl most ↦ omega (arith, bound, most.1)
      | inr less ↦
          let next = at.later c (omega arith) less.1 in
          let rise = IsRising-le (row_second rows) n up c (n - 1) (omega (arith, less.1)) (omega (arith, less.1)) in
          let come = last (omega (arith, less.1)) in
          absurd (omega (arith, ints, next, rise, come))
    ]

pub is_behind-come : (rows : List Row) → IsRising (row_second rows) (length rows) → (u : ℤ) → (0 < length rows → (last_row rows).second ≤ℤ u) → is_behind rows u ≡ true
is_behind-come rows up u last = let all = all_come rows up u last in grind (arith, nat_tests)

pub is_behind-later : (rows : List Row) → IsRising (row_second rows) (length rows) → (u : ℤ) → 0 < length rows → u <ℤ (last_row rows).second → is_behind rows u ≡ false
is_behind-later rows up u some later =
    let n : ℕ = length rows in
    let at : Come (row_second rows) n u (come_by (row_second rows) n u) = come_by-Come (row_second rows) n up u in
    let bound = at.bound in
    elim (leb_tells n (come_by (row_second rows) n u)) [
      | inl most ↦ let come = at.come (n - 1) (omega (arith, most.1, some)) in absurd (omega (arith, ints, come, later))
      | inr less ↦ let fewer = less.1 in grind (arith, nat_tests)
    ]

pub behind_test : (rows : List Row) → IsRising (row_second rows) (length rows) → (s u v : ℤ) → 0 < length rows → s ≡ (last_row rows).second → v ≡ u → int_le s v ≡ is_behind rows u
behind_test rows up s u v some at here = by_lt_z u s
    (λ (later : u <ℤ s). let test : int_le s v ≡ false = grind (arith, ints) in test ∙ sym (is_behind-later rows up u some (omega (arith, ints, later, at))))
    (λ (come : s ≤ℤ u). let test : int_le s v ≡ true = grind (arith, ints) in test ∙ sym (is_behind-come rows up u (λ _. omega (arith, ints, come, at))))

pub by_rule : (first : ℤ) (rows : List Row) (r : ZoneRule) (u : ℤ) → is_behind rows u ≡ true → rule_offset r u ≡ offset_with first rows (Some r) u
by_rule first rows r u h = rw h refl

pub by_rows : (first : ℤ) (rows : List Row) (r : ZoneRule) (u : ℤ) → is_behind rows u ≡ false → table_offset first rows u ≡ offset_with first rows (Some r) u
by_rows first rows r u h = rw h refl

-- behind the last row its offset holds
last_holds : (first : ℤ) (rows : List Row) → IsRising (row_second rows) (length rows) → (u : ℤ) → 0 < length rows → (last_row rows).second ≤ℤ u → table_offset first rows u ≡ (last_row rows).offset
last_holds first rows up u some come =
    ap (offset_after first rows) (all_come rows up u (λ _. come)) ∙ offset_after-some first rows (length rows) some

-- ---- a local second that some clock may show before the last row stands in the table

pub show_by_rows : (first : ℤ) (rows : List Row) (r : ZoneRule) (l : ℤ) → IsTable first rows → 0 < length rows → KeepsOffset (last_row rows) r → ((u : ℤ) → IsOffset (rule_offset r u)) → l <ℤ ((last_row rows).second +ℤ pos 86_400) → ShowAlike (table_offset first rows) (offset_with first rows (Some r)) l
show_by_rows first rows r l table some keeps near before u =
    let t : ℤ = (last_row rows).second in
    let up = seconds_rise (row_second rows) (offset_after first rows) (length rows) table in
    by_lt_z u t
    (λ (early : u <ℤ t). same_shows (table_offset first rows) (offset_with first rows (Some r)) l u (by_rows first rows r u (is_behind-later rows up u some early)))
    (λ (come : t ≤ℤ u).
    let held = last_holds first rows up u some come in
    let ruled = by_rule first rows r u (is_behind-come rows up u (λ _. come)) in
    by_lt_z (t +ℤ pos 172_800) u
    (λ (far : (t +ℤ pos 172_800) <ℤ u).
    let near_here = near u in
    let near_row = near t in
    let kept = keeps t (record { from = omega (arith, ints); to = omega (arith, ints) }) in (
      (λ shows. absurd (omega (arith, ints, shows, held, near_row, kept, far, before))),
      (λ shows. absurd (omega (arith, ints, shows, ruled, near_here, far, before))),
    ))
    (λ (soon : u ≤ℤ (t +ℤ pos 172_800)).
    same_shows (table_offset first rows) (offset_with first rows (Some r)) l u (held ∙ sym (keeps u (record { from = come; to = soon })) ∙ ruled)))

-- ---- and one that no clock shows before the last row is the rule's

no_row_shows : (first : ℤ) (rows : List Row) (l u : ℤ) → IsTable first rows → 0 < length rows → ((last_row rows).second +ℤ offset_after first rows (length rows - 1)) ≤ℤ l → ((last_row rows).second +ℤ (last_row rows).offset) ≤ℤ l → u <ℤ (last_row rows).second → Shows (table_offset first rows) l u → ⊥
no_row_shows first rows l u table some before after early shows =
    let n : ℕ = length rows in
    let j : ℕ = n - 1 in
    let second : ℕ → ℤ = row_second rows in
    let ahead : ℕ → ℤ = offset_after first rows in
    let last : ahead (j + 1) ≡ (last_row rows).offset = offset_after-some first rows (j + 1) (omega arith) ∙ ap (λ (k : ℕ). (row_at rows k).offset) (omega arith) in
    let low : local_start second ahead j ≤ℤ l = omega (arith, ints, int_min_is (ahead j) (ahead (j + 1)), before) in
    let mapped = mapped_after second ahead n l j table (record {
      bound = omega (arith, some);
      come = λ i lt. let rise = IsRising-le (local_start second ahead) n (starts_rise second ahead n table) i j (omega (arith, lt)) (omega (arith, some)) in omega (arith, ints, rise, low);
      later = λ i le lt. absurd (omega (arith, le, lt));
    }) (omega (arith, ints, last, after)) before in
    let is = (mapped u).0 shows in
    absurd (omega (arith, ints, is, last, after, early))

pub show_by_rule : (first : ℤ) (rows : List Row) (r : ZoneRule) (l most : ℤ) → IsTable first rows → (0 < length rows → ((u : ℤ) → rule_offset r u ≤ℤ most) × (offset_after first rows (length rows - 1) ≤ℤ most) × ((last_row rows).offset ≤ℤ most) × (((last_row rows).second +ℤ most) ≤ℤ l)) → ShowAlike (rule_offset r) (offset_with first rows (Some r)) l
show_by_rule first rows r l most table bounds u =
    let t : ℤ = (last_row rows).second in
    let up = seconds_rise (row_second rows) (offset_after first rows) (length rows) table in
    elim (leb_tells (length rows) 0) [
      | inl none ↦ same_shows (rule_offset r) (offset_with first rows (Some r)) l u (by_rule first rows r u (is_behind-come rows up u (λ some. absurd (omega (arith, some, none.1)))))
      | inr some ↦
          let h = bounds some.1 in
          by_lt_z u t
          (λ (early : u <ℤ t).
          let ruled = h.0 u in
          let rowed = by_rows first rows r u (is_behind-later rows up u some.1 early) in
          let before = h.1 in
          let after = h.2 in
          let by = h.3 in (
            (λ shows. absurd (omega (arith, ints, shows, ruled, by, early))),
            (λ shows. absurd (no_row_shows first rows l u table some.1 (omega (arith, ints, before, by)) (omega (arith, ints, after, by)) early (ap (λ (x : ℤ). u +ℤ x) rowed ∙ shows))),
          ))
          (λ (come : t ≤ℤ u). same_shows (rule_offset r) (offset_with first rows (Some r)) l u (by_rule first rows r u (is_behind-come rows up u (λ _. come))))
    ]

-- ---- how long an offset of a zone holds

-- behind the rows as long as the rule's
pub holds_behind : (first : ℤ) (rows : List Row) (r : ZoneRule) (s t : ℤ) → IsTable first rows → is_behind rows s ≡ true → HoldsUntil (rule_offset r) s t → HoldsUntil (offset_with first rows (Some r)) s t
holds_behind first rows r s t table behind holds u from to =
    let up = seconds_rise (row_second rows) (offset_after first rows) (length rows) table in
    let come : 0 < length rows → (last_row rows).second ≤ℤ u = λ some.
    by_lt_z s (last_row rows).second
    (λ (early : s <ℤ (last_row rows).second). absurd (both_ways (is_behind rows s) (is_behind-later rows up s some early) behind))
    (λ (late : (last_row rows).second ≤ℤ s). omega (arith, ints, late, from)) in
    sym (by_rule first rows r u (is_behind-come rows up u come)) ∙ holds u from to ∙ by_rule first rows r s behind

-- in front of the last row as long as the table's
pub holds_before : (first : ℤ) (rows : List Row) (r : ZoneRule) (s t : ℤ) → IsTable first rows → is_behind rows s ≡ false → HoldsUntil (table_offset first rows) s t → ((k : ℕ) → k < length rows → s <ℤ row_second rows k → t ≤ℤ row_second rows k) → HoldsUntil (offset_with first rows (Some r)) s t
holds_before first rows r s t table front holds by u from to =
    let up = seconds_rise (row_second rows) (offset_after first rows) (length rows) table in
    elim (leb_tells (length rows) 0) [
      | inl none ↦ absurd (both_ways (is_behind rows s) front (is_behind-come rows up s (λ some. absurd (omega (arith, some, none.1)))))
      | inr some ↦
          let early : s <ℤ (last_row rows).second = by_lt_z s (last_row rows).second (λ (lt : s <ℤ (last_row rows).second). lt)
          (λ (come : (last_row rows).second ≤ℤ s). absurd (both_ways (is_behind rows s) front (is_behind-come rows up s (λ _. come)))) in
          let end : t ≤ℤ (last_row rows).second = by (length rows - 1) (omega (arith, some.1)) early in
          sym (by_rows first rows r u (is_behind-later rows up u some.1 (omega (arith, ints, to, end)))) ∙ holds u from to ∙ by_rows first rows r s front
    ]

-- ---- the seconds at which a zone sets its clock

-- behind the rows, where all have begun
come_behind : (first : ℤ) (rows : List Row) (s : ℤ) → IsTable first rows → is_behind rows s ≡ true → 0 < length rows → (last_row rows).second ≤ℤ s
come_behind first rows s table behind some =
    let up = seconds_rise (row_second rows) (offset_after first rows) (length rows) table in
    by_lt_z s (last_row rows).second
    (λ (early : s <ℤ (last_row rows).second). absurd (both_ways (is_behind rows s) (is_behind-later rows up s some early) behind))
    (λ (late : (last_row rows).second ≤ℤ s). late)

-- the first is the rule's
pub first_behind : (first : ℤ) (rows : List Row) (r : ZoneRule) (s until : ℤ) → IsTable first rows → is_behind rows s ≡ true → ((t : ℤ) → IsSetAt r t → s <ℤ t → until ≤ℤ t) → (t : ℤ) → BeginsAt rows t ⊎ IsSetBehind rows (Some r) t → s <ℤ t → until ≤ℤ t
first_behind first rows r s until table behind next t (inl row) later =
    let up = seconds_rise (row_second rows) (offset_after first rows) (length rows) table in
    let lt = row.1 in
    let begins = row.2 in
    let rise = IsRising-le (row_second rows) (length rows) up row.0 (length rows - 1) (omega (arith, lt)) (omega (arith, lt)) in
    let come = come_behind first rows s table behind (omega (arith, lt)) in
    absurd (omega (arith, ints, begins, rise, come, later))
first_behind first rows r s until table behind next t (inr set) later = next t set.1 later

pub end_behind : (first : ℤ) (rows : List Row) (r : ZoneRule) (s t most : ℤ) → IsTable first rows → is_behind rows s ≡ true → (t ≡ most) ⊎ (IsSetAt r t × (s <ℤ t)) → (t ≡ most) ⊎ ((BeginsAt rows t ⊎ IsSetBehind rows (Some r) t) × (s <ℤ t))
end_behind first rows r s t most table behind (inl none) = inl none
end_behind first rows r s t most table behind (inr set) =
    let up = seconds_rise (row_second rows) (offset_after first rows) (length rows) table in
    let later = set.1 in
    let come : 0 < length rows → (last_row rows).second ≤ℤ t = λ some. let front = come_behind first rows s table behind some in omega (arith, ints, front, later) in
    inr (inr (is_behind-come rows up t come, set.0), later)

-- in front of the last row it is the next row
pub first_before : (first : ℤ) (rows : List Row) (o : Option ZoneRule) (s until : ℤ) → IsTable first rows → ((r : ZoneRule) → o ≡ Some r → is_behind rows s ≡ false) → ((k : ℕ) → k < length rows → s <ℤ row_second rows k → until ≤ℤ row_second rows k) → (t : ℤ) → BeginsAt rows t ⊎ IsSetBehind rows o t → s <ℤ t → until ≤ℤ t
first_before first rows o s until table front by t (inl row) later =
    let begins = row.2 in
    let least = by row.0 row.1 (omega (arith, ints, begins, later)) in
    omega (arith, ints, begins, least)
first_before first rows None s until table front by t (inr set) later = absurd set
first_before first rows (Some r) s until table front by t (inr set) later =
    let up = seconds_rise (row_second rows) (offset_after first rows) (length rows) table in
    let ahead = front r refl in
    elim (leb_tells (length rows) 0) [
      | inl none ↦ absurd (both_ways (is_behind rows s) ahead (is_behind-come rows up s (λ some. absurd (omega (arith, some, none.1)))))
      | inr some ↦
          let early : s <ℤ (last_row rows).second = by_lt_z s (last_row rows).second (λ (lt : s <ℤ (last_row rows).second). lt)
          (λ (come : (last_row rows).second ≤ℤ s). absurd (both_ways (is_behind rows s) ahead (is_behind-come rows up s (λ _. come)))) in
          let end = by (length rows - 1) (omega (arith, some.1)) early in
          let come = come_behind first rows t table set.0 some.1 in
          omega (arith, ints, end, come)
    ]

pub end_before : (rows : List Row) (o : Option ZoneRule) (s t most : ℤ) → (t ≡ most) ⊎ (BeginsAt rows t × (s <ℤ t)) → (t ≡ most) ⊎ ((BeginsAt rows t ⊎ IsSetBehind rows o t) × (s <ℤ t))
end_before rows o s t most (inl none) = inl none
end_before rows o s t most (inr row) = inr (inl row.0, row.1)

-- each offset is less than a day
table_near : (first : ℤ) (rows : List Row) → IsTable first rows → ((k : ℕ) → k ≤ length rows → IsOffset (offset_after first rows k)) → (u : ℤ) → IsOffset (table_offset first rows u)
table_near first rows table near u =
    near (come_by (row_second rows) (length rows) u) (come_by-Come (row_second rows) (length rows) (seconds_rise (row_second rows) (offset_after first rows) (length rows) table) u).bound

pub near_with : (first : ℤ) (rows : List Row) (r : ZoneRule) → IsTable first rows → ((k : ℕ) → k ≤ length rows → IsOffset (offset_after first rows k)) → ((u : ℤ) → IsOffset (rule_offset r u)) → (u : ℤ) → IsOffset (offset_with first rows (Some r) u)
near_with first rows r table near ruled u =
    cond_both (is_behind rows u) (rule_offset r u) (table_offset first rows u) (λ (x : ℤ). IsOffset x) (λ _. ruled u) (λ _. table_near first rows table near u)

pub near_without : (first : ℤ) (rows : List Row) → IsTable first rows → ((k : ℕ) → k ≤ length rows → IsOffset (offset_after first rows k)) → (u : ℤ) → IsOffset (offset_with first rows None u)
near_without first rows table near u = table_near first rows table near u
