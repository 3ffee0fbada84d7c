use Rattle.std.proofs.Common.{◌≡◌, ◌∙◌, ℕ, pos, ◌<◌, ℤ, ◌≤ℤ◌, ◌<ℤ◌, true, false, ap, length, subst, sym, to_z, of_z, w64}
use Rattle.std.specs.Prelude.{◌⊎◌, None, Option}
use Rattle.std.proofs.lemmas.Int.{to_z-of_z}
use Rattle.chrono_zoned.specs.Offsets.{IsOffset}
use Rattle.chrono_zoned.specs.Zones.{HoldsUntil}
use Rattle.zone_rule.specs.Rules.{IsSetAt, rule_offset}
use Rattle.zone_rule.specs.declared.rule.ZoneRule.{ZoneRule}
use Rattle.zone_table.specs.Table.{BeginsAt, row_second, table_offset}
use Rattle.zone.specs.Parts.{IsSetBehind, SetsAt, ZoneParts, is_behind, offset_with, zone_offset}
use Rattle.zone.proofs.ZoneLemmas.{by_rows, by_rule, end_before, end_behind, first_before, first_behind, holds_before, holds_behind, near_with, near_without}
use Rattle.zone.proofs.zone.Zone.stretch_of_instant.Goals as goal
use Rattle.zone.proofs.zone.Zone.stretch_of_instant.Goals.{in-Some+else-is_behind, in_default}

pub returns-then-is_behind-clause-offset : goal.returns-then-is_behind-clause-offset
returns-then-is_behind-clause-offset c =
    let z = c.self.inside in
    let r = c.in-Some.rule in
    let second = c.args.second in
    let here : to_z w64 (of_z w64 second) ≡ second = to_z-of_z w64 second c.ranges.second in
    let behind : is_behind z.rows.now second ≡ true = sym (c.is_behind.ensures ∙ ap (is_behind z.rows.now) here) ∙ c.if-is_behind.true in
    subst (λ (p : ZoneParts). c.stretch_of_instant.result.offset ≡ (zone_offset p) c.args.second) c.self.view_is
    (subst (λ (o : Option ZoneRule). c.stretch_of_instant.result.offset ≡ (offset_with z.first z.rows.now o) c.args.second) (sym c.in-Some.is)
    (c.stretch_of_instant.ensures.offset ∙ ap (rule_offset r) here ∙ by_rule z.first z.rows.now r second behind))

pub returns-then-is_behind-clause-holds : goal.returns-then-is_behind-clause-holds
returns-then-is_behind-clause-holds c =
    let z = c.self.inside in
    let r = c.in-Some.rule in
    let second = c.args.second in
    let here : to_z w64 (of_z w64 second) ≡ second = to_z-of_z w64 second c.ranges.second in
    let behind : is_behind z.rows.now second ≡ true = sym (c.is_behind.ensures ∙ ap (is_behind z.rows.now) here) ∙ c.if-is_behind.true in
    subst (λ (p : ZoneParts). HoldsUntil (zone_offset p) c.args.second c.stretch_of_instant.result.until) c.self.view_is
    (subst (λ (o : Option ZoneRule). HoldsUntil (offset_with z.first z.rows.now o) c.args.second c.stretch_of_instant.result.until) (sym c.in-Some.is)
    (holds_behind z.first z.rows.now r second c.stretch_of_instant.result.until c.self.invariant.zone.table behind (subst (λ (x : ℤ). HoldsUntil (rule_offset r) x c.stretch_of_instant.result.until) here c.stretch_of_instant.ensures.holds)))

pub returns-then-is_behind-clause-near : goal.returns-then-is_behind-clause-near
returns-then-is_behind-clause-near c =
    let z = c.self.inside in
    let r = c.in-Some.rule in
    let second = c.args.second in
    let here : to_z w64 (of_z w64 second) ≡ second = to_z-of_z w64 second c.ranges.second in
    let behind : is_behind z.rows.now second ≡ true = sym (c.is_behind.ensures ∙ ap (is_behind z.rows.now) here) ∙ c.if-is_behind.true in
    subst (λ (p : ZoneParts). (u : ℤ) → IsOffset ((zone_offset p) u)) c.self.view_is
    (subst (λ (o : Option ZoneRule). (u : ℤ) → IsOffset ((offset_with z.first z.rows.now o) u)) (sym c.in-Some.is)
    (near_with z.first z.rows.now r c.self.invariant.zone.table c.self.invariant.near c.stretch_of_instant.ensures.near))

pub returns-clause-offset : goal.returns-clause-offset
returns-clause-offset c =
    let z = c.self.inside in
    let second = c.args.second in
    let here : to_z w64 (of_z w64 second) ≡ second = to_z-of_z w64 second c.ranges.second in
    subst (λ (p : ZoneParts). c.stretch_of_instant-2.result.offset ≡ (zone_offset p) c.args.second) c.self.view_is (elim c.match-self.branch [
      | in-Some+else-is_behind w ↦
          let r = w.in-Some.rule in
          let front : is_behind z.rows.now second ≡ false = sym (w.is_behind.ensures ∙ ap (is_behind z.rows.now) here) ∙ w.if-is_behind.false in
          subst (λ (o : Option ZoneRule). c.stretch_of_instant-2.result.offset ≡ (offset_with z.first z.rows.now o) c.args.second) (sym w.in-Some.is) (c.stretch_of_instant-2.ensures.offset ∙ ap (table_offset z.first z.rows.now) here ∙ by_rows z.first z.rows.now r second front)
      | in_default w ↦ subst (λ (o : Option ZoneRule). c.stretch_of_instant-2.result.offset ≡ (offset_with z.first z.rows.now o) c.args.second) (sym w.in_default.is) (c.stretch_of_instant-2.ensures.offset ∙ ap (table_offset z.first z.rows.now) here)
    ])

pub returns-clause-holds : goal.returns-clause-holds
returns-clause-holds c =
    let z = c.self.inside in
    let second = c.args.second in
    let here : to_z w64 (of_z w64 second) ≡ second = to_z-of_z w64 second c.ranges.second in
    let held : HoldsUntil (table_offset z.first z.rows.now) second c.stretch_of_instant-2.result.until = subst (λ (x : ℤ). HoldsUntil (table_offset z.first z.rows.now) x c.stretch_of_instant-2.result.until) here c.stretch_of_instant-2.ensures.holds in
    let by : (k : ℕ) → k < length z.rows.now → second <ℤ row_second z.rows.now k → c.stretch_of_instant-2.result.until ≤ℤ row_second z.rows.now k =
    λ k lt later. c.stretch_of_instant-2.ensures.rows k lt (subst (λ (x : ℤ). x <ℤ row_second z.rows.now k) (sym here) later) in
    subst (λ (p : ZoneParts). HoldsUntil (zone_offset p) c.args.second c.stretch_of_instant-2.result.until) c.self.view_is (elim c.match-self.branch [
      | in-Some+else-is_behind w ↦
          let r = w.in-Some.rule in
          let front : is_behind z.rows.now second ≡ false = sym (w.is_behind.ensures ∙ ap (is_behind z.rows.now) here) ∙ w.if-is_behind.false in
          subst (λ (o : Option ZoneRule). HoldsUntil (offset_with z.first z.rows.now o) c.args.second c.stretch_of_instant-2.result.until) (sym w.in-Some.is) (holds_before z.first z.rows.now r second c.stretch_of_instant-2.result.until c.self.invariant.zone.table front held by)
      | in_default w ↦ subst (λ (o : Option ZoneRule). HoldsUntil (offset_with z.first z.rows.now o) c.args.second c.stretch_of_instant-2.result.until) (sym w.in_default.is) (held)
    ])

pub returns-clause-near : goal.returns-clause-near
returns-clause-near c =
    let z = c.self.inside in
    let second = c.args.second in
    let here : to_z w64 (of_z w64 second) ≡ second = to_z-of_z w64 second c.ranges.second in
    subst (λ (p : ZoneParts). (u : ℤ) → IsOffset ((zone_offset p) u)) c.self.view_is (elim c.match-self.branch [
      | in-Some+else-is_behind w ↦
          let r = w.in-Some.rule in
          let front : is_behind z.rows.now second ≡ false = sym (w.is_behind.ensures ∙ ap (is_behind z.rows.now) here) ∙ w.if-is_behind.false in
          subst (λ (o : Option ZoneRule). (u : ℤ) → IsOffset ((offset_with z.first z.rows.now o) u)) (sym w.in-Some.is) (near_with z.first z.rows.now r c.self.invariant.zone.table c.self.invariant.near w.rule_most-most.ensures.near)
      | in_default w ↦ subst (λ (o : Option ZoneRule). (u : ℤ) → IsOffset ((offset_with z.first z.rows.now o) u)) (sym w.in_default.is) (near_without z.first z.rows.now c.self.invariant.zone.table c.self.invariant.near)
    ])

pub returns-then-is_behind-clause-first : goal.returns-then-is_behind-clause-first
returns-then-is_behind-clause-first c =
    let z = c.self.inside in
    let r = c.in-Some.rule in
    let second = c.args.second in
    let until = c.stretch_of_instant.result.until in
    let here : to_z w64 (of_z w64 second) ≡ second = to_z-of_z w64 second c.ranges.second in
    let behind : is_behind z.rows.now second ≡ true = sym (c.is_behind.ensures ∙ ap (is_behind z.rows.now) here) ∙ c.if-is_behind.true in
    let next : (t : ℤ) → IsSetAt r t → second <ℤ t → until ≤ℤ t = subst (λ (x : ℤ). (t : ℤ) → IsSetAt r t → x <ℤ t → until ≤ℤ t) here c.stretch_of_instant.ensures.first in
    subst (λ (p : ZoneParts). (t : ℤ) → SetsAt p t → second <ℤ t → until ≤ℤ t) c.self.view_is
    (subst (λ (o : Option ZoneRule). (t : ℤ) → BeginsAt z.rows.now t ⊎ IsSetBehind z.rows.now o t → second <ℤ t → until ≤ℤ t) (sym c.in-Some.is)
    (first_behind z.first z.rows.now r second until c.self.invariant.zone.table behind next))

pub returns-then-is_behind-clause-end : goal.returns-then-is_behind-clause-end
returns-then-is_behind-clause-end c =
    let z = c.self.inside in
    let r = c.in-Some.rule in
    let second = c.args.second in
    let until = c.stretch_of_instant.result.until in
    let most : ℤ = pos 9_223_372_036_854_775_807 in
    let here : to_z w64 (of_z w64 second) ≡ second = to_z-of_z w64 second c.ranges.second in
    let behind : is_behind z.rows.now second ≡ true = sym (c.is_behind.ensures ∙ ap (is_behind z.rows.now) here) ∙ c.if-is_behind.true in
    let end : (until ≡ most) ⊎ (IsSetAt r until × (second <ℤ until)) = subst (λ (x : ℤ). (until ≡ most) ⊎ (IsSetAt r until × (x <ℤ until))) here c.stretch_of_instant.ensures.end in
    subst (λ (p : ZoneParts). (until ≡ most) ⊎ (SetsAt p until × (second <ℤ until))) c.self.view_is
    (subst (λ (o : Option ZoneRule). (until ≡ most) ⊎ ((BeginsAt z.rows.now until ⊎ IsSetBehind z.rows.now o until) × (second <ℤ until))) (sym c.in-Some.is)
    (end_behind z.first z.rows.now r second until most c.self.invariant.zone.table behind end))

pub returns-clause-first : goal.returns-clause-first
returns-clause-first c =
    let z = c.self.inside in
    let second = c.args.second in
    let until = c.stretch_of_instant-2.result.until in
    let here : to_z w64 (of_z w64 second) ≡ second = to_z-of_z w64 second c.ranges.second in
    let by : (k : ℕ) → k < length z.rows.now → second <ℤ row_second z.rows.now k → until ≤ℤ row_second z.rows.now k =
    λ k lt later. c.stretch_of_instant-2.ensures.rows k lt (subst (λ (x : ℤ). x <ℤ row_second z.rows.now k) (sym here) later) in
    subst (λ (p : ZoneParts). (t : ℤ) → SetsAt p t → second <ℤ t → until ≤ℤ t) c.self.view_is (elim c.match-self.branch [
      | in-Some+else-is_behind w ↦
          let front : is_behind z.rows.now second ≡ false = sym (w.is_behind.ensures ∙ ap (is_behind z.rows.now) here) ∙ w.if-is_behind.false in
          first_before z.first z.rows.now z.rule second until c.self.invariant.zone.table (λ r is. front) by
      | in_default w ↦ subst (λ (o : Option ZoneRule). (t : ℤ) → BeginsAt z.rows.now t ⊎ IsSetBehind z.rows.now o t → second <ℤ t → until ≤ℤ t) (sym w.in_default.is)
          (first_before z.first z.rows.now None second until c.self.invariant.zone.table (λ r is. absurd cc) by)
    ])

pub returns-clause-end : goal.returns-clause-end
returns-clause-end c =
    let z = c.self.inside in
    let second = c.args.second in
    let until = c.stretch_of_instant-2.result.until in
    let most : ℤ = pos 9_223_372_036_854_775_807 in
    let here : to_z w64 (of_z w64 second) ≡ second = to_z-of_z w64 second c.ranges.second in
    let end : (until ≡ most) ⊎ (BeginsAt z.rows.now until × (second <ℤ until)) = subst (λ (x : ℤ). (until ≡ most) ⊎ (BeginsAt z.rows.now until × (x <ℤ until))) here c.stretch_of_instant-2.ensures.end in
    subst (λ (p : ZoneParts). (until ≡ most) ⊎ (SetsAt p until × (second <ℤ until))) c.self.view_is (end_before z.rows.now z.rule second until most end)
