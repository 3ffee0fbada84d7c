-- Whether a rule goes on from a row.
use Rattle.std.proofs.Common.{◌≡◌, ℤ, pos, ◌+ℤ◌, ◌-ℤ◌, ◌≤ℤ◌, ◌<ℤ◌, refl, sym, ◌∙◌, arith}
use Rattle.std.specs.Prelude.{IsSome, Option, Some, None}
use Rattle.std.proofs.lemmas.Int.{by_lt_z, ints}
use Rattle.zone_rule.specs.Rules.{IsNextSetting, IsSetBy, IsSteadyUntil, ahead_by, rule_offset}
use Rattle.zone_rule.specs.declared.rule.Daylight.{Daylight}
use Rattle.zone_rule.specs.declared.rule.ZoneRule.{ZoneRule}
use Rattle.zone_table.specs.declared.row.Row.{Row}
use Rattle.zone.specs.Parts.{GoesOn}

-- a rule with no daylight time sets no clock
never_set : (offset : ℤ) (daylight : Option Daylight) → (IsSome daylight → ⊥) → (v : ℤ) → IsSetBy offset daylight v → ⊥
never_set offset None none v sets = sets
never_set offset (Some d) none v sets = none refl

one_offset : (offset : ℤ) (daylight : Option Daylight) → (IsSome daylight → ⊥) → (u : ℤ) → ahead_by offset daylight u ≡ offset
one_offset offset None none u = refl
one_offset offset (Some d) none u = absurd (none refl)

-- up to a second, so many of the two days before their end, the rule shows the row's offset
pub record IsKeptTo (row : Row) (r : ZoneRule) (second left : ℤ) : Type 0 where
  pub from : row.second ≤ℤ second
  pub sum : second +ℤ left ≡ row.second +ℤ pos 172_800
  pub some : pos 0 ≤ℤ left
  pub kept : (u : ℤ) → row.second ≤ℤ u → u <ℤ second → rule_offset r u ≡ row.offset

pub kept-none : (row : Row) (r : ZoneRule) (second left : ℤ) → second ≡ row.second → left ≡ pos 172_800 → IsKeptTo row r second left
kept-none row r second left at days = record {
  from = omega (arith, ints, at);
  sum = omega (arith, ints, at, days);
  some = omega (arith, ints, days);
  kept = λ u from early. absurd (omega (arith, ints, at, from, early));
}

kept-on : (row : Row) (r : ZoneRule) (s t u : ℤ) → ((v : ℤ) → row.second ≤ℤ v → v <ℤ s → rule_offset r v ≡ row.offset) → rule_offset r s ≡ row.offset → IsSteadyUntil r s t → row.second ≤ℤ u → u <ℤ t → rule_offset r u ≡ row.offset
kept-on row r s t u kept agrees steady from to =
    by_lt_z u s (λ (early : u <ℤ s). kept u from early) (λ (come : s ≤ℤ u). steady u come to ∙ agrees)

pub kept-more : (row : Row) (r : ZoneRule) (s left wait next rest : ℤ) → IsKeptTo row r s left → rule_offset r s ≡ row.offset → IsNextSetting r s (s +ℤ wait) → IsSteadyUntil r s (s +ℤ wait) → wait ≤ℤ left → next ≡ s +ℤ wait → rest ≡ left -ℤ wait → IsKeptTo row r next rest
kept-more row r s left wait next rest so agrees setting steady short at of =
    let from = so.from in
    let sum = so.sum in
    let later = setting.later in
    record {
      from = omega (arith, ints, from, later, at);
      sum = omega (arith, ints, sum, at, of);
      some = omega (arith, ints, short, of);
      kept = λ u after early. kept-on row r s (s +ℤ wait) u so.kept agrees steady after (omega (arith, ints, early, at));
    }

pub goes_on-always : (row : Row) (r : ZoneRule) (s left : ℤ) → IsKeptTo row r s left → (IsSome r.daylight → ⊥) → rule_offset r s ≡ row.offset → GoesOn row r
goes_on-always row r s left so none agrees = record {
  keeps = λ u soon. one_offset r.standard r.daylight none u ∙ sym (one_offset r.standard r.daylight none s) ∙ agrees;
  counted = λ v soon sets. absurd (never_set r.standard r.daylight none v sets);
}

pub goes_on-long : (row : Row) (r : ZoneRule) (s left wait : ℤ) → IsKeptTo row r s left → s ≤ℤ pos 9_223_372_036_854_775_807 → rule_offset r s ≡ row.offset → IsNextSetting r s (s +ℤ wait) → IsSteadyUntil r s (s +ℤ wait) → left <ℤ wait → GoesOn row r
goes_on-long row r s left wait so counted agrees next steady long =
    let sum = so.sum in
    record {
      keeps = λ u soon. let to = soon.to in kept-on row r s (s +ℤ wait) u so.kept agrees steady soon.from (omega (arith, ints, to, sum, long));
      counted = λ v soon sets.
          by_lt_z s v
          (λ (later : s <ℤ v). let first = next.first v later sets in let to = soon.to in absurd (omega (arith, ints, first, to, sum, long)))
          (λ (by : v ≤ℤ s). omega (arith, ints, by, counted));
    }

pub goes_on-other : (row : Row) (r : ZoneRule) (s left : ℤ) → IsKeptTo row r s left → (rule_offset r s ≡ row.offset → ⊥) → GoesOn row r → ⊥
goes_on-other row r s left so other on =
    let sum = so.sum in
    let some = so.some in
    other (on.keeps s (record { from = so.from; to = omega (arith, ints, sum, some) }))

pub goes_on-past : (row : Row) (r : ZoneRule) (s left wait : ℤ) → IsKeptTo row r s left → IsNextSetting r s (s +ℤ wait) → wait ≤ℤ left → pos 9_223_372_036_854_775_807 <ℤ (s +ℤ wait) → GoesOn row r → ⊥
goes_on-past row r s left wait so next short past on =
    let from = so.from in
    let sum = so.sum in
    let later = next.later in
    let by = on.counted (s +ℤ wait) (record { from = omega (arith, ints, from, later); to = omega (arith, ints, sum, short) }) next.sets in
    omega (arith, ints, past, by)
