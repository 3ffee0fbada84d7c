-- When the offset changes next, and when it changed last, where the changes are ordered.
use Rattle.std.proofs.Common.{◌≡◌, ◌≢◌, ℕ, ◌+◌, ◌-◌, ◌≤◌, ◌<◌, ℤ, pos, ◌-ℤ◌, ◌≤ℤ◌, sym, ap, ◌∙◌, arith, inl, inr}
use Rattle.std.proofs.lemmas.Bool.Decides.{leb_tells}
use Rattle.std.proofs.lemmas.Int.{ints}
use Rattle.chrono_zoned.specs.Zones.{HoldsUntil}
use Rattle.zone_table.specs.Changes.{ChangesAt, IsNextChange, IsPreviousChange, IsSteadyFrom, IsSteadyTo}
use Rattle.zone_table.specs.Sequence.{AreOrdered, ChangesFirst, ChangesLast, IsSameFrom, IsSameTo, come_by, offset_by}
use Rattle.zone_table.proofs.LocalTimes.{seconds_rise}
use Rattle.zone_table.proofs.SequenceLemmas.{Come-count, IsRising-le, come_by-Come, come_by-le}

-- at the second of the change p it has come, and one second before it has not
count_at : (second after : ℕ → ℤ) (n p : ℕ) → AreOrdered second after n → p < n → come_by second n (second p) ≡ p + 1
count_at second after n p ordered lt =
    let up = seconds_rise second after n ordered in
    Come-count second n (second p) (p + 1) (record {
      bound = omega (arith, lt);
      come = λ i below. IsRising-le second n up i p (omega (arith, below)) lt;
      later = λ i from within.
          let rises = (ordered p (omega (arith, from, within))).rises in
          let rise = IsRising-le second n up (p + 1) i from within in
          omega (arith, ints, rises, rise);
    })

count_before : (second after : ℕ → ℤ) (n p : ℕ) → AreOrdered second after n → p < n → come_by second n (second p -ℤ pos 1) ≡ p
count_before second after n p ordered lt =
    let up = seconds_rise second after n ordered in
    Come-count second n (second p -ℤ pos 1) p (record {
      bound = omega (arith, lt);
      come = λ i below.
          let d : ℕ = p - 1 in
          let next : d + 1 ≡ p = omega (arith, below) in
          let rises = (ordered d (omega (arith, lt, below))).rises in
          let rise = IsRising-le second n up i d (omega (arith, below)) (omega (arith, lt)) in
          let named : second (d + 1) ≡ second p = ap second next in
          omega (arith, ints, rises, rise, named);
      later = λ i from within. let rise = IsRising-le second n up p i from within in omega (arith, ints, rise);
    })

-- so the offset changes there if the change sets another
changes_at : (second after : ℕ → ℤ) (n p : ℕ) → AreOrdered second after n → p < n → after (p + 1) ≢ after p → ChangesAt (offset_by second after n) (second p)
changes_at second after n p ordered lt other same =
    other (sym (ap after (count_at second after n p ordered lt)) ∙ same ∙ ap after (count_before second after n p ordered lt))

pub next_is : (second after : ℕ → ℤ) (n : ℕ) (s : ℤ) (p : ℕ) → AreOrdered second after n → ChangesFirst after (come_by second n s) n p → IsNextChange (offset_by second after n) s (second p)
next_is second after n s p ordered first =
    let up = seconds_rise second after n ordered in
    record {
      later = (come_by-Come second n up s).later p first.behind first.in_range;
      changes = changes_at second after n p ordered first.in_range first.changes;
      same = λ u from short. elim (leb_tells (come_by second n u) p) [
        | inl few ↦ first.same (come_by second n u) (come_by-le second n up s u from) few.1
        | inr more ↦ let come = (come_by-Come second n up u).come p more.1 in absurd (omega (arith, ints, come, short))
      ];
    }

pub steady_from : (second after : ℕ → ℤ) (n : ℕ) (s : ℤ) → AreOrdered second after n → IsSameFrom after (come_by second n s) n → IsSteadyFrom (offset_by second after n) s
steady_from second after n s ordered same u from =
    let up = seconds_rise second after n ordered in
    same (come_by second n u) (come_by-le second n up s u from) (come_by-Come second n up u).bound

pub previous_is : (second after : ℕ → ℤ) (n : ℕ) (s : ℤ) (p : ℕ) → AreOrdered second after n → ChangesLast after (come_by second n s) p → IsPreviousChange (offset_by second after n) s (second p)
previous_is second after n s p ordered last =
    let up = seconds_rise second after n ordered in
    let bound : come_by second n s ≤ n = (come_by-Come second n up s).bound in
    let before : p < come_by second n s = last.before in
    let in_range : p < n = omega (arith, before, bound) in
    record {
      earlier = (come_by-Come second n up s).come p before;
      changes = changes_at second after n p ordered in_range last.changes;
      same = λ u from short. elim (leb_tells (come_by second n u) p) [
        | inl few ↦ let later = (come_by-Come second n up u).later p few.1 in_range in absurd (omega (arith, ints, later, from))
        | inr more ↦ last.same (come_by second n u) more.1 (come_by-le second n up u s short)
      ];
    }

pub steady_to : (second after : ℕ → ℤ) (n : ℕ) (s : ℤ) → AreOrdered second after n → IsSameTo after (come_by second n s) → IsSteadyTo (offset_by second after n) s
steady_to second after n s ordered same u short =
    same (come_by second n u) (come_by-le second n (seconds_rise second after n ordered) u s short)

-- until the next change the offset holds
pub holds_until : (second after : ℕ → ℤ) (n : ℕ) (s t : ℤ) (c : ℕ) → AreOrdered second after n → come_by second n s ≡ c → (c < n → t ≤ℤ second c) → HoldsUntil (offset_by second after n) s t
holds_until second after n s t c ordered count next u from to =
    let up = seconds_rise second after n ordered in
    let least = come_by-le second n up s u from in
    let bound = (come_by-Come second n up u).bound in
    ap after (elim (leb_tells (come_by second n u) c) [
      | inl few ↦ omega (arith, few.1, least, count)
      | inr more ↦
          let come = (come_by-Come second n up u).come c more.1 in
          let later = next (omega (arith, more.1, bound)) in
          absurd (omega (arith, ints, come, later, to))
    ])
