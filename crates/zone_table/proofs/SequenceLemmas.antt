-- The count of the changes that have come by a second.
use Rattle.std.proofs.Common.{◌≡◌, ℕ, zero, suc, ◌+◌, ◌≤◌, ◌<◌, ℤ, ◌≤ℤ◌, ◌<ℤ◌, refl, sym, ap, subst, ◌∙◌, arith, inl, inr}
use Rattle.std.proofs.lemmas.Bool.Decides.{leb_tells}
use Rattle.std.proofs.lemmas.Int.{by_lt_z, ints}
use Rattle.chrono_zoned.proofs.TimeLemmas.{int_le-above, int_le-below}
use Rattle.zone_table.specs.Sequence.{Come, IsRising, come_by}

-- where each value is at most the next one, it is at most any later one
pub IsRising-le : (key : ℕ → ℤ) (n : ℕ) → IsRising key n → (i j : ℕ) → i ≤ j → j < n → key i ≤ℤ key j
IsRising-le key n up i zero le lt = let same : i ≡ zero = omega (arith, le) in rw same (omega (arith, ints))
IsRising-le key n up i (suc j) le lt = elim (leb_tells i j) [
  | inl below ↦
      let step : key j ≤ℤ key (j + 1) = up j (omega (arith, lt)) in
      let front : key i ≤ℤ key j = IsRising-le key n up i j below.1 (omega (arith, lt)) in
      let last : key (j + 1) ≡ key (suc j) = ap key (omega arith) in
      omega (arith, ints, step, front, last)
  | inr above ↦ let same : i ≡ suc j = omega (arith, le, above.1) in rw same (omega (arith, ints))
]

-- one change more, which has come or has not
come_by-come : (second : ℕ → ℤ) (n : ℕ) (u : ℤ) → second n ≤ℤ u → come_by second (suc n) u ≡ come_by second n u + 1
unfolding come_by
come_by-come second n u h = rw (int_le-below (second n) u h) refl

come_by-later : (second : ℕ → ℤ) (n : ℕ) (u : ℤ) → u <ℤ second n → come_by second (suc n) u ≡ come_by second n u
unfolding come_by
come_by-later second n u h = rw (int_le-above (second n) u h) (omega arith)

come_by-zero : (second : ℕ → ℤ) (u : ℤ) → come_by second zero u ≡ 0
unfolding come_by
come_by-zero second u = refl

-- where the changes that have come stand in front, their place is the count
pub Come-count : (second : ℕ → ℤ) (n : ℕ) (u : ℤ) (c : ℕ) → Come second n u c → come_by second n u ≡ c
Come-count second zero u c at = let bound = at.bound in come_by-zero second u ∙ omega (arith, bound)
Come-count second (suc n) u c at = elim (leb_tells c n) [
  | inl some ↦
      let last : u <ℤ second n = at.later n some.1 (omega arith) in
      come_by-later second n u last ∙ Come-count second n u c (record {
        bound = some.1;
        come = at.come;
        later = λ i le lt. at.later i le (omega (arith, lt));
      })
  | inr all ↦
      let bound = at.bound in
      let whole : c ≡ n + 1 = omega (arith, bound, all.1) in
      let front : come_by second n u ≡ n = Come-count second n u n (record {
        bound = omega arith;
        come = λ i lt. at.come i (omega (arith, lt, whole));
        later = λ i le lt. absurd (omega (arith, le, lt));
      }) in
      let last : second n ≤ℤ u = at.come n (omega (arith, whole)) in
      come_by-come second n u last ∙ ap (λ m. m + 1) front ∙ sym whole
]

-- where they rise, they do
pub come_by-Come : (second : ℕ → ℤ) (n : ℕ) → IsRising second n → (u : ℤ) → Come second n u (come_by second n u)
come_by-Come second zero up u = rw (come_by-zero second u) (record {
  bound = omega arith;
  come = λ i lt. absurd (omega (arith, lt));
  later = λ i le lt. absurd (omega (arith, lt));
})
come_by-Come second (suc n) up u =
    let front : Come second n u (come_by second n u) = come_by-Come second n (λ k lt. up k (omega (arith, lt))) u in
    let bound : come_by second n u ≤ n = front.bound in
    by_lt_z u (second n)
    (λ lt. rw (come_by-later second n u lt) (record {
      bound = omega (arith, bound);
      come = front.come;
      later = λ i le below. elim (leb_tells (i + 1) n) [
        | inl less ↦ front.later i le (omega (arith, less.1))
        | inr last ↦ let same : i ≡ n = omega (arith, below, last.1) in rw same lt
      ];
    }))
    (λ ge.
    let whole : come_by second n u ≡ n = elim (leb_tells n (come_by second n u)) [
      | inl most ↦ omega (arith, bound, most.1)
      | inr less ↦
          let next = front.later (come_by second n u) (omega arith) less.1 in
          let rise = IsRising-le second (suc n) up (come_by second n u) n (omega (arith, less.1)) (omega arith) in
          absurd (omega (arith, ints, next, rise, ge))
    ] in
    rw (come_by-come second n u ge) (record {
      bound = omega (arith, bound);
      come = λ i lt. elim (leb_tells (i + 1) n) [
        | inl less ↦ front.come i (omega (arith, less.1, whole))
        | inr last ↦ let same : i ≡ n = omega (arith, lt, bound, last.1) in rw same ge
      ];
      later = λ i le lt. absurd (omega (arith, le, lt, whole));
    }))

-- at a later second no fewer have come
pub come_by-le : (second : ℕ → ℤ) (n : ℕ) → IsRising second n → (s u : ℤ) → s ≤ℤ u → come_by second n s ≤ come_by second n u
come_by-le second n up s u le = elim (leb_tells (come_by second n s) (come_by second n u)) [
  | inl order ↦ order.1
  | inr fewer ↦
      let bound : come_by second n s ≤ n = (come_by-Come second n up s).bound in
      let come = (come_by-Come second n up s).come (come_by second n u) fewer.1 in
      let later = (come_by-Come second n up u).later (come_by second n u) (omega arith) (omega (arith, bound, fewer.1)) in
      absurd (omega (arith, ints, come, later, le))
]

-- ---- a search by halves for the place of u among values that rise

-- the values in front of `low` are at most u, and those from `high` on are above it
pub record Bisected (key : ℕ → ℤ) (n : ℕ) (u : ℤ) (low high : ℕ) : Type 0 where
  pub order : low ≤ high
  pub bound : high ≤ n
  pub come : (i : ℕ) → i < low → key i ≤ℤ u
  pub later : (i : ℕ) → high ≤ i → i < n → u <ℤ key i

pub Bisected-all : (key : ℕ → ℤ) (n : ℕ) (u : ℤ) → Bisected key n u 0 n
Bisected-all key n u = record {
  order = omega arith;
  bound = omega arith;
  come = λ i lt. absurd (omega (arith, lt));
  later = λ i le lt. absurd (omega (arith, le, lt));
}

pub Bisected-up : (key : ℕ → ℤ) (n : ℕ) (u : ℤ) (low high middle : ℕ) → IsRising key n → Bisected key n u low high → middle < high → key middle ≤ℤ u → Bisected key n u (middle + 1) high
Bisected-up key n u low high middle up at lt here =
    let bound : high ≤ n = at.bound in
    record {
      order = omega (arith, lt);
      bound = bound;
      come = λ i below. let rise = IsRising-le key n up i middle (omega (arith, below)) (omega (arith, lt, bound)) in omega (arith, ints, rise, here);
      later = at.later;
    }

pub Bisected-down : (key : ℕ → ℤ) (n : ℕ) (u : ℤ) (low high middle : ℕ) → IsRising key n → Bisected key n u low high → low ≤ middle → middle < high → u <ℤ key middle → Bisected key n u low middle
Bisected-down key n u low high middle up at le lt here =
    let bound : high ≤ n = at.bound in
    record {
      order = le;
      bound = omega (arith, lt, bound);
      come = at.come;
      later = λ i from below. let rise = IsRising-le key n up middle i from below in omega (arith, ints, rise, here);
    }

pub Bisected-Come : (key : ℕ → ℤ) (n : ℕ) (u : ℤ) (low high : ℕ) → Bisected key n u low high → high ≤ low → Come key n u low
Bisected-Come key n u low high at le =
    let bound : high ≤ n = at.bound in
    let order : low ≤ high = at.order in
    record { bound = omega (arith, order, bound); come = at.come; later = λ i from below. at.later i (omega (arith, le, from)) below }

-- the same of equal seconds
pub Come-at : (key : ℕ → ℤ) (n : ℕ) (v u : ℤ) (c : ℕ) → v ≡ u → Come key n v c → Come key n u c
Come-at key n v u c same at = subst (λ (x : ℤ). Come key n x c) same at
