-- The instants of a local time, where the changes are ordered.
use Rattle.std.proofs.Common.{◌≡◌, ℕ, ◌+◌, ◌-◌, ◌≤◌, ◌<◌, ℤ, pos, ◌+ℤ◌, ◌-ℤ◌, ◌≤ℤ◌, ◌<ℤ◌, ◌⊎◌, ap, ◌∙◌, arith, inl, inr, ⊎_elim}
use Rattle.std.proofs.lemmas.Bool.Decides.{leb_tells}
use Rattle.std.proofs.lemmas.Int.{clamps, ints}
use Rattle.chrono_zoned.specs.declared.mapped_local_time.MappedLocalTime.TheVariants.{None as NoInstant, Single, Ambiguous}
use Rattle.chrono_zoned.specs.Offsets.{IsOffset}
use Rattle.chrono_zoned.specs.Zones.{IsMapped, Shows}
use Rattle.zone_table.specs.Sequence.{AreOrdered, Come, IsRising, come_by, local_end, local_start, offset_by}
use Rattle.zone_table.proofs.SequenceLemmas.{Come-count, IsRising-le, come_by-Come}

-- what a local start and a local end say of their change
start_le : (second after : ℕ → ℤ) (k : ℕ) → (local_start second after k ≤ℤ (second k +ℤ after k)) × (local_start second after k ≤ℤ (second k +ℤ after (k + 1)))
start_le second after k = (omega (arith, ints, clamps), omega (arith, ints, clamps))

le_end : (second after : ℕ → ℤ) (k : ℕ) → ((second k +ℤ after k) ≤ℤ local_end second after k) × ((second k +ℤ after (k + 1)) ≤ℤ local_end second after k)
le_end second after k = (omega (arith, ints, clamps), omega (arith, ints, clamps))

-- ordered changes rise, and so do their local starts
pub seconds_rise : (second after : ℕ → ℤ) (n : ℕ) → AreOrdered second after n → IsRising second n
seconds_rise second after n ordered k lt = let rises = (ordered k lt).rises in omega (arith, ints, rises)

pub starts_rise : (second after : ℕ → ℤ) (n : ℕ) → AreOrdered second after n → IsRising (local_start second after) n
starts_rise second after n ordered k lt =
    let apart = (ordered k lt).apart in
    let start = (start_le second after k).0 in
    let end = (le_end second after k).0 in
    omega (arith, ints, apart, start, end)

-- an instant that shows l has as many changes behind it as there are starts up to l, or one fewer
near : (second after : ℕ → ℤ) (n : ℕ) (l u : ℤ) (k c : ℕ) → AreOrdered second after n → Come (local_start second after) n l k → Come second n u c → (u +ℤ after c) ≡ l → (c ≡ k) ⊎ (c + 1 ≡ k)
near second after n l u k c ordered starts at shows =
    let starts_bound : k ≤ n = starts.bound in
    let bound : c ≤ n = at.bound in
    elim (leb_tells c k) [
      | inl up_to ↦ elim (leb_tells k (c + 1)) [
        | inl close ↦ elim (leb_tells k c) [
          | inl all ↦ inl (omega (arith, up_to.1, all.1))
          | inr fewer ↦ inr (omega (arith, close.1, fewer.1))
        ]
        | inr far ↦
            let apart = (ordered c (omega (arith, far.1, starts_bound))).apart in
            let start = starts.come (c + 1) far.1 in
            let later = at.later c (omega arith) (omega (arith, far.1, starts_bound)) in
            let end = (le_end second after c).0 in
            absurd (omega (arith, ints, apart, start, later, end, shows))
      ]
      | inr more ↦
          let d : ℕ = c - 1 in
          let next : d + 1 ≡ c = omega (arith, more.1) in
          let start = starts.later d (omega (arith, more.1)) (omega (arith, more.1, bound)) in
          let come = at.come d (omega (arith, more.1)) in
          let least = (start_le second after d).1 in
          let named : after (d + 1) ≡ after c = ap after next in
          absurd (omega (arith, ints, start, come, least, named, shows))
    ]

-- the same of the offset at any instant
pub near_all : (second after : ℕ → ℤ) (n : ℕ) (l : ℤ) (k : ℕ) → AreOrdered second after n → Come (local_start second after) n l k → (u : ℤ) → Shows (offset_by second after n) l u → (come_by second n u ≡ k) ⊎ (come_by second n u + 1 ≡ k)
near_all second after n l k ordered starts u shows =
    near second after n l u k (come_by second n u) ordered starts (come_by-Come second n (seconds_rise second after n ordered) u) shows

-- an instant with c changes behind it shows l exactly where it lies the offset after c before l
pub shown_at : (second after : ℕ → ℤ) (n : ℕ) (l u : ℤ) (c : ℕ) → come_by second n u ≡ c → Shows (offset_by second after n) l u → u ≡ (l -ℤ after c)
shown_at second after n l u c count shows = let there : after (come_by second n u) ≡ after c = ap after count in omega (arith, ints, shows, there)

pub shows_at : (second after : ℕ → ℤ) (n : ℕ) (l u : ℤ) (c : ℕ) → come_by second n u ≡ c → u ≡ (l -ℤ after c) → Shows (offset_by second after n) l u
shows_at second after n l u c count is = let there : after (come_by second n u) ≡ after c = ap after count in omega (arith, ints, is, there)

-- behind the last change with a start up to l, the instant at the offset after it lies between this change and the next
after_count : (second after : ℕ → ℤ) (n : ℕ) (l : ℤ) (k : ℕ) → AreOrdered second after n → Come (local_start second after) n l k → ((j : ℕ) → j + 1 ≡ k → (second j +ℤ after k) ≤ℤ l) → come_by second n (l -ℤ after k) ≡ k
after_count second after n l k ordered starts past =
    let bound : k ≤ n = starts.bound in
    Come-count second n (l -ℤ after k) k (record {
      bound = bound;
      come = λ i lt.
          let last = past (k - 1) (omega (arith, lt)) in
          let rise = IsRising-le second n (seconds_rise second after n ordered) i (k - 1) (omega (arith, lt)) (omega (arith, lt, bound)) in
          omega (arith, ints, last, rise);
      later = λ i le lt.
          let start = starts.later k (omega arith) (omega (arith, le, lt)) in
          let least = (start_le second after k).0 in
          let rise = IsRising-le second n (seconds_rise second after n ordered) k i le lt in
          omega (arith, ints, start, least, rise);
    })

-- and in front of it, the one at the offset before it lies between this change and the one before
before_count : (second after : ℕ → ℤ) (n : ℕ) (l : ℤ) (j : ℕ) → AreOrdered second after n → Come (local_start second after) n l (j + 1) → l <ℤ (second j +ℤ after j) → come_by second n (l -ℤ after j) ≡ j
before_count second after n l j ordered starts short =
    let bound : j + 1 ≤ n = starts.bound in
    Come-count second n (l -ℤ after j) j (record {
      bound = omega (arith, bound);
      come = λ i lt.
          let d : ℕ = j - 1 in
          let next : d + 1 ≡ j = omega (arith, lt) in
          let apart = (ordered d (omega (arith, lt, bound))).apart in
          let start = starts.come (d + 1) (omega (arith, lt)) in
          let end = (le_end second after d).1 in
          let named : after (d + 1) ≡ after j = ap after next in
          let rise = IsRising-le second n (seconds_rise second after n ordered) i d (omega (arith, lt)) (omega (arith, lt, bound)) in
          omega (arith, ints, apart, start, end, named, rise);
      later = λ i le lt.
          let rise = IsRising-le second n (seconds_rise second after n ordered) j i le lt in
          omega (arith, ints, short, rise);
    })

-- ---- the four answers

-- no change starts by l: the first offset alone
pub mapped_first : (second after : ℕ → ℤ) (n : ℕ) (l : ℤ) → AreOrdered second after n → Come (local_start second after) n l 0 → IsMapped (offset_by second after n) l (Single (after 0))
mapped_first second after n l ordered starts u = (
  (λ shows. ⊎_elim (λ at. shown_at second after n l u 0 at shows) (λ at. absurd (omega (arith, at))) (near_all second after n l 0 ordered starts u shows)),
  (λ is. shows_at second after n l u 0 (ap (come_by second n) is ∙ after_count second after n l 0 ordered starts (λ j none. absurd (omega (arith, none)))) is),
)

-- no instant with j changes behind it shows l, where l lies past the end of the offset before the change j
not_before : (second after : ℕ → ℤ) (n : ℕ) (l u : ℤ) (j : ℕ) → AreOrdered second after n → j < n → (second j +ℤ after j) ≤ℤ l → Shows (offset_by second after n) l u → come_by second n u ≡ j → ⊥
not_before second after n l u j ordered lt past shows count =
    let later = (come_by-Come second n (seconds_rise second after n ordered) u).later j (omega (arith, count)) lt in
    let is = shown_at second after n l u j count shows in
    omega (arith, ints, later, is, past)

-- and none with j + 1, where l lies in front of the beginning of the offset after it
not_after : (second after : ℕ → ℤ) (n : ℕ) (l u : ℤ) (j : ℕ) → AreOrdered second after n → l <ℤ (second j +ℤ after (j + 1)) → Shows (offset_by second after n) l u → come_by second n u ≡ j + 1 → ⊥
not_after second after n l u j ordered short shows count =
    let come = (come_by-Come second n (seconds_rise second after n ordered) u).come j (omega (arith, count)) in
    let is = shown_at second after n l u (j + 1) count shows in
    omega (arith, ints, come, is, short)

one_fewer : (c j : ℕ) → c + 1 ≡ j + 1 → c ≡ j
one_fewer c j e = omega (arith, e)

-- the clock skips l at the change j
pub mapped_none : (second after : ℕ → ℤ) (n : ℕ) (l : ℤ) (j : ℕ) → AreOrdered second after n → Come (local_start second after) n l (j + 1) → l <ℤ (second j +ℤ after (j + 1)) → IsMapped (offset_by second after n) l NoInstant
mapped_none second after n l j ordered starts short u shows =
    let bound : j + 1 ≤ n = starts.bound in
    let start = starts.come j (omega arith) in
    let past : (second j +ℤ after j) ≤ℤ l = omega (arith, ints, clamps, start, short) in
    ⊎_elim
    (λ at. not_after second after n l u j ordered short shows at)
    (λ at. not_before second after n l u j ordered (omega (arith, bound)) past shows (one_fewer (come_by second n u) j at))
    (near_all second after n l (j + 1) ordered starts u shows)

-- the instant at the offset after the change j has j + 1 changes behind it
after_change : (second after : ℕ → ℤ) (n : ℕ) (l : ℤ) (j : ℕ) → AreOrdered second after n → Come (local_start second after) n l (j + 1) → (second j +ℤ after (j + 1)) ≤ℤ l → come_by second n (l -ℤ after (j + 1)) ≡ j + 1
after_change second after n l j ordered starts past =
    after_count second after n l (j + 1) ordered starts
    (λ i same. let here : second i ≡ second j = ap second (one_fewer i j same) in omega (arith, ints, past, here))

-- the clock shows l before the change j and after it
pub mapped_both : (second after : ℕ → ℤ) (n : ℕ) (l : ℤ) (j : ℕ) → AreOrdered second after n → Come (local_start second after) n l (j + 1) → (second j +ℤ after (j + 1)) ≤ℤ l → l <ℤ (second j +ℤ after j) → IsMapped (offset_by second after n) l (Ambiguous (after j) (after (j + 1)))
mapped_both second after n l j ordered starts past short = (
  omega (arith, ints, past, short),
  λ u. (
    (λ shows. ⊎_elim
        (λ at. inr (shown_at second after n l u (j + 1) at shows))
        (λ at. inl (shown_at second after n l u j (one_fewer (come_by second n u) j at) shows))
        (near_all second after n l (j + 1) ordered starts u shows)),
    (λ is. ⊎_elim
        (λ first. shows_at second after n l u j (ap (come_by second n) first ∙ before_count second after n l j ordered starts short) first)
        (λ later. shows_at second after n l u (j + 1) (ap (come_by second n) later ∙ after_change second after n l j ordered starts past) later)
        is),
  ),
)

-- the clock shows l after the change j alone
pub mapped_after : (second after : ℕ → ℤ) (n : ℕ) (l : ℤ) (j : ℕ) → AreOrdered second after n → Come (local_start second after) n l (j + 1) → (second j +ℤ after (j + 1)) ≤ℤ l → (second j +ℤ after j) ≤ℤ l → IsMapped (offset_by second after n) l (Single (after (j + 1)))
mapped_after second after n l j ordered starts past over u =
    let bound : j + 1 ≤ n = starts.bound in (
      (λ shows. ⊎_elim
          (λ at. shown_at second after n l u (j + 1) at shows)
          (λ at. absurd (not_before second after n l u j ordered (omega (arith, bound)) over shows (one_fewer (come_by second n u) j at)))
          (near_all second after n l (j + 1) ordered starts u shows)),
      (λ is. shows_at second after n l u (j + 1) (ap (come_by second n) is ∙ after_change second after n l j ordered starts past) is),
    )

-- ---- no change within a day of l

-- a change that comes more than a day later starts behind l
starts_later : (second after : ℕ → ℤ) (n : ℕ) (l : ℤ) (k : ℕ) → AreOrdered second after n → IsOffset (after k) → (k < n → IsOffset (after (k + 1))) → ((i : ℕ) → k ≤ i → i < n → (l +ℤ pos 86_400) <ℤ second i) → (i : ℕ) → k ≤ i → i < n → l <ℤ local_start second after i
starts_later second after n l k ordered here next behind i le lt =
    let late = behind k (omega arith) (omega (arith, le, lt)) in
    let near = next (omega (arith, le, lt)) in
    let start : l <ℤ local_start second after k = omega (arith, ints, clamps, late, here, near) in
    let rise = IsRising-le (local_start second after) n (starts_rise second after n ordered) k i le lt in
    omega (arith, ints, start, rise)

pub settled_first : (second after : ℕ → ℤ) (n : ℕ) (l : ℤ) → AreOrdered second after n → IsOffset (after 0) → (0 < n → IsOffset (after 1)) → ((i : ℕ) → 0 ≤ i → i < n → (l +ℤ pos 86_400) <ℤ second i) → IsMapped (offset_by second after n) l (Single (after 0))
settled_first second after n l ordered here next behind = mapped_first second after n l ordered (record {
  bound = omega arith;
  come = λ i lt. absurd (omega (arith, lt));
  later = starts_later second after n l 0 ordered here next behind;
})

pub settled_after : (second after : ℕ → ℤ) (n : ℕ) (l : ℤ) (j : ℕ) → AreOrdered second after n → j < n → IsOffset (after j) → IsOffset (after (j + 1)) → (j + 1 < n → IsOffset (after (j + 1 + 1))) → second j <ℤ (l -ℤ pos 86_400) → ((i : ℕ) → j + 1 ≤ i → i < n → (l +ℤ pos 86_400) <ℤ second i) → IsMapped (offset_by second after n) l (Single (after (j + 1)))
settled_after second after n l j ordered lt before here next early behind =
    let start : local_start second after j ≤ℤ l = omega (arith, ints, clamps, early, before, here) in
    let starts : Come (local_start second after) n l (j + 1) = record {
      bound = omega (arith, lt);
      come = λ i below.
          let rise = IsRising-le (local_start second after) n (starts_rise second after n ordered) i j (omega (arith, below)) lt in
          omega (arith, ints, rise, start);
      later = starts_later second after n l (j + 1) ordered here next behind;
    } in
    mapped_after second after n l j ordered starts (omega (arith, ints, early, here)) (omega (arith, ints, early, before))
