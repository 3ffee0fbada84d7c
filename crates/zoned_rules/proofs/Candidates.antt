-- What a search by candidates has passed.
use Rattle.std.proofs.Common.{◌≡◌, ◌⊎◌, inl, inr, ⊎_elim, ℤ, pos, ◌+ℤ◌, ◌-ℤ◌, ◌≤ℤ◌, ◌<ℤ◌, true, Option, Some, IfSome, IsFalse, arith, subst, sym}
use Rattle.std.proofs.lemmas.Bool.{true_from_ne_false}
use Rattle.std.proofs.lemmas.Int.{by_lt_z, ints}
use Rattle.chrono_datetime.specs.Moment.{Moment}
use Rattle.chrono_instant.specs.Instants.{epoch_second}
use Rattle.zoned_rules.specs.LocalTimes.{LocalParts}
use Rattle.zoned_rules.specs.Recurs.{RecursFor}
use Rattle.zoned_rules.specs.Private.{ComesAfter, ComesBefore}
use Rattle.zoned_rules.specs.declared.search.near_changes.Candidate.{Candidate}

-- by one of two offsets the clock shows a local time at u, or would show it
abbrev pub IsByOne : ℤ → ℤ → ℤ → ℤ → Type 0
IsByOne one other l u = ((u +ℤ one) ≡ l) ⊎ ((u +ℤ other) ≡ l)

-- of two values of which P holds, either is one
pub either_of : {X : Type 0} (P : X → Type 0) (a b r : Option X) → (r ≡ a) ⊎ (r ≡ b) → IfSome a P → IfSome b P → IfSome r P
either_of {X} P a b r is h k = ⊎_elim (λ e. subst (λ (o : Option X). IfSome o P) (sym e) h) (λ e. subst (λ (o : Option X). IfSome o P) (sym e) k) is

module _ (r : LocalParts) (ahead : ℤ → ℤ) where
  -- each instant between two seconds is led to by one of two offsets
  abbrev pub AreByOne : ℤ → ℤ → ℤ → ℤ → Type 0
  AreByOne one other after end = (m : Moment) (u : ℤ) → RecursFor r ahead m u → after <ℤ u → u <ℤ end → IsByOne one other (epoch_second m) u

  -- each lies behind a second
  abbrev pub LieBehind : ℤ → ℤ → ℤ → Type 0
  LieBehind after end second = (m : Moment) (u : ℤ) → RecursFor r ahead m u → after <ℤ u → u <ℤ end → second <ℤ u

  -- or before it
  abbrev pub LieBefore : ℤ → ℤ → ℤ → Type 0
  LieBefore low end second = (m : Moment) (u : ℤ) → RecursFor r ahead m u → low ≤ℤ u → u <ℤ end → u <ℤ second

  -- the candidate behind a second is reached by each instant
  abbrev pub IsNextCandidate : ℤ → ℤ → ℤ → Option Candidate → Type 0
  IsNextCandidate one other second found = (m : Moment) (u : ℤ) → RecursFor r ahead m u → second <ℤ u → IsByOne one other (epoch_second m) u → ComesAfter found u

  abbrev pub IsPreviousCandidate : ℤ → ℤ → ℤ → Option Candidate → Type 0
  IsPreviousCandidate one other second found = (m : Moment) (u : ℤ) → RecursFor r ahead m u → u <ℤ second → IsByOne one other (epoch_second m) u → ComesBefore found u

  -- what the local time l makes a candidate of: if it stands for no instant there, no local time of that second does
  abbrev pub IsOfLocal : ℤ → ℤ → Candidate → Type 0
  IsOfLocal offset l c = ((c.second +ℤ offset) ≡ l) × (IsFalse c.stands → (q : Moment) → epoch_second q ≡ l → ¬ RecursFor r ahead q c.second)

  -- it is reached by each instant of a local time that is no earlier, or no later
  pub reached_at : (offset l : ℤ) (c : Candidate) (m : Moment) (u : ℤ) → IsOfLocal offset l c → RecursFor r ahead m u → (u +ℤ offset) ≡ epoch_second m → l ≤ℤ epoch_second m → ComesAfter (Some c) u
  reached_at offset l c m u (at, never) h by le =
      by_lt_z c.second u (λ lt. inl lt)
      (λ ge.
      let same : u ≡ c.second = omega (arith, ints, ge, at, by, le) in
      inr (sym same, true_from_ne_false c.stands (λ f. never f m (omega (arith, ints, at, by, same)) (subst (λ (k : ℤ). RecursFor r ahead m k) same h))))

  pub reached_back_at : (offset l : ℤ) (c : Candidate) (m : Moment) (u : ℤ) → IsOfLocal offset l c → RecursFor r ahead m u → (u +ℤ offset) ≡ epoch_second m → epoch_second m ≤ℤ l → ComesBefore (Some c) u
  reached_back_at offset l c m u (at, never) h by le =
      by_lt_z u c.second (λ lt. inl lt)
      (λ ge.
      let same : u ≡ c.second = omega (arith, ints, ge, at, by, le) in
      inr (sym same, true_from_ne_false c.stands (λ f. never f m (omega (arith, ints, at, by, same)) (subst (λ (k : ℤ). RecursFor r ahead m k) same h))))

  -- what does not stand is passed
  pub passed : (one other after end second : ℤ) (c : Candidate) → AreByOne one other after end → LieBehind after end second → IsNextCandidate one other second (Some c) → ¬ (c.stands ≡ true) → LieBehind after end c.second
  passed one other after end second c by behind next not m u h later within =
      ⊎_elim (λ lt. lt) (λ e. absurd (not e.1)) (next m u h (behind m u h later within) (by m u h later within))

  pub passed_back : (one other low end second : ℤ) (c : Candidate) → AreByOne one other (low -ℤ pos 1) end → LieBefore low end second → IsPreviousCandidate one other second (Some c) → ¬ (c.stands ≡ true) → LieBefore low end c.second
  passed_back one other low end second c by before previous not m u h within earlier =
      ⊎_elim (λ lt. lt) (λ e. absurd (not e.1)) (previous m u h (before m u h within earlier) (by m u h (omega (arith, ints, within)) earlier))

  -- and none comes before the candidate
  pub least_candidate : (one other after end second : ℤ) (c : Candidate) → AreByOne one other after end → LieBehind after end second → IsNextCandidate one other second (Some c) → c.second <ℤ end → (m : Moment) (u : ℤ) → RecursFor r ahead m u → after <ℤ u → c.second ≤ℤ u
  least_candidate one other after end second c by behind next within m u h later =
      by_lt_z u c.second
      (λ lt.
      let inside : u <ℤ end = omega (arith, ints, lt, within) in
      ⊎_elim (λ gt. omega (arith, ints, gt)) (λ e. omega (arith, ints, e.0)) (next m u h (behind m u h later inside) (by m u h later inside)))
      (λ ge. ge)

  pub greatest_candidate : (one other low end second : ℤ) (c : Candidate) → AreByOne one other (low -ℤ pos 1) end → LieBefore low end second → IsPreviousCandidate one other second (Some c) → low ≤ℤ c.second → (m : Moment) (u : ℤ) → RecursFor r ahead m u → u <ℤ end → u ≤ℤ c.second
  greatest_candidate one other low end second c by before previous within m u h earlier =
      by_lt_z c.second u
      (λ gt.
      let inside : low ≤ℤ u = omega (arith, ints, gt, within) in
      ⊎_elim (λ lt. omega (arith, ints, lt)) (λ e. omega (arith, ints, e.0)) (previous m u h (before m u h inside earlier) (by m u h (omega (arith, ints, inside)) earlier)))
      (λ le. le)
