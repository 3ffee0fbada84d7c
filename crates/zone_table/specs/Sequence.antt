-- A clock whose offset changes at n seconds: the k-th change is at the second `second k`, and `after k` is the offset once k changes have come.
use Rattle.std.specs.Prelude.{◌≡◌, ◌≢◌, ℕ, zero, suc, ◌+◌, ◌<◌, ◌≤◌, if◌then◌else◌, ℤ, ◌+ℤ◌, ◌<ℤ◌, ◌≤ℤ◌, int_le}
use Rattle.std.specs.Int.{int_max, int_min}

-- each of the first n values is at most the next one
abbrev pub IsRising : (ℕ → ℤ) → ℕ → Type 0
IsRising key n = (k : ℕ) → k + 1 < n → key k ≤ℤ key (k + 1)

-- how many of the first n changes have come by the second u
unfoldable pub come_by : (ℕ → ℤ) → ℕ → ℤ → ℕ
come_by second zero u = 0
come_by second (suc n) u = come_by second n u + (if int_le (second n) u then 1 else 0)

-- the first c of n changes have come by the second u, and the rest have not
pub record Come (second : ℕ → ℤ) (n : ℕ) (u : ℤ) (c : ℕ) : Type 0 where
  pub bound : c ≤ n
  pub come : (i : ℕ) → i < c → second i ≤ℤ u
  pub later : (i : ℕ) → c ≤ i → i < n → u <ℤ second i

-- the offset at the second u
abbrev pub offset_by : (ℕ → ℤ) → (ℕ → ℤ) → ℕ → ℤ → ℤ
offset_by second after n u = after (come_by second n u)

-- the local second from which the clock skips or repeats seconds at the change k
abbrev pub local_start : (ℕ → ℤ) → (ℕ → ℤ) → ℕ → ℤ
local_start second after k = second k +ℤ int_min (after k) (after (k + 1))

-- the local second from which it does so no more
abbrev pub local_end : (ℕ → ℤ) → (ℕ → ℤ) → ℕ → ℤ
local_end second after k = second k +ℤ int_max (after k) (after (k + 1))

-- the change behind k comes later, and the local seconds that it skips or repeats come no earlier than the end of those of k
pub record Follows (second after : ℕ → ℤ) (k : ℕ) : Type 0 where
  pub rises : second k <ℤ second (k + 1)
  pub apart : local_end second after k ≤ℤ local_start second after (k + 1)

-- so it is of all changes
abbrev pub AreOrdered : (ℕ → ℤ) → (ℕ → ℤ) → ℕ → Type 0
AreOrdered second after n = (k : ℕ) → k + 1 < n → Follows second after k

-- ---- which change is the next or the last that sets another offset, once c changes have come

-- the change p is the first of the n changes behind the first c that does
pub record ChangesFirst (after : ℕ → ℤ) (c n p : ℕ) : Type 0 where
  pub behind : c ≤ p
  pub in_range : p < n
  pub changes : after (p + 1) ≢ after p
  pub same : (k : ℕ) → c ≤ k → k ≤ p → after k ≡ after c

-- the change p is the last of the first c that does
pub record ChangesLast (after : ℕ → ℤ) (c p : ℕ) : Type 0 where
  pub before : p < c
  pub changes : after (p + 1) ≢ after p
  pub same : (k : ℕ) → p < k → k ≤ c → after k ≡ after c

-- none of the n changes behind the first c does
abbrev pub IsSameFrom : (ℕ → ℤ) → ℕ → ℕ → Type 0
IsSameFrom after c n = (k : ℕ) → c ≤ k → k ≤ n → after k ≡ after c

-- none of the first c does
abbrev pub IsSameTo : (ℕ → ℤ) → ℕ → Type 0
IsSameTo after c = (k : ℕ) → k ≤ c → after k ≡ after c
