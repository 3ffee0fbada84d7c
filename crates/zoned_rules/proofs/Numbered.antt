-- The seconds of which a claim holds, numbered in their order.
use Rattle.std.proofs.Common.{◌≡◌, ℕ, zero, suc, ◌<◌, ◌≤◌, ℤ, pos, ◌≤ℤ◌, ◌<ℤ◌, arith, subst, sym}
use Rattle.std.proofs.lemmas.Int.{by_lt_z, ints}
use Rattle.zoned_rules.specs.Recurs.{IsLeastOf, IsNumbered, IsOneOf}

-- s is the last of n of them, or, if n is 0, comes before all
abbrev pub EndsFirst : (ℤ → Type 0) → ℕ → ℤ → Type 0
EndsFirst P zero s = (u : ℤ) → P u → s <ℤ u
EndsFirst P (suc k) s = IsNumbered P k s

-- the next one
pub one_more : (P : ℤ → Type 0) (n : ℕ) (s next : ℤ) → EndsFirst P n s → s <ℤ next → P next → ((u : ℤ) → s <ℤ u → P u → next ≤ℤ u) → EndsFirst P (suc n) next
one_more P zero s next h lt p least = record { member = p; least = λ w q. least w (h w q) q }
one_more P (suc k) s next h lt p least = record {
  last = s;
  previous = h;
  next = record { member = (lt, p); least = λ w q. least w q.0 q.1 };
}

pub counted_on : (P : ℤ → Type 0) (n m : ℕ) (s next : ℤ) → m ≡ suc n → EndsFirst P n s → s <ℤ next → P next → ((u : ℤ) → s <ℤ u → P u → next ≤ℤ u) → EndsFirst P m next
counted_on P n m s next is h lt p least = subst (λ (k : ℕ). EndsFirst P k next) (sym is) (one_more P n s next h lt p least)

same_least : (P : ℤ → Type 0) (u v : ℤ) → IsLeastOf P u → IsLeastOf P v → u ≡ v
same_least P u v a b = omega (arith, ints, a.least v b.member, b.least u a.member)

same_number : (P : ℤ → Type 0) (k : ℕ) (u v : ℤ) → IsNumbered P k u → IsNumbered P k v → u ≡ v
same_number P zero u v a b = same_least P u v a b
same_number P (suc k) u v a b =
    let one : a.last ≡ b.last = same_number P k a.last b.last a.previous b.previous in
    same_least (λ w. (b.last <ℤ w) × P w) u v (subst (λ (x : ℤ). IsLeastOf (λ w. (x <ℤ w) × P w) u) one a.next) b.next

in_order : (P : ℤ → Type 0) (k j : ℕ) (u s : ℤ) → k ≤ j → IsNumbered P k u → IsNumbered P j s → u ≤ℤ s
in_order P k zero u s le a b =
    let is : k ≡ 0 = omega (arith, le) in
    omega (arith, ints, same_number P zero u s (subst (λ (i : ℕ). IsNumbered P i u) is a) b)
in_order P k (suc j) u s le a b =
    by_lt_z (pos k) (pos (suc j))
    (λ lt. omega (arith, ints, in_order P k j u b.last (omega (arith, ints, lt)) a b.previous, b.next.member.0))
    (λ ge.
    let is : k ≡ suc j = omega (arith, ints, le, ge) in
    omega (arith, ints, same_number P (suc j) u s (subst (λ (i : ℕ). IsNumbered P i u) is a) b))

up_to : (P : ℤ → Type 0) (j : ℕ) (u s : ℤ) → P u → u ≤ℤ s → IsNumbered P j s → IsOneOf P (suc j) u
up_to P zero u s p le b =
    let is : s ≡ u = omega (arith, ints, le, b.least u p) in
    record { number = 0; fewer = omega arith; numbered = subst (λ (x : ℤ). IsLeastOf P x) is b }
up_to P (suc j) u s p le b =
    by_lt_z b.last u
    (λ lt.
    let is : s ≡ u = omega (arith, ints, le, b.next.least u (lt, p)) in
    record { number = suc j; fewer = omega arith; numbered = subst (λ (x : ℤ). IsNumbered P (suc j) x) is b })
    (λ ge.
    let h = up_to P j u b.last p ge b.previous in
    record { number = h.number; fewer = omega (arith, h.fewer); numbered = h.numbered })

pub inside : (P : ℤ → Type 0) (n c : ℕ) (u s : ℤ) → EndsFirst P n s → n ≤ c → P u → u ≤ℤ s → IsOneOf P c u
inside P zero c u s h few p le = absurd (omega (arith, ints, le, h u p))
inside P (suc k) c u s h few p le =
    let one = up_to P k u s p le h in
    record { number = one.number; fewer = omega (arith, one.fewer, few); numbered = one.numbered }

pub outside : (P : ℤ → Type 0) (n : ℕ) (u s : ℤ) → EndsFirst P n s → IsOneOf P n u → u ≤ℤ s
outside P zero u s h one = absurd (omega (arith, one.fewer))
outside P (suc k) u s h one = in_order P one.number k u s (omega (arith, one.fewer)) one.numbered h

later_number : (P : ℤ → Type 0) (j k : ℕ) (u v : ℤ) → j < k → IsNumbered P j u → IsNumbered P k v → u <ℤ v
later_number P j zero u v lt a b = absurd (omega (arith, lt))
later_number P j (suc k) u v lt a b =
    omega (arith, ints, in_order P j k u b.last (omega (arith, lt)) a b.previous, b.next.member.0)

pub one_number : (P : ℤ → Type 0) (j k : ℕ) (u : ℤ) → IsNumbered P j u → IsNumbered P k u → j ≡ k
one_number P j k u a b =
    by_lt_z (pos j) (pos k) (λ lt. absurd (omega (arith, ints, later_number P j k u u (omega (arith, ints, lt)) a b)))
    (λ ge. by_lt_z (pos k) (pos j) (λ gt. absurd (omega (arith, ints, later_number P k j u u (omega (arith, ints, gt)) b a)))
    (λ le. omega (arith, ints, ge, le)))
