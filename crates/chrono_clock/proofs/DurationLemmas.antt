-- Lemmas on durations: one answer under two spellings of its number, order by seconds and nanoseconds, division in two steps.
use Rattle.std.proofs.Common.{lit<, ◌≡◌, ℕ, zero, suc, ◌+◌, ◌*◌, ◌/◌, ◌<◌, ◌≤◌, ℤ, pos, negsuc, ◌+ℤ◌, ◌*ℤ◌, ◌<ℤ◌, neg_ℤ, arith, refl, sym, ap, ◌∙◌, subst, unsigned_abs, int_div, int_rem, ◌%◌, int_cmp}
use Rattle.std.proofs.Math.Nat.{add-mul, add_comm, add-mul-div_right, div-le_self, div-mul-le_self}
use Rattle.std.proofs.lemmas.Nat.{le-div}
use borrow.Author.Differences.{up, down, neg_is}
use native.Mathlib.Nat.{zero-div}
use Rattle.std.specs.Int.{int_rem_euclid}
use Rattle.std.specs.Ordering.{nat_cmp, ordering_then, MatchOrdering}
use Rattle.std.specs.declared.cmp.Ordering.{Ordering}
use Rattle.std.specs.declared.cmp.Ordering.TheVariants.{Less, Equal, Greater}
use Rattle.std.specs.Cmp.{int_cmp_is}
use Rattle.std.proofs.lemmas.Cmp.{ranked, int_ranked}
use Rattle.std.specs.Prelude.{Option, Some, None}
use Rattle.std.specs.Option.{SomeIff}
use Rattle.chrono_clock.specs.Duration.{IsDuration, longest, nanos_of, floor_secs, past_floor, two_step_quotient}
use Rattle.chrono_clock.specs.StoredLemmas.{floor_secs-nanos_of, past_floor-nanos_of}
use Rattle.chrono_text.proofs.Signed.{signed}

-- ---- answers

-- the duration of a number, under another spelling of the number
pub SomeIff-along : (r : Option ℤ) (x y : ℤ) → x ≡ y → SomeIff r (IsDuration x) x → SomeIff r (IsDuration y) y
SomeIff-along r x y e h = let P : ℤ → Type 0 = λ z. SomeIff r (IsDuration z) z in subst P e h

-- the same answer under another premise and another spelling of the value
pub SomeIff-same : {T : Type 0} (r : Option T) (P Q : Type 0) (v w : T) → (P → Q) → (Q → P) → v ≡ w → SomeIff r P v → SomeIff r Q w
SomeIff-same None P Q v w f g e h = λ q. h (g q)
SomeIff-same (Some x) P Q v w f g e h = (f h.0, h.1 ∙ e)

-- ---- order

-- seconds and then nanoseconds compare as the numbers do
ranks_then : (s t : ℤ) (m n : ℕ) (x y : ℤ) (o p : Ordering) → x ≡ nanos_of s m → y ≡ nanos_of t n → m < 1_000_000_000 → n < 1_000_000_000 → MatchOrdering o (s <ℤ t) (s ≡ t) (t <ℤ s) → MatchOrdering p (m < n) (m ≡ n) (n < m) → MatchOrdering (ordering_then o p) (x <ℤ y) (x ≡ y) (y <ℤ x)
ranks_then s t m n x y Less p e f h k l g = omega (arith, signed)
ranks_then s t m n x y Greater p e f h k l g = omega (arith, signed)
ranks_then s t m n x y Equal Less e f h k l g = omega (arith, signed)
ranks_then s t m n x y Equal Equal e f h k l g = omega (arith, signed)
ranks_then s t m n x y Equal Greater e f h k l g = omega (arith, signed)

pub int_cmp-nanos_of : (s t : ℤ) (m n : ℕ) (x y : ℤ) (o p r : Ordering) → x ≡ nanos_of s m → y ≡ nanos_of t n → m < 1_000_000_000 → n < 1_000_000_000 → o ≡ int_cmp s t → p ≡ nat_cmp m n → r ≡ ordering_then o p → r ≡ int_cmp x y
int_cmp-nanos_of s t m n x y o p r e f h k i j q = q ∙ int_cmp_is x y (ordering_then o p) (ranks_then s t m n x y o p e f h k (int_ranked s t o i) (ranked m n p j))

-- ---- division

-- a quotient is no longer than what is divided
unsigned_abs-int_div : (a d : ℤ) → unsigned_abs (int_div a d) ≤ unsigned_abs a
unsigned_abs-int_div (pos a) (pos b) = div-le_self a b
unsigned_abs-int_div (pos a) (negsuc b) = omega (arith, signed, div-le_self a (suc b))
unsigned_abs-int_div (negsuc a) (pos b) = omega (arith, signed, div-le_self (suc a) b)
unsigned_abs-int_div (negsuc a) (negsuc b) = div-le_self (suc a) (suc b)

-- by 2 or more a quotient is at most the half
half : (a d : ℕ) → a / suc (suc d) ≤ a / 2
half a d = le-div (a / suc (suc d)) a 2 (omega arith) (omega (arith, div-mul-le_self a (suc (suc d))))

-- a part that is longer than the whole by n gives a quotient that is longer than the whole by n's quotient at most
past_whole : (a n d whole : ℕ) → n < 1_000_000_000 → a ≤ whole + n → 1_000_000_000 < whole → a / suc d ≤ whole + n / suc d
past_whole a n zero whole h k l = omega arith
past_whole a n (suc d) whole h k l = omega (arith, half a d)

-- the parts of a quotient by a negative number
int_div-negative : (a : ℤ) (d : ℕ) → (up (int_div a (negsuc d)) ≡ down a / suc d) × (down (int_div a (negsuc d)) ≡ up a / suc d)
int_div-negative (pos a) d = ((neg_is (pos (a / suc d))).0 ∙ sym (zero-div (suc d)), (neg_is (pos (a / suc d))).1)
int_div-negative (negsuc a) d = (refl, sym (zero-div (suc d)))

-- long division: what the quotient of a leaves is divided after it is taken k times
long_division : (a k d : ℕ) → (a * k) / suc d ≡ (a / suc d) * k + ((a % suc d) * k) / suc d
long_division a k d =
    let parts : a ≡ (a / suc d) * suc d + a % suc d = omega arith in
    let whole : a * k ≡ (a % suc d) * k + (a / suc d) * k * suc d = omega (arith, ap (λ x. x * k) parts, add-mul ((a / suc d) * suc d) (a % suc d) k) in
    ap (λ x. x / suc d) whole ∙ add-mul-div_right ((a % suc d) * k) ((a / suc d) * k) (omega arith) ∙ add_comm (((a % suc d) * k) / suc d) ((a / suc d) * k)

-- a negative number is divided by its size
int_div-below_zero : (n d : ℕ) → (int_div (neg_ℤ (pos n)) (pos (suc d)) ≡ neg_ℤ (pos (n / suc d))) × (int_div (neg_ℤ (pos n)) (negsuc d) ≡ pos (n / suc d))
int_div-below_zero zero d = let e = zero-div (suc d) in (rw e refl, rw e refl)
int_div-below_zero (suc n) d = (refl, refl)

in_nanos-below_zero : (n : ℕ) → neg_ℤ (pos n) *ℤ pos 1_000_000_000 ≡ neg_ℤ (pos (n * 1_000_000_000))
in_nanos-below_zero n = omega (arith, signed)

-- so the seconds of a duration are divided in two steps, by a divisor of any sign
int_div-seconds : (s r : ℤ) → int_div s r *ℤ pos 1_000_000_000 +ℤ int_div (int_rem s r *ℤ pos 1_000_000_000) r ≡ int_div (s *ℤ pos 1_000_000_000) r
int_div-seconds s (pos zero) = omega (arith, signed)
int_div-seconds (pos a) (pos (suc d)) = omega (arith, signed, long_division a 1_000_000_000 d)
int_div-seconds (pos a) (negsuc d) = omega (arith, signed, long_division a 1_000_000_000 d)
int_div-seconds (negsuc a) (pos (suc d)) =
    let by : ℤ → ℤ = λ z. int_div z (pos (suc d)) in
    let rest = ap by (in_nanos-below_zero (suc a % suc d)) ∙ (int_div-below_zero ((suc a % suc d) * 1_000_000_000) d).0 in
    let whole = ap by (in_nanos-below_zero (suc a)) ∙ (int_div-below_zero (suc a * 1_000_000_000) d).0 in
    omega (arith, signed, rest, whole, long_division (suc a) 1_000_000_000 d)
int_div-seconds (negsuc a) (negsuc d) =
    let by : ℤ → ℤ = λ z. int_div z (negsuc d) in
    let rest = ap by (in_nanos-below_zero (suc a % suc d)) ∙ (int_div-below_zero ((suc a % suc d) * 1_000_000_000) d).1 in
    let whole = ap by (in_nanos-below_zero (suc a)) ∙ (int_div-below_zero (suc a * 1_000_000_000) d).1 in
    omega (arith, signed, rest, whole, long_division (suc a) 1_000_000_000 d)

-- the size of a sum of numbers of any signs, and of a negative and a positive number
unsigned_abs-sum : (p q : ℤ) (m n top : ℕ) → unsigned_abs p ≤ m → unsigned_abs q ≤ n → m + n ≤ top → unsigned_abs (p +ℤ q) ≤ top
unsigned_abs-sum p q m n top h k l = omega (arith, signed)

unsigned_abs-sum_down_up : (p q : ℤ) (top : ℕ) → up p ≡ 0 → down q ≡ 0 → down p ≤ top + up q → up q ≤ top → unsigned_abs (p +ℤ q) ≤ top
unsigned_abs-sum_down_up p q top h k l i = omega (arith, signed)

unsigned_abs-sum_up_down : (p q : ℤ) (top : ℕ) → down p ≡ 0 → up q ≡ 0 → up p ≤ top + down q → down q ≤ top → unsigned_abs (p +ℤ q) ≤ top
unsigned_abs-sum_up_down p q top h k l i = omega (arith, signed)

-- a quotient in two steps is a duration
IsDuration-two_steps : (s r : ℤ) (n : ℕ) → n < 1_000_000_000 → IsDuration (nanos_of s n) → IsDuration (int_div (s *ℤ pos 1_000_000_000) r +ℤ int_div (pos n) r)
IsDuration-two_steps (pos a) r n h k =
    unsigned_abs-sum (int_div (pos (a * 1_000_000_000)) r) (int_div (pos n) r) (a * 1_000_000_000) n longest
    (unsigned_abs-int_div (pos (a * 1_000_000_000)) r) (unsigned_abs-int_div (pos n) r) (omega arith)
IsDuration-two_steps (negsuc a) (pos zero) n h k = omega (arith, signed)
IsDuration-two_steps (negsuc a) (pos (suc d)) n h k =
    let secs = past_whole (down (negsuc a *ℤ pos 1_000_000_000)) n d longest h (omega (arith, signed)) (lit< tt) in
    let nanos = div-le_self n (suc d) in
    unsigned_abs-sum_down_up (int_div (negsuc a *ℤ pos 1_000_000_000) (pos (suc d))) (int_div (pos n) (pos (suc d))) longest
    (omega (arith, signed)) (omega (arith, signed)) (omega (arith, signed, secs)) (omega (arith, signed, nanos))
IsDuration-two_steps (negsuc a) (negsuc d) n h k =
    let secs = past_whole (down (negsuc a *ℤ pos 1_000_000_000)) n d longest h (omega (arith, signed)) (lit< tt) in
    let nanos = div-le_self n (suc d) in
    let u = int_div-negative (negsuc a *ℤ pos 1_000_000_000) d in
    let v = int_div-negative (pos n) d in
    unsigned_abs-sum_up_down (int_div (negsuc a *ℤ pos 1_000_000_000) (negsuc d)) (int_div (pos n) (negsuc d)) longest
    (omega (arith, signed, u)) (omega (arith, signed, v)) (omega (arith, signed, secs, u, v)) (omega (arith, signed, nanos, v))

two_step_quotient-nanos_of : (s r : ℤ) (n : ℕ) → n < 1_000_000_000 → two_step_quotient (nanos_of s n) r ≡ int_div (s *ℤ pos 1_000_000_000) r +ℤ int_div (pos n) r
two_step_quotient-nanos_of s r n h =
    let e = floor_secs-nanos_of s n h in
    let f = past_floor-nanos_of s n h in
    ap (λ t. int_div (t *ℤ pos 1_000_000_000) r +ℤ int_div (pos (past_floor (nanos_of s n))) r) e
    ∙ ap (λ m. int_div (s *ℤ pos 1_000_000_000) r +ℤ int_div (pos m) r) f

-- the quotient of a stored duration is a duration
pub IsDuration-two_step_quotient : (s r : ℤ) (n : ℕ) (x : ℤ) → n < 1_000_000_000 → IsDuration (nanos_of s n) → nanos_of s n ≡ x → IsDuration (two_step_quotient x r)
IsDuration-two_step_quotient s r n x h d e =
    let D : ℤ → Type 0 = IsDuration in
    subst D (sym (two_step_quotient-nanos_of s r n h) ∙ ap (λ z. two_step_quotient z r) e) (IsDuration-two_steps s r n h d)

-- and is made of three quotients
pub two_step_quotient-by_parts : (s r : ℤ) (n : ℕ) (x : ℤ) → n < 1_000_000_000 → nanos_of s n ≡ x → int_div s r *ℤ pos 1_000_000_000 +ℤ (int_div (int_rem s r *ℤ pos 1_000_000_000) r +ℤ int_div (pos n) r) ≡ two_step_quotient x r
two_step_quotient-by_parts s r n x h e =
    let regrouped : (a b c : ℤ) → a +ℤ (b +ℤ c) ≡ (a +ℤ b) +ℤ c = λ a b c. omega (arith, signed) in
    regrouped (int_div s r *ℤ pos 1_000_000_000) (int_div (int_rem s r *ℤ pos 1_000_000_000) r) (int_div (pos n) r)
    ∙ ap (λ z. z +ℤ int_div (pos n) r) (int_div-seconds s r)
    ∙ sym (two_step_quotient-nanos_of s r n h)
    ∙ ap (λ z. two_step_quotient z r) e

-- ---- multiplication

-- a sum of three parts is so many times each part
times_each : (a b c k : ℕ) → (a + b + c) * k ≡ a * k + b * k + c * k
times_each a b c k = add-mul (a + b) c k ∙ ap (λ x. x + c * k) (add-mul a b k)

times_both : (a b c d e f k : ℕ) → a + b + c ≡ d + e + f → a * k + b * k + c * k ≡ d * k + e * k + f * k
times_both a b c d e f k h = sym (times_each a b c k) ∙ ap (λ x. x * k) h ∙ times_each d e f k

-- seconds and nanoseconds are multiplied apart
pub nanos_of-times : (s : ℤ) (n : ℕ) (r : ℤ) → (s *ℤ r) *ℤ pos 1_000_000_000 +ℤ pos n *ℤ r ≡ nanos_of s n *ℤ r
nanos_of-times s n r =
    let x = nanos_of s n in
    let forth = up s * 1_000_000_000 in
    let back = down s * 1_000_000_000 in
    let parts : up x + back + 0 ≡ down x + forth + n = omega (arith, signed) in
    omega (arith, signed, times_both (up x) back 0 (down x) forth n (up r) parts, times_both (up x) back 0 (down x) forth n (down r) parts)

-- ---- carried seconds

-- nanoseconds of any sign carry their floor in seconds
pub nanos_of-carried : (s x q r : ℤ) → q ≡ floor_secs x → r ≡ int_rem_euclid x (pos 1_000_000_000) → nanos_of (s +ℤ q) (unsigned_abs r) ≡ s *ℤ pos 1_000_000_000 +ℤ x
nanos_of-carried s x q r e f = omega (arith, signed)
