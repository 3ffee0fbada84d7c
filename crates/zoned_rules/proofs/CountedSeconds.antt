-- The seconds of which a claim holds, counted in ranges that follow one another.
use Rattle.std.proofs.Common.{◌≡◌, ℕ, zero, suc, ◌+◌, ◌-◌, ◌*◌, ◌<◌, ◌≤◌, ◌&&◌, Bool, true, false, cond, refl, ap, ◌∙◌, ℤ, pos, ◌+ℤ◌, ◌≤ℤ◌, ◌<ℤ◌, arith, subst}
use Rattle.std.proofs.lemmas.Int.{by_lt_z, ints}
use Rattle.chrono_datetime.specs.PassedOver.{PassedNumbers}
use Rattle.zoned_rules.specs.Recurs.{IsOneOf}
use Rattle.zoned_rules.specs.Private.{AreBehind, count_below}
use Rattle.zoned_rules.proofs.Numbered.{EndsFirst, inside, one_more, outside}

pub in_order : (P : ℤ → Type 0) (n : ℕ) (a b : ℤ) → AreBehind P n a b → a ≤ℤ b
in_order P zero a b h = h.0
in_order P (suc n) a b (v, (first, rest)) = omega (arith, ints, first.member.0, in_order P n v b rest)

-- nothing more in front
begun_earlier : (P : ℤ → Type 0) (n : ℕ) (a b c : ℤ) → AreBehind P 0 a b → AreBehind P n b c → AreBehind P n a c
begun_earlier P zero a b c none h =
    (omega (arith, ints, none.0, h.0), λ u low high. by_lt_z b u (λ lt. h.1 u lt high) (λ ge. none.1 u low ge))
begun_earlier P (suc n) a b c none (v, (first, rest)) = (
  v,
  (
    record {
      member = (omega (arith, ints, none.0, first.member.0), first.member.1);
      least = λ w q. by_lt_z b w (λ lt. first.least w (lt, q.1)) (λ ge. absurd (none.1 w q.0 ge q.1));
    },
    rest,
  ),
)

pub are_sum : (P : ℤ → Type 0) (n m i : ℕ) (a b c : ℤ) → i ≡ n + m → AreBehind P n a b → AreBehind P m b c → AreBehind P i a c
are_sum P zero m i a b c is h k =
    let same : m ≡ i = omega (arith, is) in
    subst (λ (j : ℕ). AreBehind P j a c) same (begun_earlier P m a b c h k)
are_sum P (suc n) m i a b c is (v, (first, rest)) k =
    let same : suc (n + m) ≡ i = omega (arith, is) in
    subst (λ (j : ℕ). AreBehind P j a c) same (v, (first, are_sum P n m (n + m) v b c refl rest k))

-- the next one
pub one_behind : (P : ℤ → Type 0) (a v : ℤ) → a <ℤ v → P v → ((u : ℤ) → a <ℤ u → P u → v ≤ℤ u) → AreBehind P 1 a v
one_behind P a v lt p least =
    (v, (record { member = (lt, p); least = λ w q. least w q.0 q.1 }, (omega (arith, ints), λ u low high q. absurd (omega (arith, ints, low, high)))))

-- ---- what they number

-- the last of so many seconds, and none behind it up to a second
record IsLastUpTo (P : ℤ → Type 0) (n : ℕ) (b : ℤ) : Type 0 where
  last : ℤ
  numbered : EndsFirst P n last
  not_after : last ≤ℤ b
  none : (u : ℤ) → last <ℤ u → u ≤ℤ b → ¬ P u

last_behind : (P : ℤ → Type 0) (k n i : ℕ) (a b : ℤ) → i ≡ k + n → EndsFirst P k a → AreBehind P n a b → IsLastUpTo P i b
last_behind P k zero i a b is e h = let same : k ≡ i = omega (arith, is) in record {
  last = a;
  numbered = subst (λ (j : ℕ). EndsFirst P j a) same e;
  not_after = h.0;
  none = h.1;
}
last_behind P k (suc n) i a b is e (v, (first, rest)) =
    last_behind P (suc k) n i v b (omega (arith, is)) (one_more P k a v e first.member.0 first.member.1 (λ u low q. first.least u (low, q))) rest

-- up to the end of a count, each is one of so many
pub counted_inside : (P : ℤ → Type 0) (n c : ℕ) (a b u : ℤ) → ((w : ℤ) → P w → a <ℤ w) → AreBehind P n a b → n ≤ c → P u → u ≤ℤ b → IsOneOf P c u
counted_inside P n c a b u all h few p le =
    let l = last_behind P 0 n n a b (omega arith) all h in
    inside P n c u l.last l.numbered few p (by_lt_z l.last u (λ lt. absurd (l.none u lt le p)) (λ ge. ge))

pub counted_outside : (P : ℤ → Type 0) (n : ℕ) (a b u : ℤ) → ((w : ℤ) → P w → a <ℤ w) → AreBehind P n a b → IsOneOf P n u → u ≤ℤ b
counted_outside P n a b u all h one =
    let l = last_behind P 0 n n a b (omega arith) all h in
    omega (arith, ints, outside P n u l.last l.numbered one, l.not_after)

-- ---- seconds in a row, each of which a test tells

one_second : (P : ℤ → Type 0) (b : Bool) (a v : ℤ) → v ≡ (a +ℤ pos 1) → (P v → b ≡ true) → (b ≡ true → P v) → AreBehind P (cond b 1 0) a v
one_second P true a v is test_on holds = one_behind P a v (omega (arith, ints, is)) (holds refl) (λ u low q. omega (arith, ints, is, low))
one_second P false a v is test_on holds =
    (omega (arith, ints, is), λ u low high q. let at : u ≡ v = omega (arith, ints, is, low, high) in let t : false ≡ true = test_on (subst P at q) in cc)

-- behind a second a
pub seconds_counted : (P : ℤ → Type 0) (test : ℕ → Bool) (n : ℕ) (a : ℤ) → ((k : ℕ) → k < n → P (a +ℤ pos (suc k)) → test k ≡ true) → ((k : ℕ) → k < n → test k ≡ true → P (a +ℤ pos (suc k))) → AreBehind P (count_below test n) a (a +ℤ pos n)
unfolding count_below
seconds_counted P test zero a test_on holds = (omega (arith, ints), λ u low high q. omega (arith, ints, low, high))
seconds_counted P test (suc n) a test_on holds =
    are_sum P (count_below test n) (cond (test n) 1 0) (count_below test (suc n)) a (a +ℤ pos n) (a +ℤ pos (suc n)) refl
    (seconds_counted P test n a (λ k lt. test_on k (omega (arith, lt))) (λ k lt. holds k (omega (arith, lt))))
    (one_second P (test n) (a +ℤ pos n) (a +ℤ pos (suc n)) (omega (arith, ints)) (test_on n (omega arith)) (holds n (omega arith)))

-- ---- numbers that pass a test

pub count-zero : (test : ℕ → Bool) → 0 ≡ count_below test 0
unfolding count_below
count-zero test = refl

count-passed_by : (test : ℕ → Bool) (n j m : ℕ) → m ≡ n + j → ((k : ℕ) → n ≤ k → k < m → test k ≡ false) → count_below test m ≡ count_below test n
unfolding count_below
count-passed_by test n zero m is none = ap (count_below test) (omega (arith, is))
count-passed_by test n (suc j) m is none =
    let at : m ≡ suc (n + j) = omega (arith, is) in
    ap (count_below test) at ∙ (ap (λ b. count_below test (n + j) + cond b 1 0) (none (n + j) (omega arith) (omega (arith, at))) ∙ omega (arith, count-passed_by test n j (n + j) refl (λ k low high. none k low (omega (arith, at, high)))))

pub count-passed : (test : ℕ → Bool) (n m : ℕ) → n ≤ m → PassedNumbers test n m → count_below test m ≡ count_below test n
count-passed test n m le none = count-passed_by test n (m - n) m (omega (arith, le)) none

-- one more, the first from a number on
pub count-one : (test : ℕ → Bool) (n k : ℕ) → n ≤ k → PassedNumbers test n k → test k ≡ true → count_below test (k + 1) ≡ count_below test n + 1
unfolding count_below
count-one test n k le none on =
    let at : k + 1 ≡ suc k = omega arith in
    ap (count_below test) at ∙ (ap (λ b. count_below test k + cond b 1 0) on ∙ omega (arith, count-passed test n k le none))

pub count-same : (p q : ℕ → Bool) (n : ℕ) → ((k : ℕ) → k < n → p k ≡ q k) → count_below p n ≡ count_below q n
unfolding count_below
count-same p q zero same = refl
count-same p q (suc n) same =
    ap (λ i. i + cond (p n) 1 0) (count-same p q n (λ k lt. same k (omega (arith, lt)))) ∙ ap (λ b. count_below q n + cond b 1 0) (same n (omega arith))

count-none : (n : ℕ) → count_below (λ k. false) n ≡ 0
unfolding count_below
count-none zero = refl
count-none (suc n) = omega (arith, count-none n)

-- on a day that a rule has all, and on another none
pub count-if : (b : Bool) (test : ℕ → Bool) (n t : ℕ) → count_below test n ≡ t → count_below (λ k. b && test k) n ≡ t * cond b 1 0
count-if true test n t is = is ∙ omega arith
count-if false test n t is = count-none n ∙ omega arith
