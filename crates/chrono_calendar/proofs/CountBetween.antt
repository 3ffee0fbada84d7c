-- How many of the days from one to before another pass a test.
use Rattle.std.proofs.Common.{◌≡◌, ℕ, ◌+◌, Bool, true, false, cond, ap, ◌∙◌, arith, ℤ, pos, ◌+ℤ◌, ◌-ℤ◌, ◌≤ℤ◌, ◌<ℤ◌, int_le, unsigned_abs, refl}
use Rattle.std.proofs.lemmas.Int.{by_lt_z}
use Rattle.chrono_calendar.specs.Recurrence.{count_between, count_where, days_between}
use Rattle.chrono_calendar.proofs.CountWhere.{count_where-le, count_where-next, count_where-no_days, count_where-none, count_where-same, count_where-sum, one_if}
use Rattle.chrono_text.proofs.Signed.{signed}

-- so many days lie between a day and the one as many days on
pub days_between-ahead : (a b : ℤ) (k : ℕ) → b ≡ a +ℤ pos k → days_between a b ≡ k
days_between-ahead a b k e =
    let ahead : int_le a b ≡ true = grind (arith, signed) in
    ap (λ t. cond t (unsigned_abs (b -ℤ a)) 0) ahead ∙ omega (arith, signed, e)

days_between-behind : (a b : ℤ) → b ≤ℤ a → days_between a b ≡ 0
days_between-behind a b h =
    by_lt_z b a
    (λ lt. let behind : int_le a b ≡ false = grind (arith, signed) in ap (λ t. cond t (unsigned_abs (b -ℤ a)) 0) behind)
    (λ ge. days_between-ahead a b 0 (omega (arith, signed, h, ge)))

-- a later day is so many days on
ahead_by : (a b : ℤ) → a ≤ℤ b → b ≡ a +ℤ pos (unsigned_abs (b -ℤ a))
ahead_by a b h = omega (arith, signed, h)

-- the count up to the day k days on is that of k days
pub count_between-where : (p : ℤ → Bool) (a b : ℤ) (k : ℕ) → b ≡ a +ℤ pos k → count_between p a b ≡ count_where p k a
unfolding count_between
count_between-where p a b k e = ap (λ h. count_where p h a) (days_between-ahead a b k e)

-- none where the second day is not after the first
pub count_between-empty : (p : ℤ → Bool) (a b : ℤ) → b ≤ℤ a → count_between p a b ≡ 0
unfolding count_between
count_between-empty p a b h = ap (λ k. count_where p k a) (days_between-behind a b h) ∙ count_where-no_days p a

-- two stretches, the second of which begins where the first ends
pub count_between-sum : (p : ℤ → Bool) (a b c : ℤ) → a ≤ℤ b → b ≤ℤ c → count_between p a c ≡ count_between p a b + count_between p b c
count_between-sum p a b c ab bc =
    let j : ℕ = unsigned_abs (b -ℤ a) in
    let k : ℕ = unsigned_abs (c -ℤ b) in
    let b-at : b ≡ a +ℤ pos j = ahead_by a b ab in
    let c-at : c ≡ b +ℤ pos k = ahead_by b c bc in
    let whole = count_between-where p a c (j + k) (omega (arith, signed, b-at, c-at)) in
    omega (arith, whole, count_between-where p a b j b-at, count_between-where p b c k c-at, count_where-sum p j k (j + k) a b refl b-at)

-- one day alone
pub count_between-day : (p : ℤ → Bool) (a b : ℤ) → b ≡ a +ℤ pos 1 → count_between p a b ≡ one_if (p a)
count_between-day p a b e =
    omega (arith, count_between-where p a b 1 e, count_where-next p 0 1 a a refl (omega (arith, signed)), count_where-no_days p a)

-- one day more at the end
pub count_between-next : (p : ℤ → Bool) (a b c : ℤ) → a ≤ℤ b → c ≡ b +ℤ pos 1 → count_between p a c ≡ count_between p a b + one_if (p b)
count_between-next p a b c ab e =
    omega (arith, count_between-sum p a b c ab (omega (arith, signed, e)), count_between-day p b c e)

-- the first day and those after it
pub count_between-first : (p : ℤ → Bool) (a b c : ℤ) → a <ℤ c → b ≡ a +ℤ pos 1 → count_between p a c ≡ one_if (p a) + count_between p b c
count_between-first p a b c ac e =
    omega (arith, count_between-sum p a b c (omega (arith, signed, e)) (omega (arith, signed, e, ac)), count_between-day p a b e)

-- no more than the days between
pub count_between-le : (p : ℤ → Bool) (a b : ℤ) → a ≤ℤ b → pos (count_between p a b) ≤ℤ (b -ℤ a)
count_between-le p a b ab =
    let k : ℕ = unsigned_abs (b -ℤ a) in
    omega (arith, signed, ahead_by a b ab, count_between-where p a b k (ahead_by a b ab), count_where-le p k a)

-- two tests that say the same of each of the days
pub count_between-same : (p q : ℤ → Bool) (a b : ℤ) → ((d : ℤ) → a ≤ℤ d → d <ℤ b → p d ≡ q d) → count_between p a b ≡ count_between q a b
count_between-same p q a b h =
    by_lt_z a b
    (λ lt.
    let k : ℕ = unsigned_abs (b -ℤ a) in
    let at : b ≡ a +ℤ pos k = ahead_by a b (omega (arith, signed, lt)) in
    let days = count_where-same p q k a (λ d low high. h d low (omega (arith, signed, high, at))) in
    omega (arith, count_between-where p a b k at, count_between-where q a b k at, days))
    (λ ge. omega (arith, count_between-empty p a b ge, count_between-empty q a b ge))

-- none passes, or each does
pub count_between-none : (p : ℤ → Bool) (a b : ℤ) → ((d : ℤ) → a ≤ℤ d → d <ℤ b → p d ≡ false) → count_between p a b ≡ 0
count_between-none p a b h =
    by_lt_z a b
    (λ lt.
    let k : ℕ = unsigned_abs (b -ℤ a) in
    let at : b ≡ a +ℤ pos k = ahead_by a b (omega (arith, signed, lt)) in
    count_between-where p a b k at ∙ count_where-none p k a (λ d low high. h d low (omega (arith, signed, high, at))))
    (λ ge. count_between-empty p a b ge)
