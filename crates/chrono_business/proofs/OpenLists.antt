-- The list of the open days between two days: how long it is, and its first and its last.
use Rattle.std.proofs.Common.{◌≡◌, ℕ, zero, suc, ◌+◌, ◌-◌, ◌<◌, ◌≤◌, Bool, true, false, cond, List, [], ◌∷◌, ◌++◌, length, refl, sym, ap, ◌∙◌, arith, ℤ, pos, ◌+ℤ◌, ◌-ℤ◌, ◌≤ℤ◌, ◌<ℤ◌, unsigned_abs}
use Rattle.std.specs.Prelude.{filter}
use Rattle.std.proofs.lemmas.Int.{by_lt_z}
use Rattle.std.proofs.lemmas.List.Elements.{filter-append}
use Rattle.chrono_datetime.specs.DateLists.{in_steps}
use Rattle.chrono_datetime.specs.Recurrence.{count_between, count_where, days_between, first_date}
use Rattle.chrono_datetime.proofs.Signed.{signed}
use Rattle.chrono_datetime.proofs.CountWhere.{one_if}
use Rattle.chrono_datetime.proofs.CountBetween.{count_between-empty, count_between-sum, days_between-ahead}
use Rattle.chrono_business.specs.OpenDays.{Closed, is_open, open_days}
use Rattle.chrono_business.specs.OpenDayLists.{open_days_list}
use Rattle.chrono_business.proofs.Ranks.{open-behind, open-rises}

-- ---- days in a row

row-sum : (j k i : ℕ) (a m : ℤ) → i ≡ j + k → m ≡ a +ℤ pos j → in_steps 1 i a ≡ in_steps 1 j a ++ in_steps 1 k m
unfolding in_steps
row-sum zero k i a m e at =
    let days : i ≡ k = omega arith in
    let here : a ≡ m = omega (arith, signed, at) in
    ap (λ h. in_steps 1 h a) days ∙ ap (in_steps 1 k) here
row-sum (suc j) k i a m e at =
    let days : i ≡ suc (j + k) = omega arith in
    ap (λ h. in_steps 1 h a) days ∙ ap (λ xs. a ∷ xs) (row-sum j k (j + k) (a +ℤ pos 1) m refl (omega (arith, signed, at)))

kept : (b : Bool) (x : ℤ) (xs : List ℤ) → length (cond b (x ∷ xs) xs) ≡ one_if b + length xs
kept true x xs = omega arith
kept false x xs = omega arith

length-row : (p : ℤ → Bool) (k : ℕ) (a : ℤ) → length (filter p (in_steps 1 k a)) ≡ count_where p k a
unfolding in_steps count_where
length-row p zero a = refl
length-row p (suc k) a =
    kept (p a) a (filter p (in_steps 1 k (a +ℤ pos 1))) ∙ ap (λ n. one_if (p a) + n) (length-row p k (a +ℤ pos 1))

-- ---- the list

pub length-open_days : (c : Closed) (a b : ℤ) → length (open_days_list c a b) ≡ open_days c a b
unfolding open_days_list count_between
length-open_days c a b = length-row (is_open c) (days_between a b) a

empty : (xs : List ℤ) → length xs ≡ 0 → xs ≡ []
empty [] h = refl
empty (x ∷ xs) h = absurd (omega (arith, h))

pub none-open_days : (c : Closed) (a b : ℤ) → open_days c a b ≡ 0 → open_days_list c a b ≡ []
none-open_days c a b none = empty (open_days_list c a b) (length-open_days c a b ∙ none)

list-sum : (c : Closed) (a b e : ℤ) → a ≤ℤ b → b ≤ℤ e → open_days_list c a e ≡ open_days_list c a b ++ open_days_list c b e
unfolding open_days_list
list-sum c a b e ab be =
    let j : ℕ = unsigned_abs (b -ℤ a) in
    let k : ℕ = unsigned_abs (e -ℤ b) in
    let b-at : b ≡ a +ℤ pos j = omega (arith, signed, ab) in
    let e-at : e ≡ b +ℤ pos k = omega (arith, signed, be) in
    let P : ℤ → Bool = is_open c in
    ap (λ h. filter P (in_steps 1 h a)) (days_between-ahead a e (j + k) (omega (arith, signed, b-at, e-at)))
    ∙ (ap (filter P) (row-sum j k (j + k) a b refl b-at)
    ∙ (filter-append P (in_steps 1 j a) (in_steps 1 k b)
    ∙ (ap (λ h. filter P (in_steps 1 h a) ++ filter P (in_steps 1 k b)) (sym (days_between-ahead a b j b-at))
    ∙ ap (λ h. filter P (in_steps 1 (days_between a b) a) ++ filter P (in_steps 1 h b)) (sym (days_between-ahead b e k e-at)))))

one-open_day : (c : Closed) (e n : ℤ) → n ≡ e +ℤ pos 1 → is_open c e ≡ true → open_days_list c e n ≡ e ∷ []
unfolding open_days_list in_steps
one-open_day c e n at is =
    ap (λ k. filter (is_open c) (in_steps 1 k e)) (days_between-ahead e n 1 at) ∙ ap (λ b. cond b (e ∷ []) []) is

first-of_list : (c : Closed) (a e n b : ℤ) → a ≤ℤ e → e <ℤ b → n ≡ e +ℤ pos 1 → is_open c e ≡ true → open_days c a e ≡ 0 → open_days_list c a b ≡ e ∷ open_days_list c n b
first-of_list c a e n b low high at is none =
    list-sum c a e b low (omega (arith, signed, high))
    ∙ (ap (λ xs. xs ++ open_days_list c e b) (none-open_days c a e none)
    ∙ (list-sum c e n b (omega (arith, signed, at)) (omega (arith, signed, at, high))
    ∙ ap (λ xs. xs ++ open_days_list c n b) (one-open_day c e n at is)))

last-of_list : (c : Closed) (a e n b : ℤ) → a ≤ℤ e → e <ℤ b → n ≡ e +ℤ pos 1 → is_open c e ≡ true → open_days c n b ≡ 0 → open_days_list c a b ≡ open_days_list c a e ++ e ∷ []
last-of_list c a e n b low high at is none =
    list-sum c a e b low (omega (arith, signed, high))
    ∙ ap (λ xs. open_days_list c a e ++ xs)
    (list-sum c e n b (omega (arith, signed, at)) (omega (arith, signed, at, high))
    ∙ (ap (λ xs. xs ++ open_days_list c n b) (one-open_day c e n at is)
    ∙ ap (λ xs. e ∷ xs) (none-open_days c n b none)))

-- ---- by ranks

-- the open day that has as many open days before it as a is the first, if b has more
pub list-first : (c : Closed) (a b e n : ℤ) → first_date ≤ℤ a → first_date ≤ℤ b → first_date ≤ℤ e → n ≡ e +ℤ pos 1 → is_open c e ≡ true → open_days c first_date e ≡ open_days c first_date a → open_days c first_date a < open_days c first_date b → open_days_list c a b ≡ e ∷ open_days_list c n b
list-first c a b e n a-is b-is e-is at is same more =
    let low : a ≤ℤ e = by_lt_z e a
    (λ lt. absurd (omega (arith, same, open-behind c first_date e n e-is at is, open-rises c first_date n a (omega (arith, signed, e-is, at)) (omega (arith, signed, lt, at)))))
    (λ ge. ge) in
    let high : e <ℤ b = by_lt_z e b (λ lt. lt) (λ ge. absurd (omega (arith, same, more, open-rises c first_date b e b-is ge))) in
    first-of_list c a e n b low high at is (omega (arith, same, count_between-sum (is_open c) first_date a e a-is low))

-- the one that has one less than b is the last, if a has no more
pub list-last : (c : Closed) (a b e n : ℤ) → first_date ≤ℤ a → first_date ≤ℤ b → first_date ≤ℤ e → n ≡ e +ℤ pos 1 → is_open c e ≡ true → open_days c first_date e + 1 ≡ open_days c first_date b → open_days c first_date a < open_days c first_date b → open_days_list c a b ≡ open_days_list c a e ++ e ∷ []
list-last c a b e n a-is b-is e-is at is same more =
    let next = open-behind c first_date e n e-is at is in
    let low : a ≤ℤ e = by_lt_z e a
    (λ lt. absurd (omega (arith, same, more, next, open-rises c first_date n a (omega (arith, signed, e-is, at)) (omega (arith, signed, lt, at)))))
    (λ ge. ge) in
    let high : e <ℤ b = by_lt_z e b (λ lt. lt) (λ ge. absurd (omega (arith, same, open-rises c first_date b e b-is ge))) in
    last-of_list c a e n b low high at is (omega (arith, same, next, count_between-sum (is_open c) first_date n b (omega (arith, signed, e-is, at)) (omega (arith, signed, high, at))))

-- as many are left as the ranks differ by
pub length-by_ranks : (c : Closed) (a b : ℤ) → first_date ≤ℤ a → first_date ≤ℤ b → length (open_days_list c a b) ≡ open_days c first_date b - open_days c first_date a
length-by_ranks c a b a-is b-is =
    by_lt_z a b
    (λ lt. omega (arith, length-open_days c a b, count_between-sum (is_open c) first_date a b a-is (omega (arith, signed, lt))))
    (λ ge. omega (arith, length-open_days c a b, count_between-empty (is_open c) a b ge, open-rises c first_date b a b-is ge))

pub none-by_ranks : (c : Closed) (a b : ℤ) → first_date ≤ℤ a → first_date ≤ℤ b → open_days c first_date b ≤ open_days c first_date a → open_days_list c a b ≡ []
none-by_ranks c a b a-is b-is few =
    empty (open_days_list c a b) (omega (arith, length-by_ranks c a b a-is b-is, few))
