-- Years, months and days between two days are the only ones.
use Rattle.dates_answer.proofs.Ground.{◌≡◌, Option, Some, None, IfSome, IsSomeAnd, sym, subst, ◌∙◌, arith, ℤ, pos, ◌+ℤ◌, ◌-ℤ◌, ◌*ℤ◌, ◌≤ℤ◌, ◌<ℤ◌, by_lt_z, signed, Unit, Months, unit_move, IsMostBack, IsMostForth, IsUnitsBetween, IsPartsBetween}
use Rattle.dates_answer.specs.declared.parts.Parts.{Parts}
use Rattle.dates_answer.proofs.PartLemmas.{by_order}

-- no move is past a day and not past it
not_both_forth : (o : Option ℤ) (to : ℤ) → IsSomeAnd o (λ m. m ≤ℤ to) → IfSome o (λ m. to <ℤ m) → ⊥
not_both_forth (Some m) to le lt = omega (arith, signed, le, lt)
not_both_forth None to le lt = elim le [ ]

not_both_back : (o : Option ℤ) (to : ℤ) → IsSomeAnd o (λ m. to ≤ℤ m) → IfSome o (λ m. m <ℤ to) → ⊥
not_both_back (Some m) to le lt = omega (arith, signed, le, lt)
not_both_back None to le lt = elim le [ ]

-- numbers of which neither is the lesser
neither : (z k : ℤ) → (z <ℤ k → ⊥) → (k <ℤ z → ⊥) → z ≡ k
neither z k less more = by_lt_z z k (λ lt. absurd (less lt)) (λ ge. by_lt_z k z (λ lt. absurd (more lt)) (λ le. omega (arith, signed, ge, le)))

one_forth : (unit : Unit) (from to z k : ℤ) → IsMostForth unit from to z → IsMostForth unit from to k → z ≡ k
one_forth unit from to z k a b =
    neither z k (λ lt. not_both_forth (unit_move unit from k) to b.reached (a.most k lt)) (λ lt. not_both_forth (unit_move unit from z) to a.reached (b.most z lt))

one_back : (unit : Unit) (from to z k : ℤ) → IsMostBack unit from to z → IsMostBack unit from to k → z ≡ k
one_back unit from to z k a b =
    neither z k (λ lt. not_both_back (unit_move unit from z) to a.reached (b.most z lt)) (λ lt. not_both_back (unit_move unit from k) to b.reached (a.most k lt))

-- so one number of units lies between two days
pub one_between : (unit : Unit) (from to z k : ℤ) → IsUnitsBetween unit from to z → IsUnitsBetween unit from to k → z ≡ k
one_between unit from to z k a b =
    by_order (z ≡ k) from to (λ le. one_forth unit from to z k (a.forth le) (b.forth le)) (λ lt. one_back unit from to z k (a.back lt) (b.back lt))

one_day : (o : Option ℤ) (to d e : ℤ) → IsSomeAnd o (λ m. d ≡ to -ℤ m) → IsSomeAnd o (λ m. e ≡ to -ℤ m) → d ≡ e
one_day (Some m) to d e a b = a ∙ sym b
one_day None to d e a b = elim a [ ]

-- years and months that are one number of months and go one way
one_split : (y m x l : ℤ) → pos 12 *ℤ y +ℤ m ≡ pos 12 *ℤ x +ℤ l → (m -ℤ l) <ℤ pos 12 → (l -ℤ m) <ℤ pos 12 → (y ≡ x) × (m ≡ l)
one_split y m x l e less more = (omega (arith, signed, e, less, more), omega (arith, signed, e, less, more))

-- and one number of years, of months and of days
pub one_of_parts : (from to : ℤ) (p q : Parts) → IsPartsBetween from to p → IsPartsBetween from to q → (p.years ≡ q.years) × (p.months ≡ q.months) × (p.days ≡ q.days)
one_of_parts from to p q a b =
    let whole = one_between Months from to (pos 12 *ℤ p.years +ℤ p.months) (pos 12 *ℤ q.years +ℤ q.months) a.months b.months in
    let split = by_order ((p.years ≡ q.years) × (p.months ≡ q.months)) from to
    (λ le. one_split p.years p.months q.years q.months whole (omega (arith, signed, a.forth le, b.forth le)) (omega (arith, signed, a.forth le, b.forth le)))
    (λ lt. one_split p.years p.months q.years q.months whole (omega (arith, signed, a.back lt, b.back lt)) (omega (arith, signed, a.back lt, b.back lt))) in
    let days = one_day (unit_move Months from (pos 12 *ℤ p.years +ℤ p.months)) to p.days q.days a.days (subst (λ k. IsSomeAnd (unit_move Months from k) (λ m. q.days ≡ to -ℤ m)) (sym whole) b.days) in
    (split.0, split.1, days)
