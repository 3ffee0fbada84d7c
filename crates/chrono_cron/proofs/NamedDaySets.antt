-- Days of a month that are named by its end, its workdays and its weeks, by sets of their places.
use Rattle.std.proofs.Common.{◌≡◌, ℕ, zero, suc, ◌+◌, ◌-◌, ◌*◌, ◌/◌, ◌%◌, ◌<◌, ◌≤◌, ◌==◌, inl, inr, true, false, Bool, ◌&&◌, ◌||◌, refl, sym, ap, ◌∙◌, arith}
use Rattle.std.proofs.lemmas.Bool.{agree_below_at, and_from, and_parts, cases_eq, eq-eqb, eqb-true, le-leb, leb-true, lt-ltb, ltb-true, ne_eqb, or_parts, true≢false}
use Rattle.std.specs.Prelude.{nat_le, nat_lt}
use Rattle.std.proofs.Math.Bool.{and_comm}
use Rattle.chrono_datetime.proofs.NamedDates.{same_test}
use Rattle.chrono_sets.specs.FiniteSets.{FiniteSet, has, no_numbers, with_number}
use Rattle.chrono_sets.proofs.Members.{has-no_numbers, has-with_number}
use Rattle.chrono_cron.specs.declared.named_days.MonthDays.{MonthDays}
use Rattle.chrono_cron.specs.Due.{is_friday_for, is_last_workday, is_monday_for, is_named_by_place, is_named_by_weekday, is_nearest_workday, is_monday_to_friday}

-- ---- tests that hold together

and_both : (a b : Bool) → ((a && false) || (b && false)) ≡ false
and_both true true = refl
and_both true false = refl
and_both false true = refl
and_both false false = refl

-- ---- where no day is named

never_member : (set : FiniteSet) → ((k : ℕ) → has set k ≡ false) → (b : Bool) (k : ℕ) → (b && has set k) ≡ false
never_member set none true k = none k
never_member set none false k = refl

pub none_by_place : (m : MonthDays) (p follow w : ℕ) → ((k : ℕ) → has m.from_end k ≡ false) → ((k : ℕ) → has m.nearest_workdays k ≡ false) → m.last_workday ≡ false → is_named_by_place m p follow w ≡ false
unfolding is_named_by_place is_nearest_workday is_friday_for is_monday_for
none_by_place m p follow w ends nearest last =
    let none = never_member m.nearest_workdays nearest in
    rw (ends follow, last, none (is_monday_to_friday w) p, none (nat_le 1 follow) (p + 1), none (follow == 2) (p + 2), none (nat_le 2 p) (p - 1), none (p == 3) 1) (and_both (w == 5) (w == 1))

pub none_by_weekday : (m : MonthDays) (p follow w : ℕ) → ((k : ℕ) → has m.last_weekdays k ≡ false) → ((k : ℕ) → has m.nth_weekdays k ≡ false) → is_named_by_weekday m p follow w ≡ false
unfolding is_named_by_weekday
none_by_weekday m p follow w last nth = rw (last w, nth (7 * ((p - 1) / 7) + w)) refl

-- the members of four sets together
pub none_of_four : (a b c d : Bool) → ((a || b) || (c || d)) ≡ false → (a ≡ false) × (b ≡ false) × (c ≡ false) × (d ≡ false)
none_of_four a b c d e =
    let parts = or_parts (a || b) (c || d) e in
    let first = or_parts a b parts.0 in
    let second = or_parts c d parts.1 in
    (first.0, first.1, second.0, second.1)

-- ---- the days of a month that have some weekdays

-- the set of one weekday, and that of Monday to Friday
pub one_weekday : (n : ℕ) (set : FiniteSet) → set ≡ with_number no_numbers n → (w : ℕ) → w < 7 → has set w ≡ (w == n)
one_weekday n set is w lt = ap (λ s. has s w) is ∙ has-with_number no_numbers n w ∙ ap (λ b. b || (w == n)) (has-no_numbers w)

pub workdays : (set : FiniteSet) → ((k : ℕ) → has set k ≡ (nat_le 1 k && nat_lt k 6)) → (w : ℕ) → w < 7 → has set w ≡ is_monday_to_friday w
workdays set is w lt = is w ∙ agree_below_at (λ k. nat_le 1 k && nat_lt k 6) is_monday_to_friday 7 w refl lt

-- the days of a month that have weekdays of a set
pub days_at : (test : ℕ → Bool) (week month : FiniteSet) (before k : ℕ) → ((w : ℕ) → w < 7 → has week w ≡ test w) → ((j : ℕ) → j < 40 → has month j ≡ has week ((j + before) % 7)) → k < 40 → has month k ≡ test ((k + before) % 7)
days_at test week month before k week_is month_is lt = month_is k lt ∙ week_is ((k + before) % 7) (omega arith)

-- ---- places between two others

within : (from end k : ℕ) → (nat_le from k && nat_lt k end) ≡ true → (from ≤ k) × (k < end)
within from end k t =
    let parts = and_parts (nat_le from k) (nat_lt k end) t in
    (leb-true from k parts.0, ltb-true k end parts.1)

is_within : (from end k : ℕ) → from ≤ k → k < end → (nat_le from k && nat_lt k end) ≡ true
is_within from end k low high = and_from (nat_le from k) (nat_lt k end) (le-leb from k low) (lt-ltb k end high)

-- the last places of a month
pub last_places : (length from k few : ℕ) → from + few ≡ length + 1 → k ≤ length → (nat_le from k && nat_lt k (length + 1)) ≡ nat_lt (length - k) few
last_places length from k few is le =
    same_test _ _
    (λ t. let at = within from (length + 1) k t in lt-ltb (length - k) few (omega (arith, at.0, is, le)))
    (λ t. is_within from (length + 1) k (omega (arith, ltb-true (length - k) few t, is, le)) (omega (arith, le)))

-- a place that others of the month follow
followed : (length k : ℕ) → k ≤ length → (nat_le 0 k && nat_lt k length) ≡ nat_le 1 (length - k)
followed length k le =
    same_test _ _
    (λ t. let at = within 0 length k t in le-leb 1 (length - k) (omega (arith, at.1)))
    (λ t. is_within 0 length k (omega arith) (omega (arith, leb-true 1 (length - k) t)))

-- the place that two follow
followed_by_two : (length k : ℕ) → 2 ≤ length → k ≤ length → (nat_le (length - 2) k && nat_lt k (length - 1)) ≡ (length - k == 2)
followed_by_two length k long le =
    same_test _ _
    (λ t. let at = within (length - 2) (length - 1) k t in eq-eqb (length - k) 2 (omega (arith, at.0, at.1, long, le)))
    (λ t. let at = eqb-true (length - k) 2 t in is_within (length - 2) (length - 1) k (omega (arith, at, long)) (omega (arith, at, long)))

second_or_later : (k : ℕ) → k < 40 → (nat_le 2 k && nat_lt k 40) ≡ nat_le 2 k
second_or_later k lt = same_test _ _ (λ t. (and_parts (nat_le 2 k) (nat_lt k 40) t).0) (λ t. is_within 2 40 k (leb-true 2 k t) lt)

third : (k : ℕ) → (nat_le 3 k && nat_lt k 4) ≡ (k == 3)
third k =
    same_test _ _
    (λ t. let at = within 3 4 k t in eq-eqb k 3 (omega (arith, at.0, at.1)))
    (λ t. let at = eqb-true k 3 t in is_within 3 4 k (omega (arith, at)) (omega (arith, at)))

-- the places that so many whole weeks precede
pub in_week : (weeks k : ℕ) → 1 ≤ k → (nat_le (7 * weeks + 1) k && nat_lt k (7 * weeks + 8)) ≡ ((k - 1) / 7 == weeks)
in_week weeks k from =
    same_test _ _
    (λ t. let at = within (7 * weeks + 1) (7 * weeks + 8) k t in eq-eqb ((k - 1) / 7) weeks (omega (arith, at.0, at.1)))
    (λ t. let at = eqb-true ((k - 1) / 7) weeks t in is_within (7 * weeks + 1) (7 * weeks + 8) k (omega (arith, at, from)) (omega (arith, at, from)))

-- ---- workdays

pub friday_for : (asked : FiniteSet) (length k w : ℕ) → 2 ≤ length → k ≤ length → (w == 5 && ((has asked (k + 1) && (nat_le 0 k && nat_lt k length)) || (has asked (k + 2) && (nat_le (length - 2) k && nat_lt k (length - 1))))) ≡ is_friday_for asked k (length - k) w
unfolding is_friday_for
friday_for asked length k w long le =
    rw (followed length k le, followed_by_two length k long le, and_comm (has asked (k + 1)) (nat_le 1 (length - k)), and_comm (has asked (k + 2)) (length - k == 2)) refl

-- from the third place two back is the first
third_asked : (asked : FiniteSet) (k : ℕ) → ((nat_le 2 k && has asked (k - 2)) && (k == 3)) ≡ (k == 3 && has asked 1)
third_asked asked k = elim (cases_eq k 3) [
  | inl is ↦ rw is (and_comm (has asked 1) true)
  | inr other ↦ rw (ne_eqb k 3 other) (and_comm (nat_le 2 k && has asked (k - 2)) false)
]

pub monday_for : (asked : FiniteSet) (k w : ℕ) → k < 40 → 1 ≤ k → (w == 1 && (((nat_le 1 k && has asked (k - 1)) && (nat_le 2 k && nat_lt k 40)) || ((nat_le 2 k && has asked (k - 2)) && (nat_le 3 k && nat_lt k 4)))) ≡ is_monday_for asked k w
unfolding is_monday_for
monday_for asked k w lt from =
    rw (second_or_later k lt, third k, le-leb 1 k from, and_comm (has asked (k - 1)) (nat_le 2 k), third_asked asked k) refl

more_or_few : (k : ℕ) → (nat_lt k 3 || nat_lt k 1) ≡ nat_lt k 3
more_or_few k = grind arith

pub last_workday_at : (length k w : ℕ) → 2 ≤ length → k ≤ length → ((w == 5 && (nat_le (length - 2) k && nat_lt k (length + 1))) || (is_monday_to_friday w && (nat_le length k && nat_lt k (length + 1)))) ≡ is_last_workday (length - k) w
unfolding is_last_workday
last_workday_at length k w long le =
    let three = last_places length (length - 2) k 3 (omega (arith, long)) le in
    let one = last_places length length k 1 refl le in
    elim (cases_eq w 5) [
      | inl is ↦ rw (three, one, is) (more_or_few (length - k))
      | inr other ↦ rw (three, one, ne_eqb w 5 other) refl
    ]

-- with a test that is asked for, and without
pub asked_for : (flag a b : Bool) → flag ≡ true → (a || b) ≡ ((flag && a) || b)
asked_for true a b e = refl
asked_for false a b e = absurd (true≢false (sym e))

pub not_asked_for : (flag a b : Bool) → flag ≡ false → b ≡ ((flag && a) || b)
not_asked_for true a b e = absurd (true≢false e)
not_asked_for false a b e = refl

-- ---- weeks

pub one_of_five : (f : ℕ → Bool) (r : ℕ) → r < 5 → ((((f 0 && (r == 0)) || (f 1 && (r == 1))) || ((f 2 && (r == 2)) || (f 3 && (r == 3)))) || (f 4 && (r == 4))) ≡ f r
one_of_five f zero lt = grind arith
one_of_five f (suc zero) lt = grind arith
one_of_five f (suc (suc zero)) lt = grind arith
one_of_five f (suc (suc (suc zero))) lt = grind arith
one_of_five f (suc (suc (suc (suc zero)))) lt = grind arith
one_of_five f (suc (suc (suc (suc (suc r))))) lt = absurd (omega (arith, lt))
