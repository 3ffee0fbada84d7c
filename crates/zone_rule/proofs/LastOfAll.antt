-- The last change by a second is the last of all years.
use Rattle.std.proofs.Common.{◌≡◌, ℕ, zero, suc, ◌+◌, ◌-◌, ◌≤◌, ◌<◌, ℤ, pos, negsuc, ◌+ℤ◌, ◌-ℤ◌, ◌*ℤ◌, ◌≤ℤ◌, ◌<ℤ◌, Bool, true, false, ◌&&◌, ◌==◌, nat_le, get_or, length, List, unsigned_abs, inl, inr, refl, ap, subst, arith}
use Rattle.std.specs.Int.{int_div_euclid}
use Rattle.std.specs.List.{All, filter, range_with_len}
use Rattle.std.proofs.lemmas.Bool.{and_parts}
use Rattle.std.proofs.lemmas.Bool.Decides.{leb_tells, nat_tests}
use Rattle.std.proofs.lemmas.Int.{by_lt_z}
use Rattle.std.proofs.lemmas.List.{get_or_past}
use Rattle.std.proofs.lemmas.List.Elements.{All-filter, All-from_get_or, All-get_or}
use Rattle.std.proofs.lemmas.List.FromFn.{get_or-range_with_len, length-range_with_len}
use Rattle.chrono_units.specs.Years.{is_leap_year, month_length, year_length}
use Rattle.chrono_units.specs.declared.weekday.Weekday.{Weekday}
use Rattle.chrono_units.specs.Weekday.{days_from_sunday}
use Rattle.chrono_calendar.specs.Days.{days_before_year, day_number_of_ymd, days_of_months_in, year_of}
use Rattle.chrono_calendar.specs.Weeks.{days_from_sunday_of, days_with_weekday}
use Rattle.chrono_calendar.proofs.Months.{month_length_in-bounds}
use Rattle.chrono_calendar.proofs.Names.{ordinal_name_of-number, year_length_bounds}
use Rattle.chrono_calendar.proofs.Signed.{signed}
use Rattle.chrono_calendar.proofs.Tests.{passes_below, passes_below-at}
use Rattle.chrono_calendar.proofs.Years.{days_before_year-next}
use Rattle.zone_rule.specs.Changes.{IsChange, IsRuleDay, YearlyChange, change_second, day_in_year, last_by, nth_or_last, year_of_second}
use Rattle.zone_rule.specs.RuleDays.{ordinal_of_julian}
use Rattle.zone_rule.specs.declared.rule_day.RuleDay.{RuleDay}
use Rattle.zone_rule.specs.declared.rule_day.RuleDay.TheVariants.{Week, Julian, FromZero}
use Rattle.zone_rule.proofs.DaysInYears.{ordinal_of_julian-bounds}
use Rattle.zone_rule.proofs.LastChanges.{last_by-before, last_by-first, last_by-next, last_by-same}

-- ---- a day's place in its year is nearly that of each year

-- numbers of a month are at most 31, and so is what stands for none
range_bound : (L i : ℕ) → L ≤ 31 → i < length (range_with_len 1 L) → get_or (range_with_len 1 L) i 0 ≤ 31
range_bound L i most within =
    let inside : i < L = omega (arith, within, length-range_with_len 1 L) in
    omega (arith, get_or-range_with_len 1 L i 0 inside, inside, most)

all_bound : (test : ℕ → Bool) (L : ℕ) → L ≤ 31 → All (λ (x : ℕ). x ≤ 31) (filter test (range_with_len 1 L))
all_bound test L most =
    All-filter test (λ (x : ℕ). x ≤ 31) (range_with_len 1 L) (All-from_get_or (λ (x : ℕ). x ≤ 31) (range_with_len 1 L) 0 (λ i within. range_bound L i most within))

get_bound : (xs : List ℕ) (i z : ℕ) → All (λ (x : ℕ). x ≤ 31) xs → z ≤ 31 → get_or xs i z ≤ 31
get_bound xs i z all least = elim (leb_tells (length xs) i) [
  | inl past ↦ omega (arith, get_or_past xs i z past.1, least)
  | inr inside ↦ All-get_or (λ (x : ℕ). x ≤ 31) xs i z inside.1 all
]

nth_bound : (y : ℤ) (m n : ℕ) (w : Weekday) → nth_or_last (days_with_weekday y m w) n ≤ 31
unfolding days_with_weekday
nth_bound y m n w =
    let test : ℕ → Bool = λ (d : ℕ). days_from_sunday_of (day_number_of_ymd y m d) == days_from_sunday w in
    let all = all_bound test (month_length y m) (month_length_in-bounds (is_leap_year y) m).1 in
    get_bound (filter test (range_with_len 1 (month_length y m))) (n - 1) (get_or (filter test (range_with_len 1 (month_length y m))) (n - 2) 0) all
    (get_bound (filter test (range_with_len 1 (month_length y m))) (n - 2) 0 all (omega arith))

-- the least place that a day has in any year
least_place : RuleDay → ℕ
least_place (Week m n w) = days_of_months_in false (m - 1)
least_place (Julian n) = n
least_place (FromZero n) = n

-- the days before a month, in a leap year and in a common year
near_months : Bool → ℕ → Bool
near_months leap k = nat_le (days_of_months_in false k) (days_of_months_in leap k) && (nat_le (days_of_months_in leap k) (days_of_months_in false k + 1) && nat_le (days_of_months_in false k) 334)

near_tested : (leap : Bool) → passes_below (near_months leap) 12 ≡ true
unfolding passes_below near_months days_of_months_in
near_tested true = refl
near_tested false = refl

pub months_bound : (leap : Bool) (k : ℕ) → k < 12 → (days_of_months_in false k ≤ days_of_months_in leap k) × (days_of_months_in leap k ≤ days_of_months_in false k + 1) × (days_of_months_in false k ≤ 334)
unfolding near_months
months_bound leap k h =
    let passed : near_months leap k ≡ true = passes_below-at (near_months leap) 12 (near_tested leap) k h in
    let first = and_parts (nat_le (days_of_months_in false k) (days_of_months_in leap k)) (nat_le (days_of_months_in leap k) (days_of_months_in false k + 1) && nat_le (days_of_months_in false k) 334) passed in
    let rest = and_parts (nat_le (days_of_months_in leap k) (days_of_months_in false k + 1)) (nat_le (days_of_months_in false k) 334) first.1 in
    (grind (arith, nat_tests, first.0), grind (arith, nat_tests, rest.0), grind (arith, nat_tests, rest.1))

place : ℤ → RuleDay → ℕ
place y (Week m n w) = days_of_months_in (is_leap_year y) (m - 1) + nth_or_last (days_with_weekday y m w) n
place y (Julian n) = ordinal_of_julian y n
place y (FromZero n) = n + 1

day_in_year-place : (y : ℤ) (day : RuleDay) → day_in_year y day ≡ days_before_year y +ℤ pos (place y day)
unfolding day_in_year place
day_in_year-place y (Week m n w) = refl
day_in_year-place y (Julian n) = refl
day_in_year-place y (FromZero n) = refl

place-bounds : (y : ℤ) (day : RuleDay) → IsRuleDay day → (least_place day ≤ place y day) × (place y day ≤ least_place day + 32) × (place y day ≤ 366)
unfolding place least_place
place-bounds y (Week m n w) h =
    let months = months_bound (is_leap_year y) (m - 1) (omega (arith, h.0.0, h.0.1)) in
    let day = nth_bound y m n w in
    (omega (arith, months.0), omega (arith, months.1, day), omega (arith, months.1, months.2, day))
place-bounds y (Julian n) h = let bounds = ordinal_of_julian-bounds y n in (bounds.0, omega (arith, bounds.1), omega (arith, bounds.1, h.1))
place-bounds y (FromZero n) h = (omega arith, omega arith, omega (arith, h))

-- ---- so a change comes later in each next year

change_second-place : (offset : ℤ) (c : YearlyChange) (y : ℤ) → change_second offset c y ≡ ((days_before_year y +ℤ pos (place y c.day) -ℤ pos 719_163) *ℤ pos 86_400 +ℤ c.second -ℤ offset)
change_second-place offset c y = ap (λ (n : ℤ). (n -ℤ pos 719_163) *ℤ pos 86_400 +ℤ c.second -ℤ offset) (day_in_year-place y c.day)

later_days : (a b : ℤ) (p q low : ℕ) (len : ℕ) (s o x z : ℤ) → b ≡ a +ℤ pos len → 365 ≤ len → p ≤ low + 32 → low ≤ q → x ≡ ((a +ℤ pos p -ℤ pos 719_163) *ℤ pos 86_400 +ℤ s -ℤ o) → z ≡ ((b +ℤ pos q -ℤ pos 719_163) *ℤ pos 86_400 +ℤ s -ℤ o) → (x +ℤ pos 28_771_200) ≤ℤ z
later_days a b p q low len s o x z next most near least is_x is_z = omega (arith, signed, next, most, near, least, is_x, is_z)

-- by at least 333 days
pub change_second-apart : (offset : ℤ) (c : YearlyChange) (y : ℤ) → IsRuleDay c.day → (change_second offset c y +ℤ pos 28_771_200) ≤ℤ change_second offset c (y +ℤ pos 1)
change_second-apart offset c y h =
    later_days (days_before_year y) (days_before_year (y +ℤ pos 1)) (place y c.day) (place (y +ℤ pos 1) c.day) (least_place c.day) (year_length y) c.second offset
    (change_second offset c y) (change_second offset c (y +ℤ pos 1))
    (days_before_year-next y (y +ℤ pos 1) refl) (year_length_bounds y).0 (place-bounds y c.day h).1 (place-bounds (y +ℤ pos 1) c.day h).0
    (change_second-place offset c y) (change_second-place offset c (y +ℤ pos 1))

pub change_second-later : (offset : ℤ) (c : YearlyChange) (y : ℤ) → IsRuleDay c.day → change_second offset c y <ℤ change_second offset c (y +ℤ pos 1)
change_second-later offset c y h = let apart = change_second-apart offset c y h in omega (arith, signed, apart)

ordered_days : (a b : ℤ) (p q low r t least : ℕ) (s o v m x z k l : ℤ) → p ≤ low + 32 → low ≤ p → q ≤ low + 32 → low ≤ q → r ≤ least + 32 → least ≤ r → t ≤ least + 32 → least ≤ t → x ≡ ((a +ℤ pos p -ℤ pos 719_163) *ℤ pos 86_400 +ℤ s -ℤ o) → z ≡ ((b +ℤ pos q -ℤ pos 719_163) *ℤ pos 86_400 +ℤ s -ℤ o) → k ≡ ((a +ℤ pos r -ℤ pos 719_163) *ℤ pos 86_400 +ℤ v -ℤ m) → l ≡ ((b +ℤ pos t -ℤ pos 719_163) *ℤ pos 86_400 +ℤ v -ℤ m) → (x +ℤ pos 5_529_600) <ℤ k → z <ℤ l
ordered_days a b p q low r t least s o v m x z k l p_high p_low q_high q_low r_high r_low t_high t_low is_x is_z is_k is_l apart = omega (arith, signed, p_low, q_high, r_high, t_low, is_x, is_z, is_k, is_l, apart)

-- two changes that lie more than 64 days apart come in one order each year
pub changes_in_order : (offset other : ℤ) (c d : YearlyChange) (y z : ℤ) → IsRuleDay c.day → IsRuleDay d.day → (change_second offset c y +ℤ pos 5_529_600) <ℤ change_second other d y → change_second offset c z <ℤ change_second other d z
changes_in_order offset other c d y z h i apart =
    ordered_days (days_before_year y) (days_before_year z) (place y c.day) (place z c.day) (least_place c.day) (place y d.day) (place z d.day) (least_place d.day) c.second offset d.second other
    (change_second offset c y) (change_second offset c z) (change_second other d y) (change_second other d z)
    (place-bounds y c.day h).1 (place-bounds y c.day h).0 (place-bounds z c.day h).1 (place-bounds z c.day h).0
    (place-bounds y d.day i).1 (place-bounds y d.day i).0 (place-bounds z d.day i).1 (place-bounds z d.day i).0
    (change_second-place offset c y) (change_second-place offset c z) (change_second-place other d y) (change_second-place other d z) apart

rises_by : (f : ℤ → ℤ) → ((y : ℤ) → f y <ℤ f (y +ℤ pos 1)) → (z : ℤ) (n : ℕ) → f z ≤ℤ f (z +ℤ pos n)
rises_by f later z zero = let same : f z ≡ f (z +ℤ pos 0) = ap f (omega (arith, signed)) in omega (arith, signed, same)
rises_by f later z (suc n) =
    let front = rises_by f later z n in
    let step = later (z +ℤ pos n) in
    let same : f (z +ℤ pos n +ℤ pos 1) ≡ f (z +ℤ pos (suc n)) = ap f (omega (arith, signed)) in
    omega (arith, signed, front, step, same)

pub rises : (f : ℤ → ℤ) → ((y : ℤ) → f y <ℤ f (y +ℤ pos 1)) → (z w d : ℤ) → d ≡ w -ℤ z → z ≤ℤ w → f z ≤ℤ f w
rises f later z w (pos n) e le =
    let same : f (z +ℤ pos n) ≡ f w = ap f (omega (arith, signed, e)) in
    let front = rises_by f later z n in
    omega (arith, signed, front, same)
rises f later z w (negsuc n) e le = absurd (omega (arith, signed, e, le))

-- no change up to u comes behind that of the year w, if the next one is behind u
pub behind : (f : ℤ → ℤ) → ((y : ℤ) → f y <ℤ f (y +ℤ pos 1)) → (w u : ℤ) → u <ℤ f (w +ℤ pos 1) → (z : ℤ) → f z ≤ℤ u → f z ≤ℤ f w
behind f later w u next z come = by_lt_z w z
    (λ (lt : w <ℤ z). let rise = rises f later (w +ℤ pos 1) z (z -ℤ (w +ℤ pos 1)) refl (omega (arith, signed, lt)) in absurd (omega (arith, signed, rise, next, come)))
    (λ (le : z ≤ℤ w). rises f later z w (w -ℤ z) refl le)

IsLast : (ℤ → ℤ) → ℤ → ℤ → Type 0
IsLast f u x = (x ≤ℤ u) × ((z : ℤ) → f z ≤ℤ u → f z ≤ℤ x)

is_last : (f : ℤ → ℤ) → ((y : ℤ) → f y <ℤ f (y +ℤ pos 1)) → (w u x : ℤ) → f w ≡ x → f w ≤ℤ u → u <ℤ f (w +ℤ pos 1) → IsLast f u x
unfolding IsLast
is_last f later w u x e come next = (
  subst (λ (v : ℤ). v ≤ℤ u) e come,
  λ z by. subst (λ (v : ℤ). f z ≤ℤ v) e (behind f later w u next z by),
)

last_by-last : (f : ℤ → ℤ) → ((y : ℤ) → f y <ℤ f (y +ℤ pos 1)) → (y u : ℤ) → f (y -ℤ pos 2) ≤ℤ u → u <ℤ f (y +ℤ pos 1 +ℤ pos 1) → IsLast f u (last_by f y u)
last_by-last f later y u first past = by_lt_z u (f (y +ℤ pos 1))
    (λ (next : u <ℤ f (y +ℤ pos 1)). by_lt_z u (f y)
    (λ (same : u <ℤ f y).
    let back : f y ≡ f (y -ℤ pos 1 +ℤ pos 1) = ap f (omega (arith, signed)) in
    by_lt_z u (f (y -ℤ pos 1))
    (λ (before : u <ℤ f (y -ℤ pos 1)).
    let twice : f (y -ℤ pos 1) ≡ f (y -ℤ pos 2 +ℤ pos 1) = ap f (omega (arith, signed)) in
    is_last f later (y -ℤ pos 2) u (last_by f y u)
    (last_by-first f y u (f (y +ℤ pos 1)) (f y) (f (y -ℤ pos 1)) (f (y -ℤ pos 2)) refl next refl same refl before refl) first (subst (λ (v : ℤ). u <ℤ v) twice before))
    (λ (come : f (y -ℤ pos 1) ≤ℤ u).
    is_last f later (y -ℤ pos 1) u (last_by f y u)
    (last_by-before f y u (f (y +ℤ pos 1)) (f y) (f (y -ℤ pos 1)) refl next refl same refl come) come (subst (λ (v : ℤ). u <ℤ v) back same)))
    (λ (come : f y ≤ℤ u). is_last f later y u (last_by f y u) (last_by-same f y u (f (y +ℤ pos 1)) (f y) refl next refl come) come next))
    (λ (come : f (y +ℤ pos 1) ≤ℤ u). is_last f later (y +ℤ pos 1) u (last_by f y u) (last_by-next f y u (f (y +ℤ pos 1)) refl come) come past)

-- ---- and four years hold the last one

second_in_year : (u : ℤ) → (((days_before_year (year_of_second u) +ℤ pos 1 -ℤ pos 719_163) *ℤ pos 86_400) ≤ℤ u) × (u <ℤ ((days_before_year (year_of_second u +ℤ pos 1) +ℤ pos 1 -ℤ pos 719_163) *ℤ pos 86_400))
second_in_year u =
    let day : ℤ = pos 719_163 +ℤ int_div_euclid u (pos 86_400) in
    let named = ordinal_name_of-number day in
    let next = days_before_year-next (year_of day) (year_of day +ℤ pos 1) refl in
    (omega (arith, signed, named.number, named.exists.0), omega (arith, signed, named.number, named.exists.1, next))

low_days : (a b n : ℤ) (p len more : ℕ) (s o u x : ℤ) → b ≡ a +ℤ pos len → n ≡ b +ℤ pos more → 365 ≤ len → 365 ≤ more → p ≤ 366 → unsigned_abs s < 604_800 → unsigned_abs o < 86_400 → ((n +ℤ pos 1 -ℤ pos 719_163) *ℤ pos 86_400) ≤ℤ u → x ≡ ((a +ℤ pos p -ℤ pos 719_163) *ℤ pos 86_400 +ℤ s -ℤ o) → x ≤ℤ u
low_days a b n p len more s o u x next again l m near is_s is_o from is = omega (arith, signed, next, again, l, m, near, is_s, is_o, from, is)

high_days : (n b : ℤ) (p len : ℕ) (s o u x : ℤ) → b ≡ n +ℤ pos len → 365 ≤ len → unsigned_abs s < 604_800 → unsigned_abs o < 86_400 → u <ℤ ((n +ℤ pos 1 -ℤ pos 719_163) *ℤ pos 86_400) → x ≡ ((b +ℤ pos p -ℤ pos 719_163) *ℤ pos 86_400 +ℤ s -ℤ o) → u <ℤ x
high_days n b p len s o u x next l is_s is_o to is = omega (arith, signed, next, l, is_s, is_o, to, is)

-- the change of the year before the last one has come, and that of the year after the next one has not
pub change-come : (offset : ℤ) (c : YearlyChange) (u : ℤ) → IsChange c → unsigned_abs offset < 86_400 → change_second offset c (year_of_second u -ℤ pos 2) ≤ℤ u
change-come offset c u is near =
    let y : ℤ = year_of_second u in
    low_days (days_before_year (y -ℤ pos 2)) (days_before_year (y -ℤ pos 1)) (days_before_year y) (place (y -ℤ pos 2) c.day) (year_length (y -ℤ pos 2)) (year_length (y -ℤ pos 1)) c.second offset u (change_second offset c (y -ℤ pos 2))
    (days_before_year-next (y -ℤ pos 2) (y -ℤ pos 1) (omega (arith, signed))) (days_before_year-next (y -ℤ pos 1) y (omega (arith, signed)))
    (year_length_bounds (y -ℤ pos 2)).0 (year_length_bounds (y -ℤ pos 1)).0 (place-bounds (y -ℤ pos 2) c.day is.day).2 is.second near (second_in_year u).0 (change_second-place offset c (y -ℤ pos 2))

pub change-later : (offset : ℤ) (c : YearlyChange) (u : ℤ) → IsChange c → unsigned_abs offset < 86_400 → u <ℤ change_second offset c (year_of_second u +ℤ pos 1 +ℤ pos 1)
change-later offset c u is near =
    let y : ℤ = year_of_second u in
    high_days (days_before_year (y +ℤ pos 1)) (days_before_year (y +ℤ pos 1 +ℤ pos 1)) (place (y +ℤ pos 1 +ℤ pos 1) c.day) (year_length (y +ℤ pos 1)) c.second offset u (change_second offset c (y +ℤ pos 1 +ℤ pos 1))
    (days_before_year-next (y +ℤ pos 1) (y +ℤ pos 1 +ℤ pos 1) refl) (year_length_bounds (y +ℤ pos 1)).0 is.second near (second_in_year u).1 (change_second-place offset c (y +ℤ pos 1 +ℤ pos 1))

pub last_change : (offset : ℤ) (c : YearlyChange) (u : ℤ) → IsChange c → unsigned_abs offset < 86_400 → (last_by (change_second offset c) (year_of_second u) u ≤ℤ u) × ((z : ℤ) → change_second offset c z ≤ℤ u → change_second offset c z ≤ℤ last_by (change_second offset c) (year_of_second u) u)
unfolding IsLast
last_change offset c u is near =
    last_by-last (change_second offset c) (λ z. change_second-later offset c z is.day) (year_of_second u) u (change-come offset c u is near) (change-later offset c u is near)
