-- The days on to the first member of a set, from the digits of two weeks in a row.
use Rattle.std.proofs.Common.{◌≡◌, ◌≢◌, ℕ, ◌*◌, ◌/◌, ◌^◌, ◌<◌, ◌==◌, refl, ap, sym, ◌∙◌, arith, Bool, true, false, ◌&&◌, nat_lt, Option, Some, None, cond}
use Rattle.std.proofs.lemmas.Bool.{agree_below, agree_below_at, and_parts, cond-false, eqb-true, ltb-true, ne_eqb}
use lib.Count.{count_trailing_zeros}
use Rattle.chrono_units.specs.declared.weekday.Weekday.{Weekday}
use Rattle.chrono_units.specs.declared.weekday.Weekday.TheVariants.{Mon, Tue, Wed, Thu, Fri, Sat, Sun}
use Rattle.chrono_units.specs.Weekday.{days_from_monday}
use Rattle.chrono_units.specs.WeekdaySet.{contains, days_until, no_days, weekday_after}
use Rattle.chrono_units.specs.SetDigits.{set_at}
use Rattle.chrono_units.proofs.EachSet.{each_day, each_day-at, each_number, each_number-at}

-- an empty set has no member
pub days_until-none : (start : Weekday) → None ≡ days_until no_days start
unfolding days_until
days_until-none = elim [ Mon ↦ refl | Tue ↦ refl | Wed ↦ refl | Thu ↦ refl | Fri ↦ refl | Sat ↦ refl | Sun ↦ refl ]

pub set_at-zero : set_at 0 ≡ no_days
set_at-zero = refl

-- the days to the lowest digit of two weeks, from the start on
abbrev pub ahead : ℕ → Weekday → ℕ
ahead n start = count_trailing_zeros 32 (n * 129 / 2 ^ days_from_monday start)

-- a number of days, and 7 for none
abbrev days_or_seven : Option ℕ → ℕ
days_or_seven None = 7
days_or_seven (Some k) = k

-- the tests of a number of days: it is below seven, there is a member so many days on from the start, none comes before, and
-- it is the number that counting gives
abbrev is_member_after : ℕ → Weekday → ℕ → Bool
is_member_after n start k = contains (set_at n) (weekday_after start k)

abbrev is_least_after : ℕ → Weekday → ℕ → Bool
is_least_after n start k = agree_below (is_member_after n start) (λ j. false) k

abbrev is_counted : ℕ → Weekday → ℕ → Bool
is_counted n start k = days_or_seven (days_until (set_at n) start) == k

abbrev is_first_after : ℕ → Weekday → ℕ → Bool
is_first_after n start k = (nat_lt k 7 && is_member_after n start k) && (is_least_after n start k && is_counted n start k)

firsts_ahead : each_day (λ start. each_number (λ n. cond (n == 0) true (is_first_after n start (ahead n start)))) ≡ true
unfolding each_day each_number days_until count_trailing_zeros
firsts_ahead = refl

first_ahead : (n : ℕ) → n < 128 → n ≢ 0 → (start : Weekday) → (nat_lt (ahead n start) 7 && is_member_after n start (ahead n start) ≡ true) × (is_least_after n start (ahead n start) && is_counted n start (ahead n start) ≡ true)
first_ahead n small some start =
    and_parts (nat_lt (ahead n start) 7 && is_member_after n start (ahead n start)) (is_least_after n start (ahead n start) && is_counted n start (ahead n start))
    (sym (cond-false _ _ _ (ne_eqb _ _ some)) ∙ each_number-at _ (each_day-at _ firsts_ahead start) n small)

pub ahead-within : (n : ℕ) → n < 128 → n ≢ 0 → (start : Weekday) → ahead n start < 7
ahead-within n small some start =
    ltb-true _ _ (and_parts (nat_lt (ahead n start) 7) (is_member_after n start (ahead n start)) (first_ahead n small some start).0).0

pub ahead-member : (n : ℕ) → n < 128 → n ≢ 0 → (start : Weekday) → contains (set_at n) (weekday_after start (ahead n start)) ≡ true
ahead-member n small some start =
    (and_parts (nat_lt (ahead n start) 7) (is_member_after n start (ahead n start)) (first_ahead n small some start).0).1

pub ahead-least : (n : ℕ) → n < 128 → n ≢ 0 → (start : Weekday) → (k : ℕ) → k < ahead n start → contains (set_at n) (weekday_after start k) ≡ false
ahead-least n small some start k before =
    let least = (and_parts (is_least_after n start (ahead n start)) (is_counted n start (ahead n start)) (first_ahead n small some start).1).0 in
    agree_below_at (is_member_after n start) (λ j. false) (ahead n start) k least before

some_days : (o : Option ℕ) (k : ℕ) → k < 7 → days_or_seven o ≡ k → Some k ≡ o
some_days None k below e = absurd (omega arith)
some_days (Some j) k below e = ap Some (sym e)

pub days_until-ahead : (n : ℕ) → n < 128 → n ≢ 0 → (start : Weekday) → Some (ahead n start) ≡ days_until (set_at n) start
days_until-ahead n small some start =
    let counted = (and_parts (is_least_after n start (ahead n start)) (is_counted n start (ahead n start)) (first_ahead n small some start).1).1 in
    some_days _ _ (ahead-within n small some start) (eqb-true _ _ counted)
