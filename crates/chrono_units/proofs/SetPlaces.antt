-- What the counts of a number's digits, and its lowest and highest digit, say of the set of that number.
use Rattle.std.proofs.Common.{◌≡◌, ◌≢◌, ℕ, ◌-◌, ◌^◌, ◌<◌, ◌≤◌, ◌==◌, refl, ap, sym, ◌∙◌, arith, true, min, nat_lt, bit_and, length, if◌then◌else◌, Option, Some, None}
use Rattle.std.specs.Option.{SomeIff}
use Rattle.std.proofs.lemmas.Bool.{cond-false, cond-true, eq-eqb, eqb-true, le-ltb, ne_eqb}
use lib.Count.{ones, count_leading_zeros, count_trailing_zeros}
use Rattle.chrono_units.specs.declared.weekday.Weekday.{Weekday}
use Rattle.chrono_units.specs.declared.weekday.Weekday.TheVariants.{Mon, Tue, Wed, Thu, Fri, Sat, Sun}
use Rattle.chrono_units.specs.Weekday.{days_from_monday, weekday_from_monday}
use Rattle.chrono_units.specs.WeekdaySet.{walk, first_day, last_day}
use Rattle.chrono_units.specs.SetDigits.{set_at}
use Rattle.chrono_units.proofs.EachSet.{each_day, each_day-at, each_number, each_number-at}
use Rattle.chrono_units.proofs.WeekdayCycle.{days_from_monday-weekday_from_monday}

-- the place of a day's digit, and 7 for no day
abbrev pub place : Option Weekday → ℕ
place None = 7
place (Some d) = days_from_monday d

day_at : ℕ → Option Weekday
day_at n = if n == 7 then None else Some (weekday_from_monday n)

day_at-place : (o : Option Weekday) → day_at (place o) ≡ o
unfolding day_at
day_at-place None = refl
day_at-place (Some Mon) = refl
day_at-place (Some Tue) = refl
day_at-place (Some Wed) = refl
day_at-place (Some Thu) = refl
day_at-place (Some Fri) = refl
day_at-place (Some Sat) = refl
day_at-place (Some Sun) = refl

same_place : (o p : Option Weekday) → place o ≡ place p → o ≡ p
same_place o p h = sym (day_at-place o) ∙ ap day_at h ∙ day_at-place p

-- the place of the day that `Weekday::from_u32` gives
place-SomeIff : (o : Option Weekday) (n : ℕ) → SomeIff o (n < 7) (weekday_from_monday n) → place o ≡ min n 7
place-SomeIff None n h = omega arith
place-SomeIff (Some d) n h = ap days_from_monday h.1 ∙ days_from_monday-weekday_from_monday n h.0 ∙ omega (arith, h.0)

counted : each_number (λ n. ones n == length (walk (set_at n) Mon)) ≡ true
unfolding each_number ones
counted = refl

-- the digits that are set are the members
pub ones-set_at : (n : ℕ) → n < 128 → ones n ≡ length (walk (set_at n) Mon)
ones-set_at n small = eqb-true _ _ (each_number-at _ counted n small)

firsts_found : each_number (λ n. place (first_day (walk (set_at n) Mon)) == min (count_trailing_zeros 8 n) 7) ≡ true
unfolding each_number count_trailing_zeros
firsts_found = refl

-- the lowest digit is the first member
pub first_day-set_at : (n : ℕ) → n < 128 → (o : Option Weekday) → SomeIff o (count_trailing_zeros 8 n < 7) (weekday_from_monday (count_trailing_zeros 8 n)) → o ≡ first_day (walk (set_at n) Mon)
first_day-set_at n small o given =
    same_place _ _ (place-SomeIff o _ given ∙ sym (eqb-true _ _ (each_number-at _ firsts_found n small)))

-- the place of the highest digit below that many zeros of eight, and 7 where none is set
abbrev highest_place : ℕ → ℕ
highest_place zeros = if nat_lt 7 zeros then 7 else 7 - zeros

lasts_found : each_number (λ n. place (last_day (walk (set_at n) Mon)) == highest_place (count_leading_zeros 8 n)) ≡ true
unfolding each_number count_leading_zeros
lasts_found = refl

-- the highest digit is the last member
pub last_day-set_at : (n : ℕ) → n < 128 → count_leading_zeros 8 n ≤ 7 → (k : ℕ) → k ≡ 7 - count_leading_zeros 8 n → (o : Option Weekday) → SomeIff o (k < 7) (weekday_from_monday k) → o ≡ last_day (walk (set_at n) Mon)
last_day-set_at n small few k at o given =
    let high : min k 7 ≡ highest_place (count_leading_zeros 8 n) =
    omega arith ∙ sym (cond-false _ _ _ (le-ltb _ _ few)) in
    same_place _ _ (place-SomeIff o _ given ∙ high ∙ sym (eqb-true _ _ (each_number-at _ lasts_found n small)))

-- the digits from a start on, and those before it
abbrev pub later_digits : ℕ → Weekday → ℕ
later_digits n start = bit_and n (255 - (2 ^ days_from_monday start - 1))

abbrev pub earlier_digits : ℕ → Weekday → ℕ
earlier_digits n start = bit_and n (2 ^ days_from_monday start - 1)

-- the digits to look at: those part, or all where that part has none
abbrev or_all : ℕ → ℕ → ℕ
or_all n part = if part == 0 then n else part

firsts_from_found : each_day (λ start. each_number (λ n. place (first_day (walk (set_at n) start)) == place (first_day (walk (set_at (or_all n (later_digits n start))) Mon)))) ≡ true
unfolding each_day each_number
firsts_from_found = refl

first_from : (n : ℕ) → n < 128 → (start : Weekday) → first_day (walk (set_at n) start) ≡ first_day (walk (set_at (or_all n (later_digits n start))) Mon)
first_from n small start = same_place _ _ (eqb-true _ _ (each_number-at _ (each_day-at _ firsts_from_found start) n small))

-- where no member comes from the start on, the first is the first from Monday on
pub first_from-none : (n : ℕ) → n < 128 → (start : Weekday) → later_digits n start ≡ 0 → first_day (walk (set_at n) Mon) ≡ first_day (walk (set_at n) start)
first_from-none n small start none = ap (λ k. first_day (walk (set_at k) Mon)) (sym (cond-true _ _ _ (eq-eqb _ _ none))) ∙ sym (first_from n small start)

-- and else it is the first of those that do
pub first_from-some : (n : ℕ) → n < 128 → (start : Weekday) → later_digits n start ≢ 0 → first_day (walk (set_at (later_digits n start)) Mon) ≡ first_day (walk (set_at n) start)
first_from-some n small start some = ap (λ k. first_day (walk (set_at k) Mon)) (sym (cond-false _ _ _ (ne_eqb _ _ some))) ∙ sym (first_from n small start)

lasts_before_found : each_day (λ start. each_number (λ n. place (last_day (walk (set_at n) start)) == place (last_day (walk (set_at (or_all n (earlier_digits n start))) Mon)))) ≡ true
unfolding each_day each_number
lasts_before_found = refl

last_before : (n : ℕ) → n < 128 → (start : Weekday) → last_day (walk (set_at n) start) ≡ last_day (walk (set_at (or_all n (earlier_digits n start))) Mon)
last_before n small start = same_place _ _ (eqb-true _ _ (each_number-at _ (each_day-at _ lasts_before_found start) n small))

-- where no member comes before the start, the last is the last before the next Monday
pub last_before-none : (n : ℕ) → n < 128 → (start : Weekday) → earlier_digits n start ≡ 0 → last_day (walk (set_at n) Mon) ≡ last_day (walk (set_at n) start)
last_before-none n small start none = ap (λ k. last_day (walk (set_at k) Mon)) (sym (cond-true _ _ _ (eq-eqb _ _ none))) ∙ sym (last_before n small start)

-- and else it is the last of those that do
pub last_before-some : (n : ℕ) → n < 128 → (start : Weekday) → earlier_digits n start ≢ 0 → last_day (walk (set_at (earlier_digits n start)) Mon) ≡ last_day (walk (set_at n) start)
last_before-some n small start some = ap (λ k. last_day (walk (set_at k) Mon)) (sym (cond-false _ _ _ (ne_eqb _ _ some))) ∙ sym (last_before n small start)
