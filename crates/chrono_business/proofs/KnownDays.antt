-- Days of known years: between two of them each day is known. And a day rolls to one date at most.
use Rattle.std.proofs.Common.{◌≡◌, Bool, true, false, ◌&&◌, if◌then◌else◌, inl, inr, refl, sym, ap, ◌∙◌, arith, ℤ, pos, neg_ℤ, ◌+ℤ◌, ◌-ℤ◌, ◌≤ℤ◌, ◌<ℤ◌, int_le, unsigned_abs, Option, Some, None}
use Rattle.std.proofs.lemmas.Bool.{and_parts, false≢true}
use Rattle.std.proofs.lemmas.Int.{ints}
use Rattle.chrono_datetime.specs.Days.{IsDate, date_of_day, is_date, year_of}
use Rattle.chrono_datetime.proofs.Signed.{signed}
use Rattle.chrono_datetime.proofs.Rising.{year_of-rises}
use Rattle.chrono_business.specs.declared.known_years.KnownYears.{KnownYears}
use Rattle.chrono_business.specs.declared.roll.Roll.{Roll}
use Rattle.chrono_business.specs.declared.roll.Roll.TheVariants.{Unadjusted, Following, Preceding, ModifiedFollowing, ModifiedPreceding, NearestIsda, NearestQuantLib}
use Rattle.chrono_business.specs.KnownYears.{AreKnownDays, is_known, is_roll_known, is_some_known, other_side}
use Rattle.chrono_business.specs.OpenDays.{Closed, is_open}
use Rattle.chrono_business.specs.Rolls.{IsLastOpen, IsNearestOpen, IsNextOpen, RollsTo}
use Rattle.chrono_business.proofs.RollLemmas.{last-last, next-first, open_and_closed}

pub known-parts : (years : KnownYears) (d : ℤ) → is_known years d ≡ true → IsDate d × ((years.first ≤ℤ year_of d) × (year_of d ≤ℤ years.last))
unfolding is_known
known-parts years d is =
    let both = and_parts (is_date d) (int_le years.first (year_of d) && int_le (year_of d) years.last) is in
    let date : is_date d ≡ true = both.0 in
    let named = and_parts (int_le years.first (year_of d)) (int_le (year_of d) years.last) both.1 in
    let low : int_le years.first (year_of d) ≡ true = named.0 in
    let high : int_le (year_of d) years.last ≡ true = named.1 in
    ((grind (arith, ints, date), grind (arith, ints, date)), (grind (arith, ints, low), grind (arith, ints, high)))

known-from : (years : KnownYears) (d : ℤ) → IsDate d → years.first ≤ℤ year_of d → year_of d ≤ℤ years.last → is_known years d ≡ true
unfolding is_known
known-from years d date low high =
    let is : is_date d ≡ true = grind (arith, ints, date.0, date.1) in
    let one : int_le years.first (year_of d) ≡ true = grind (arith, ints, low) in
    let other : int_le (year_of d) years.last ≡ true = grind (arith, ints, high) in
    rw (is, one, other) refl

pub known-between : (years : KnownYears) (a b d : ℤ) → is_known years a ≡ true → is_known years b ≡ true → a ≤ℤ d → d ≤ℤ b → is_known years d ≡ true
known-between years a b d first last low high =
    let one = known-parts years a first in
    let other = known-parts years b last in
    known-from years d (omega (arith, signed, one.0.0, low), omega (arith, signed, other.0.1, high))
    (omega (arith, signed, one.1.0, year_of-rises a d low)) (omega (arith, signed, other.1.1, year_of-rises d b high))

-- a day is known if it is a date and that date is known
known-tested : (years : KnownYears) (n : ℤ) (b : Bool) → is_date n ≡ b → is_some_known years (if b then Some n else None) ≡ is_known years n
unfolding is_known
known-tested years n true is = refl
known-tested years n false is = rw is refl

pub some-known : (years : KnownYears) (o : Option ℤ) (n : ℤ) → o ≡ date_of_day n → is_some_known years o ≡ is_known years n
unfolding date_of_day
some-known years o n same = rw same (known-tested years n (is_date n) refl)

pub all-known : (years : KnownYears) (a b n : ℤ) (o : Option ℤ) → is_known years a ≡ true → a <ℤ b → o ≡ date_of_day n → n +ℤ pos 1 ≡ b → (is_some_known years o ≡ true → AreKnownDays years a b) × (AreKnownDays years a b → is_some_known years o ≡ true)
all-known years a b n o first order same before = (
  (λ is d low high. known-between years a n d first (sym (some-known years o n same) ∙ is) low (omega (arith, signed, high, before))),
  (λ all. some-known years o n same ∙ all n (omega (arith, signed, order, before)) (omega (arith, signed, before))),
)

-- ---- rolls

pub roll-known-date : (years : KnownYears) (roll : Roll) (d e : ℤ) → is_roll_known years roll d e ≡ true → IsDate e
unfolding is_roll_known
roll-known-date years roll d e is =
    let both = and_parts (is_known years d) (is_known years e && is_known years (other_side roll d e)) is in
    (known-parts years e (and_parts (is_known years e) (is_known years (other_side roll d e)) both.1).0).0

pub roll-known-no_date : (years : KnownYears) (roll : Roll) (d e : ℤ) → is_known years d ≡ false → false ≡ is_roll_known years roll d e
unfolding is_roll_known
roll-known-no_date years roll d e here = rw here refl

pub roll-known-no_end : (years : KnownYears) (roll : Roll) (d e : ℤ) → is_known years d ≡ true → is_known years e ≡ false → false ≡ is_roll_known years roll d e
unfolding is_roll_known
roll-known-no_end years roll d e here there = rw (here, there) refl

pub roll-known-nearest : (years : KnownYears) (roll : Roll) (d e : ℤ) → roll ≡ NearestQuantLib → is_known years d ≡ true → is_known years e ≡ true → is_known years (d +ℤ (d -ℤ e)) ≡ is_roll_known years roll d e
unfolding is_roll_known other_side
roll-known-nearest years roll d e nearest here there = rw (nearest, here, there) refl

pub roll-known-other : (years : KnownYears) (roll : Roll) (d e : ℤ) → (roll ≡ NearestQuantLib → ⊥) → is_known years d ≡ true → is_known years e ≡ true → true ≡ is_roll_known years roll d e
unfolding is_roll_known other_side
roll-known-other years Unadjusted d e other here there = rw (here, there) refl
roll-known-other years Following d e other here there = rw (here, there) refl
roll-known-other years Preceding d e other here there = rw (here, there) refl
roll-known-other years ModifiedFollowing d e other here there = rw (here, there) refl
roll-known-other years ModifiedPreceding d e other here there = rw (here, there) refl
roll-known-other years NearestIsda d e other here there = rw (here, there) refl
roll-known-other years NearestQuantLib d e other here there = absurd (other refl)

next-one : (c : Closed) (d e f : ℤ) → IsNextOpen c d e → IsNextOpen c d f → e ≡ f
next-one c d e f one other = omega (arith, signed, next-first c d e f one other.passes other.not_before, next-first c d f e other one.passes one.not_before)

last-one : (c : Closed) (d e f : ℤ) → IsLastOpen c d e → IsLastOpen c d f → e ≡ f
last-one c d e f one other = omega (arith, signed, last-last c d e f one other.passes other.not_after, last-last c d f e other one.passes one.not_after)

nearest-one : (c : Closed) (d e f : ℤ) → IsDate e → IsDate f → IsNearestOpen c d e → IsNearestOpen c d f → e ≡ f
nearest-one c d e f e-is f-is one other =
    let same : unsigned_abs (e -ℤ d) ≡ unsigned_abs (f -ℤ d) = omega (arith, one.nearest f f-is other.passes, other.nearest e e-is one.passes) in
    omega (arith, signed, one.later f f-is other.passes same, other.later e e-is one.passes (sym same))

pub rolls-one : (c : Closed) (roll : Roll) (d e f : ℤ) → IsDate e → IsDate f → RollsTo c roll d e → RollsTo c roll d f → e ≡ f
rolls-one c Unadjusted d e f e-is f-is one other = one ∙ sym other
rolls-one c Following d e f e-is f-is one other = next-one c d e f one other
rolls-one c Preceding d e f e-is f-is one other = last-one c d e f one other
rolls-one c ModifiedFollowing d e f e-is f-is one other = elim one [
  | inl h ↦ elim other [
    | inl k ↦ next-one c d e f h.0 k.0
    | inr k ↦ absurd (open_and_closed c e h.0.passes (k.1 e h.0.not_before h.1))
  ]
  | inr h ↦ elim other [
    | inl k ↦ absurd (open_and_closed c f k.0.passes (h.1 f k.0.not_before k.1))
    | inr k ↦ last-one c d e f h.0 k.0
  ]
]
rolls-one c ModifiedPreceding d e f e-is f-is one other = elim one [
  | inl h ↦ elim other [
    | inl k ↦ last-one c d e f h.0 k.0
    | inr k ↦ absurd (open_and_closed c e h.0.passes (k.1 e h.0.not_after h.1))
  ]
  | inr h ↦ elim other [
    | inl k ↦ absurd (open_and_closed c f k.0.passes (h.1 f k.0.not_after k.1))
    | inr k ↦ next-one c d e f h.0 k.0
  ]
]
rolls-one c NearestIsda d e f e-is f-is one other = elim one [
  | inl h ↦ elim other [
    | inl k ↦ next-one c d e f h.0 k.0
    | inr k ↦ absurd (false≢true (sym k.1 ∙ h.1))
  ]
  | inr h ↦ elim other [
    | inl k ↦ absurd (false≢true (sym h.1 ∙ k.1))
    | inr k ↦ last-one c d e f h.0 k.0
  ]
]
rolls-one c NearestQuantLib d e f e-is f-is one other = nearest-one c d e f e-is f-is one other
