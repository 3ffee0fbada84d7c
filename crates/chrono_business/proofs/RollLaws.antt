-- What a date rolls to is open, an open date stays, and by a modified roll a date stays in a month that has an open day.
use Rattle.std.proofs.Common.{◌≡◌, ◌≢◌, true, inl, inr, refl, arith, ℤ}
use Rattle.std.proofs.lemmas.Int.{by_lt_z}
use Rattle.chrono_datetime.specs.Days.{IsDate}
use Rattle.chrono_datetime.specs.MonthMoves.{InSameMonth}
use Rattle.chrono_datetime.proofs.Signed.{signed}
use Rattle.chrono_datetime.proofs.MonthDays.{month-days}
use Rattle.chrono_business.specs.declared.roll.Roll.{Roll}
use Rattle.chrono_business.specs.declared.roll.Roll.TheVariants.{Unadjusted, Following, Preceding, ModifiedFollowing, ModifiedPreceding, NearestIsda, NearestQuantLib}
use Rattle.chrono_business.specs.OpenDays.{Closed, is_open}
use Rattle.chrono_business.specs.Rolls.{IsLastOpen, IsNextOpen, RollsTo}
use Rattle.chrono_business.proofs.RollLemmas.{last-last, next-first, open_and_closed}

pub rolls-open : (c : Closed) (roll : Roll) (d e : ℤ) → roll ≢ Unadjusted → RollsTo c roll d e → is_open c e ≡ true
rolls-open c Unadjusted d e other rolled = absurd (other refl)
rolls-open c Following d e other rolled = rolled.passes
rolls-open c Preceding d e other rolled = rolled.passes
rolls-open c ModifiedFollowing d e other rolled = elim rolled [ inl h ↦ h.0.passes | inr h ↦ h.0.passes ]
rolls-open c ModifiedPreceding d e other rolled = elim rolled [ inl h ↦ h.0.passes | inr h ↦ h.0.passes ]
rolls-open c NearestIsda d e other rolled = elim rolled [ inl h ↦ h.0.passes | inr h ↦ h.0.passes ]
rolls-open c NearestQuantLib d e other rolled = rolled.passes

-- an open day is its own next one and its own last one
next-same : (c : Closed) (d e : ℤ) → is_open c d ≡ true → IsNextOpen c d e → e ≡ d
next-same c d e is next = omega (arith, signed, next.not_before, next-first c d e d next is (omega (arith, signed)))

last-same : (c : Closed) (d e : ℤ) → is_open c d ≡ true → IsLastOpen c d e → e ≡ d
last-same c d e is last = omega (arith, signed, last.not_after, last-last c d e d last is (omega (arith, signed)))

pub rolls-stay : (c : Closed) (roll : Roll) (d e : ℤ) → IsDate d → is_open c d ≡ true → RollsTo c roll d e → e ≡ d
rolls-stay c Unadjusted d e date is rolled = rolled
rolls-stay c Following d e date is rolled = next-same c d e is rolled
rolls-stay c Preceding d e date is rolled = last-same c d e is rolled
rolls-stay c ModifiedFollowing d e date is rolled = elim rolled [ inl h ↦ next-same c d e is h.0 | inr h ↦ last-same c d e is h.0 ]
rolls-stay c ModifiedPreceding d e date is rolled = elim rolled [ inl h ↦ last-same c d e is h.0 | inr h ↦ next-same c d e is h.0 ]
rolls-stay c NearestIsda d e date is rolled = elim rolled [ inl h ↦ next-same c d e is h.0 | inr h ↦ last-same c d e is h.0 ]
rolls-stay c NearestQuantLib d e date is rolled = omega (arith, signed, rolled.nearest d date is)

pub following-in_month : (c : Closed) (d e f : ℤ) → RollsTo c ModifiedFollowing d e → InSameMonth f d → is_open c f ≡ true → InSameMonth e d
following-in_month c d e f rolled month is = elim rolled [
  | inl h ↦ h.1
  | inr h ↦
      by_lt_z f d
      (λ lt.
      let place = (month-days d f).0 month in
      let own = (month-days d d).0 (refl, refl) in
      let behind = last-last c d e f h.0 is (omega (arith, signed, lt)) in
      (month-days d e).1 (omega (arith, signed, place.0, behind), omega (arith, signed, own.1, h.0.not_after)))
      (λ ge. absurd (open_and_closed c f is (h.1 f ge month)))
]

pub preceding-in_month : (c : Closed) (d e f : ℤ) → RollsTo c ModifiedPreceding d e → InSameMonth f d → is_open c f ≡ true → InSameMonth e d
preceding-in_month c d e f rolled month is = elim rolled [
  | inl h ↦ h.1
  | inr h ↦
      by_lt_z d f
      (λ lt.
      let place = (month-days d f).0 month in
      let own = (month-days d d).0 (refl, refl) in
      let before = next-first c d e f h.0 is (omega (arith, signed, lt)) in
      (month-days d e).1 (omega (arith, signed, own.0, h.0.not_before), omega (arith, signed, place.1, before)))
      (λ ge. absurd (open_and_closed c f is (h.1 f ge month)))
]
