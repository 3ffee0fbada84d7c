-- The next and the last open day as relations, within a month, and the nearest of both.
use Rattle.std.proofs.Common.{◌≡◌, true, false, inl, inr, refl, sym, ◌∙◌, arith, ℤ, ◌-ℤ◌, ◌≤ℤ◌, ◌<ℤ◌, Option, Some, None, IfSome, IfNone}
use Rattle.std.proofs.lemmas.Bool.{false≢true}
use Rattle.std.proofs.lemmas.Int.{by_lt_z}
use Rattle.chrono_datetime.specs.Days.{IsDate}
use Rattle.chrono_datetime.specs.MonthMoves.{InSameMonth, month_first_of, month_last_of}
use Rattle.chrono_datetime.proofs.Signed.{signed}
use Rattle.chrono_datetime.proofs.MonthDays.{in_month-IsDate, month-days}
use Rattle.chrono_business.specs.declared.roll.Roll.TheVariants.{ModifiedFollowing, ModifiedPreceding}
use Rattle.chrono_business.specs.OpenDays.{Closed, is_open}
use Rattle.chrono_business.specs.Rolls.{IsLastOpen, IsNearestOpen, IsNextOpen, MonthBeginsClosed, MonthEndsClosed, RollsTo}

pub open_and_closed : (c : Closed) (d : ℤ) → is_open c d ≡ true → is_open c d ≡ false → ⊥
open_and_closed c d is not = false≢true (sym not ∙ is)

-- no open day lies before the next one, or behind the last one
pub next-first : (c : Closed) (d e f : ℤ) → IsNextOpen c d e → is_open c f ≡ true → d ≤ℤ f → e ≤ℤ f
next-first c d e f next is low =
    by_lt_z f e (λ lt. absurd (open_and_closed c f is (next.least f low lt))) (λ ge. ge)

pub last-last : (c : Closed) (d e f : ℤ) → IsLastOpen c d e → is_open c f ≡ true → f ≤ℤ d → f ≤ℤ e
last-last c d e f last is high =
    by_lt_z e f (λ lt. absurd (open_and_closed c f is (last.greatest f lt high))) (λ ge. ge)

pub if-is_next : (o : Option ℤ) (c : Closed) (d : ℤ) → IfSome o (λ e. is_open c e ≡ true) → IfSome o (λ e. d ≤ℤ e) → IfSome o (λ e. (f : ℤ) → d ≤ℤ f → f <ℤ e → is_open c f ≡ false) → IfSome o (λ e. IsNextOpen c d e)
if-is_next None c d passes not_before least = tt
if-is_next (Some e) c d passes not_before least = record { passes = passes; not_before = not_before; least = least }

pub if-is_last : (o : Option ℤ) (c : Closed) (d : ℤ) → IfSome o (λ e. is_open c e ≡ true) → IfSome o (λ e. e ≤ℤ d) → IfSome o (λ e. (f : ℤ) → e <ℤ f → f ≤ℤ d → is_open c f ≡ false) → IfSome o (λ e. IsLastOpen c d e)
if-is_last None c d passes not_after greatest = tt
if-is_last (Some e) c d passes not_after greatest = record { passes = passes; not_after = not_after; greatest = greatest }

pub if-none_next : (o : Option ℤ) (c : Closed) (d : ℤ) → IfNone o ((f : ℤ) → d ≤ℤ f → IsDate f → is_open c f ≡ false) → IfNone o ((e : ℤ) → IsDate e → IsNextOpen c d e → ⊥)
if-none_next None c d closed = λ e date next. open_and_closed c e next.passes (closed e next.not_before date)
if-none_next (Some e) c d closed = tt

pub if-none_last : (o : Option ℤ) (c : Closed) (d : ℤ) → IfNone o ((f : ℤ) → f ≤ℤ d → IsDate f → is_open c f ≡ false) → IfNone o ((e : ℤ) → IsDate e → IsLastOpen c d e → ⊥)
if-none_last None c d closed = λ e date last. open_and_closed c e last.passes (closed e last.not_after date)
if-none_last (Some e) c d closed = tt

-- ---- within a month

pub in_own_month : (d : ℤ) → (month_first_of d ≤ℤ d) × (d ≤ℤ month_last_of d)
in_own_month d = (month-days d d).0 (refl, refl)

pub next-in_month : (c : Closed) (d e : ℤ) → d ≤ℤ e → e ≤ℤ month_last_of d → InSameMonth e d
next-in_month c d e low high = (month-days d e).1 (omega (arith, signed, low, (in_own_month d).0), high)

pub last-in_month : (c : Closed) (d e : ℤ) → e ≤ℤ d → month_first_of d ≤ℤ e → InSameMonth e d
last-in_month c d e high low = (month-days d e).1 (low, omega (arith, signed, high, (in_own_month d).1))

pub ends_closed-no_next : (c : Closed) (d : ℤ) → IsDate d → ((f : ℤ) → d ≤ℤ f → IsDate f → is_open c f ≡ false) → MonthEndsClosed c d
ends_closed-no_next c d d-is closed = λ f low month. closed f low (in_month-IsDate d f d-is month)

pub ends_closed-late : (c : Closed) (d e : ℤ) → ((f : ℤ) → d ≤ℤ f → f <ℤ e → is_open c f ≡ false) → month_last_of d <ℤ e → MonthEndsClosed c d
ends_closed-late c d e least late = λ f low month. least f low (omega (arith, signed, late, ((month-days d f).0 month).1))

pub begins_closed-no_last : (c : Closed) (d : ℤ) → IsDate d → ((f : ℤ) → f ≤ℤ d → IsDate f → is_open c f ≡ false) → MonthBeginsClosed c d
begins_closed-no_last c d d-is closed = λ f high month. closed f high (in_month-IsDate d f d-is month)

pub begins_closed-early : (c : Closed) (d e : ℤ) → ((f : ℤ) → e <ℤ f → f ≤ℤ d → is_open c f ≡ false) → e <ℤ month_first_of d → MonthBeginsClosed c d
begins_closed-early c d e greatest early = λ f high month. greatest f (omega (arith, signed, early, ((month-days d f).0 month).0)) high

pub if-modified_following : (o : Option ℤ) (c : Closed) (d : ℤ) → MonthEndsClosed c d → IfNone o ((f : ℤ) → f ≤ℤ d → IsDate f → is_open c f ≡ false) → IfNone o ((e : ℤ) → IsDate e → RollsTo c ModifiedFollowing d e → ⊥)
if-modified_following None c d ends closed = λ e date. elim [
  | inl h ↦ open_and_closed c e h.0.passes (ends e h.0.not_before h.1)
  | inr h ↦ open_and_closed c e h.0.passes (closed e h.0.not_after date)
]
if-modified_following (Some e) c d ends closed = tt

pub if-modified_preceding : (o : Option ℤ) (c : Closed) (d : ℤ) → MonthBeginsClosed c d → IfNone o ((f : ℤ) → d ≤ℤ f → IsDate f → is_open c f ≡ false) → IfNone o ((e : ℤ) → IsDate e → RollsTo c ModifiedPreceding d e → ⊥)
if-modified_preceding None c d begins closed = λ e date. elim [
  | inl h ↦ open_and_closed c e h.0.passes (begins e h.0.not_after h.1)
  | inr h ↦ open_and_closed c e h.0.passes (closed e h.0.not_before date)
]
if-modified_preceding (Some e) c d begins closed = tt

-- ---- the nearest

-- each open date is as far as the next one at least, or as the last one
pub nearest-next : (c : Closed) (d n l : ℤ) → IsNextOpen c d n → IsLastOpen c d l → (n -ℤ d) ≤ℤ (d -ℤ l) → IsNearestOpen c d n
nearest-next c d n l next last near = record {
  passes = next.passes;
  nearest = λ f date is. by_lt_z f d
      (λ lt. omega (arith, signed, near, next.not_before, last.not_after, last-last c d l f last is (omega (arith, signed, lt))))
      (λ ge. omega (arith, signed, next.not_before, ge, next-first c d n f next is ge));
  later = λ f date is same. by_lt_z f d (λ lt. omega (arith, signed, lt, next.not_before)) (λ ge. omega (arith, signed, ge, next.not_before, same));
}

pub nearest-last : (c : Closed) (d n l : ℤ) → IsNextOpen c d n → IsLastOpen c d l → (d -ℤ l) <ℤ (n -ℤ d) → IsNearestOpen c d l
nearest-last c d n l next last near = record {
  passes = last.passes;
  nearest = λ f date is. by_lt_z f d
      (λ lt. omega (arith, signed, last.not_after, last-last c d l f last is (omega (arith, signed, lt))))
      (λ ge. omega (arith, signed, near, next.not_before, last.not_after, ge, next-first c d n f next is ge));
  later = λ f date is same. by_lt_z f d
      (λ lt. last-last c d l f last is (omega (arith, signed, lt)))
      (λ ge. absurd (omega (arith, signed, near, next.not_before, last.not_after, ge, same, next-first c d n f next is ge)));
}

pub nearest-only_next : (c : Closed) (d n : ℤ) → IsNextOpen c d n → ((f : ℤ) → f ≤ℤ d → IsDate f → is_open c f ≡ false) → IsNearestOpen c d n
nearest-only_next c d n next closed = record {
  passes = next.passes;
  nearest = λ f date is. by_lt_z f d
      (λ lt. absurd (open_and_closed c f is (closed f (omega (arith, signed, lt)) date)))
      (λ ge. omega (arith, signed, next.not_before, ge, next-first c d n f next is ge));
  later = λ f date is same. by_lt_z f d (λ lt. omega (arith, signed, lt, next.not_before)) (λ ge. omega (arith, signed, ge, next.not_before, same));
}

pub nearest-only_last : (c : Closed) (d l : ℤ) → IsLastOpen c d l → ((f : ℤ) → d ≤ℤ f → IsDate f → is_open c f ≡ false) → IsNearestOpen c d l
nearest-only_last c d l last closed = record {
  passes = last.passes;
  nearest = λ f date is. by_lt_z f d
      (λ lt. omega (arith, signed, last.not_after, last-last c d l f last is (omega (arith, signed, lt))))
      (λ ge. absurd (open_and_closed c f is (closed f ge date)));
  later = λ f date is same. by_lt_z f d
      (λ lt. last-last c d l f last is (omega (arith, signed, lt)))
      (λ ge. absurd (open_and_closed c f is (closed f ge date)));
}

pub if-only_next : (o : Option ℤ) (c : Closed) (d : ℤ) → IfSome o (λ e. IsNextOpen c d e) → ((f : ℤ) → f ≤ℤ d → IsDate f → is_open c f ≡ false) → IfSome o (λ e. IsNearestOpen c d e)
if-only_next None c d next closed = tt
if-only_next (Some e) c d next closed = nearest-only_next c d e next closed

pub if-none_open : (o : Option ℤ) (c : Closed) (d : ℤ) → IfNone o ((f : ℤ) → d ≤ℤ f → IsDate f → is_open c f ≡ false) → ((f : ℤ) → f ≤ℤ d → IsDate f → is_open c f ≡ false) → IfNone o ((e : ℤ) → IsDate e → IsNearestOpen c d e → ⊥)
if-none_open None c d behind before = λ e date near. by_lt_z e d
    (λ lt. open_and_closed c e near.passes (before e (omega (arith, signed, lt)) date))
    (λ ge. open_and_closed c e near.passes (behind e ge date))
if-none_open (Some e) c d behind before = tt
