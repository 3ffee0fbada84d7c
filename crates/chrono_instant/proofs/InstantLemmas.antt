-- Seconds from 1 January 1970, and the dates and times of day that lie there.
use Rattle.std.proofs.Common.{◌≡◌, ◌↔◌, ◌⊎◌, inl, inr, ℕ, ◌%◌, ◌<◌, ℤ, pos, negsuc, neg_ℤ, ◌+ℤ◌, ◌<ℤ◌, arith, ap, subst, ◌∙◌, sym}
use Rattle.std.specs.Int.{int_rem_euclid}
use Rattle.std.proofs.lemmas.Int.{by_lt_z, ints}
use Rattle.chrono_datetime.specs.Days.{IsDate}
use Rattle.chrono_datetime.specs.Moment.{Moment, IsBefore, IsMoment, moment}
use Rattle.chrono_datetime.specs.Time.{IsTime, TimeOfDay}
use Rattle.chrono_datetime.proofs.Signed.{casts}
use Rattle.chrono_instant.specs.Instants.{IsEpochSecond, LiesIn, epoch_second, second_of_minute}
use Rattle.chrono_instant.specs.Offsets.{IsShifted, moment_ahead}

-- the second of a day and that of all days have one place in their minute
pub second_of_minute-of_day : (s : ℤ) (n : ℕ) → int_rem_euclid s (pos 86_400) ≡ pos n → second_of_minute s ≡ n % 60
second_of_minute-of_day (pos m) n e = omega (arith, ints, e)
second_of_minute-of_day (negsuc m) n e = omega (arith, ints, e)

-- two date-times with one second and one fraction are one
pub one_moment : (a b : Moment) → IsTime a.time → IsTime b.time → epoch_second a ≡ epoch_second b → a.time.fraction ≡ b.time.fraction → a ≡ b
one_moment a b i j s f =
    let date : a.date ≡ b.date = omega (arith, ints, s, i.second, j.second) in
    let second : a.time.second ≡ b.time.second = omega (arith, ints, s, date) in
    let time : ℕ → ℕ → TimeOfDay = λ n m. record { second = n; fraction = m } in
    ap (λ n. moment n a.time) date ∙ ap (λ n. moment b.date (time n a.time.fraction)) second ∙ ap (λ n. moment b.date (time b.time.second n)) f

pub LiesIn-once : (s : ℤ) (nanos : ℕ) (a b : Moment) → LiesIn s nanos a → LiesIn s nanos b → a ≡ b
LiesIn-once s nanos a b h k = one_moment a b h.exists.time k.exists.time (h.second ∙ sym k.second) (h.past ∙ sym k.past)

pub IsShifted-back : (m e back : Moment) (x : ℤ) → IsMoment m → IsShifted m x e → IsShifted e (neg_ℤ x) back → back ≡ m
IsShifted-back m e back x i h k =
    one_moment back m k.exists.time i.time (omega (arith, ints, h.second, k.second)) (k.fraction ∙ h.fraction)

-- ---- clocks that are ahead

pub epoch_second-ahead : (m : Moment) (x : ℤ) → epoch_second (moment_ahead m x) ≡ (epoch_second m +ℤ x)
epoch_second-ahead m x = omega (arith, casts)

pub IsTime-ahead : (m : Moment) (x : ℤ) → IsTime m.time → IsTime (moment_ahead m x).time
IsTime-ahead m x i = record { second = omega (arith, casts); fraction = i.fraction }

pub IsShifted-ahead : (m e : Moment) (x : ℤ) → IsTime m.time → IsDate e.date → e ≡ moment_ahead m x → IsShifted m x e
IsShifted-ahead m e x i date same = record {
  second = ap epoch_second same ∙ epoch_second-ahead m x;
  fraction = ap (λ (a : Moment). a.time.fraction) same;
  exists = record { date = date; time = subst (λ (a : Moment). IsTime a.time) (sym same) (IsTime-ahead m x i) };
}

-- the clock that shows m shows it from any clock that it is ahead of
pub moment_ahead-back : (m e : Moment) (x : ℤ) → IsTime m.time → IsShifted m (neg_ℤ x) e → moment_ahead e x ≡ m
moment_ahead-back m e x i h =
    one_moment (moment_ahead e x) m (IsTime-ahead e x h.exists.time) i (epoch_second-ahead e x ∙ omega (arith, ints, h.second)) h.fraction

-- a date has seconds of dates alone, and a second of dates lies in a date
pub IsEpochSecond-moment : (m : Moment) → IsMoment m → IsEpochSecond (epoch_second m)
IsEpochSecond-moment m i = (omega (arith, ints, i.date.0, i.time.second), omega (arith, ints, i.date.1, i.time.second))

pub IsMoment-second : (m : Moment) → IsTime m.time → IsEpochSecond (epoch_second m) → IsMoment m
IsMoment-second m i h = record { date = (omega (arith, ints, h.0, i.second), omega (arith, ints, h.1, i.second)); time = i }

-- ---- the order of date-times is that of their seconds, and then of their fractions

abbrev pub IsBeforeBySecond : Moment → Moment → Type 0
IsBeforeBySecond a b = (epoch_second a <ℤ epoch_second b) ⊎ ((epoch_second a ≡ epoch_second b) × (a.time.fraction < b.time.fraction))

by_second : (a b : Moment) → IsMoment a → IsMoment b → IsBefore a b → IsBeforeBySecond a b
by_second a b i j (inl h) = inl (omega (arith, ints, h, i.time.second, j.time.second))
by_second a b i j (inr (d, inl h)) = inl (omega (arith, ints, d, h))
by_second a b i j (inr (d, inr h)) = inr (omega (arith, ints, d, h.0), h.1)

by_date : (a b : Moment) → IsMoment a → IsMoment b → IsBeforeBySecond a b → IsBefore a b
by_date a b i j (inl h) =
    by_lt_z a.date b.date (λ lt. inl lt)
    (λ ge.
    let same : a.date ≡ b.date = omega (arith, ints, h, ge, i.time.second, j.time.second) in
    inr (same, inl (omega (arith, ints, h, same))))
by_date a b i j (inr h) =
    let same : a.date ≡ b.date = omega (arith, ints, h.0, i.time.second, j.time.second) in
    inr (same, inr (omega (arith, ints, h.0, same), h.1))

pub IsBefore-by_second : (a b : Moment) → IsMoment a → IsMoment b → IsBefore a b ↔ IsBeforeBySecond a b
IsBefore-by_second a b i j = (by_second a b i j, by_date a b i j)
