-- Moves of date-times, from those of times of day.
use Rattle.std.proofs.Common.{◌≡◌, ◌⊎◌, inl, inr, ⊎_elim, ℤ, pos, ◌+ℤ◌, ◌<ℤ◌, Bool, true, false, cond, Option, Some, None, arith, refl, sym, ap, ◌∙◌, subst, ◌↔◌, IfSome, IsSome}
use Rattle.std.proofs.lemmas.Int.{by_lt_z, ints}
use Rattle.std.specs.Option.{option_map}
use Rattle.chrono_clock.specs.Time.{TimeOfDay, Landing, IsTime, IsPlain, IsEarlier, IsEarlierLanding, landing_of, land, later}
use Rattle.chrono_clock.proofs.TimeLemmas.{by_leap}
use Rattle.chrono_clock.proofs.LandingLemmas.{IsPlain-land, TimeMovesAddUp-land}
use Rattle.chrono_clock.proofs.OrderLemmas.{land-forward, land-backward}
use Rattle.chrono_clock.proofs.DistanceLemmas.{land-distance, distance-same}
use Rattle.chrono_clock.proofs.MomentLemmas.{moment_distance-moved}
use Rattle.chrono_naive.specs.Days.{IsDate, date_of_day, is_date}
use Rattle.chrono_naive.proofs.NamedDates.{date_of_day-Some, date_of_day-number}
use Rattle.chrono_datetime.specs.Moment.{Moment, moment, moment_on, moved, moment_distance, reach, IsBefore, MovesAddUp}

-- the date-time at which a landing from the date n ends, if its day is a date
abbrev pub moment_of_landing : ℤ → Landing → Option Moment
moment_of_landing n l = moment_on (date_of_day (n +ℤ l.day)) l.time

-- what was found is the date of the number, at the time
option_map-cond : (b : Bool) (n : ℤ) (t : TimeOfDay) (e : Moment) → Some e ≡ option_map (λ d. moment d t) (cond b (Some n) None) → e ≡ moment n t
option_map-cond true n t e h = cc
option_map-cond false n t e h = absurd cc

pub reach-Some : (m e : Moment) (x : ℤ) → Some e ≡ reach m x → e ≡ moment (m.date +ℤ (land m.time x).day) (land m.time x).time
unfolding reach date_of_day
reach-Some m e x h = option_map-cond (is_date (m.date +ℤ (land m.time x).day)) _ _ e h

-- a landing so many days later, from a date as many days earlier
moment_of_landing-later : (n d : ℤ) (l : Landing) → moment_of_landing n (later d l) ≡ moment_of_landing (n +ℤ d) l
moment_of_landing-later n d l =
    let e : n +ℤ (d +ℤ l.day) ≡ (n +ℤ d) +ℤ l.day = omega (arith, ints) in
    ap (λ k. option_map (λ j. moment j l.time) (date_of_day k)) e

-- what was found is so for a number that is a date's
IsDate-option_map : (o : Option ℤ) (n : ℤ) (t : TimeOfDay) (e : Moment) → o ≡ date_of_day n → Some e ≡ option_map (λ d. moment d t) o → IsDate n
IsDate-option_map None n t e h k = absurd cc
IsDate-option_map (Some d) n t e h k = let found = date_of_day-number d n (sym h) in rw found.1 found.0

-- so there is an end exactly if its day is a date
pub reach-exists : (o : Option Moment) (m : Moment) (x : ℤ) → o ≡ reach m x → IsSome o ↔ IsDate (moved m x).date
unfolding reach
reach-exists None m x h = ((λ e. cc), (λ date. absurd (let found = date_of_day-Some (moved m x).date date in cc)))
reach-exists (Some e) m x h = ((λ _. IsDate-option_map (date_of_day (moved m x).date) (moved m x).date (moved m x).time e refl h), (λ _. refl))

pub MovesAddUp-reach : (m e : Moment) (x : ℤ) → IsTime m.time → Some e ≡ reach m x → MovesAddUp m x e
unfolding reach
MovesAddUp-reach m e x i h = λ y in_range way.
    let l = land m.time x in
    ap (λ k. moment_of_landing k.date (land k.time y)) (reach-Some m e x h)
    ∙ sym (moment_of_landing-later m.date l.day (land l.time y))
    ∙ ap (moment_of_landing m.date) (sym (TimeMovesAddUp-land m.time x y i way))

-- order of date-times is no loop
IsEarlier-not_back : (s t : TimeOfDay) → IsEarlier s t → IsEarlier t s → ⊥
IsEarlier-not_back s t h k = ⊎_elim (λ a. ⊎_elim (λ b. omega (arith, a, b)) (λ b. omega (arith, a, b.0)) k) (λ a. ⊎_elim (λ b. omega (arith, a.0, b)) (λ b. omega (arith, a.1, b.1)) k) h

pub IsBefore-not_back : (a b : Moment) → IsBefore a b → IsBefore b a → ⊥
IsBefore-not_back a b h k =
    ⊎_elim (λ p. ⊎_elim (λ q. omega (arith, ints, p, q)) (λ q. omega (arith, ints, p, q.0)) k)
    (λ p. ⊎_elim (λ q. omega (arith, ints, p.0, q)) (λ q. IsEarlier-not_back a.time b.time p.1 q.1) k) h

pub IsBefore-not_same : (a b : Moment) → a ≡ b → IsBefore a b → ⊥
IsBefore-not_same a b e h = let P : Moment → Type 0 = λ c. IsBefore c b in IsBefore-not_back b b (subst P e h) (subst P e h)

-- a move by nothing stands still
land-zero : (t : TimeOfDay) → IsTime t → land t (pos 0) ≡ landing_of t
land-zero t i =
    let at_zero = sym (ap (land t) (distance-same t t refl)) in
    by_leap t (λ plain. at_zero ∙ land-distance t t i i (inl plain)) (λ leap. at_zero ∙ land-distance t t i i (inr (leap, leap, refl)))

-- landings in order are date-times in order
IsBefore-landing : (m : Moment) (l : Landing) → IsEarlierLanding (landing_of m.time) l → IsBefore m (moment (m.date +ℤ l.day) l.time)
IsBefore-landing m l h = ⊎_elim (λ d. inl (omega (arith, ints, d))) (λ p. inr (omega (arith, ints, p.0), p.1)) h

IsBefore-landing_back : (m : Moment) (l : Landing) → IsEarlierLanding l (landing_of m.time) → IsBefore (moment (m.date +ℤ l.day) l.time) m
IsBefore-landing_back m l h = ⊎_elim (λ d. inl (omega (arith, ints, d))) (λ p. inr (omega (arith, ints, p.0), p.1)) h

reach-forward : (m e : Moment) (x : ℤ) → IsTime m.time → Some e ≡ reach m x → pos 0 <ℤ x → IsBefore m e
reach-forward m e x i h up =
    let P : Moment → Type 0 = IsBefore m in subst P (sym (reach-Some m e x h)) (IsBefore-landing m (land m.time x) (land-forward m.time x i up))

reach-backward : (m e : Moment) (x : ℤ) → IsTime m.time → Some e ≡ reach m x → x <ℤ pos 0 → IsBefore e m
reach-backward m e x i h down =
    let P : Moment → Type 0 = λ k. IsBefore k m in subst P (sym (reach-Some m e x h)) (IsBefore-landing_back m (land m.time x) (land-backward m.time x i down))

reach-still : (m e : Moment) (x : ℤ) → IsTime m.time → Some e ≡ reach m x → x ≡ pos 0 → e ≡ m
reach-still m e x i h zero =
    let still = ap (land m.time) zero ∙ land-zero m.time i in
    let same : m.date +ℤ pos 0 ≡ m.date = omega (arith, ints) in
    reach-Some m e x h ∙ ap (λ (l : Landing). moment (m.date +ℤ l.day) l.time) still ∙ ap (λ n. moment n m.time) same

-- the end is later exactly for a positive duration, and earlier exactly for a negative one
pub reach-later : (m e : Moment) (x : ℤ) → IsTime m.time → Some e ≡ reach m x → (pos 0 <ℤ x) ↔ IsBefore m e
reach-later m e x i h = (
  reach-forward m e x i h,
  λ later. by_lt_z (pos 0) x (λ up. up)
      (λ le. by_lt_z x (pos 0) (λ down. absurd (IsBefore-not_back m e later (reach-backward m e x i h down)))
      (λ ge. absurd (IsBefore-not_same m e (sym (reach-still m e x i h (omega (arith, ints, le, ge)))) later))),
)

pub reach-earlier : (m e : Moment) (x : ℤ) → IsTime m.time → Some e ≡ reach m x → (x <ℤ pos 0) ↔ IsBefore e m
reach-earlier m e x i h = (
  reach-backward m e x i h,
  λ earlier. by_lt_z x (pos 0) (λ down. down)
      (λ le. by_lt_z (pos 0) x (λ up. absurd (IsBefore-not_back m e (reach-forward m e x i h up) earlier))
      (λ ge. absurd (IsBefore-not_same e m (reach-still m e x i h (omega (arith, ints, le, ge))) earlier))),
)

-- the three laws of a move, whatever it answers
pub IfSome-reach : (o : Option Moment) (m : Moment) (x : ℤ) → IsTime m.time → o ≡ reach m x → IfSome o (MovesAddUp m x) × IfSome o (λ e. (pos 0 <ℤ x) ↔ IsBefore m e) × IfSome o (λ e. (x <ℤ pos 0) ↔ IsBefore e m)
IfSome-reach None m x i h = (tt, tt, tt)
IfSome-reach (Some e) m x i h = (MovesAddUp-reach m e x i h, reach-later m e x i h, reach-earlier m e x i h)

-- and what is known of its end: where it lies, whether it is plain, and how far it is from the start
pub IfSome-moved : (o : Option Moment) (m : Moment) (x : ℤ) → o ≡ reach m x
    → IfSome o (λ e. e ≡ moved m x) × (IsPlain m.time → IfSome o (λ e. IsPlain e.time)) × IfSome o (λ e. IsPlain m.time ⊎ (e.date ≡ m.date) → moment_distance e m ≡ x)
IfSome-moved None m x h = (tt, λ _. tt, tt)
IfSome-moved (Some e) m x h =
    let end = reach-Some m e x h in (
      end,
      λ plain. subst (λ (k : Moment). IsPlain k.time) (sym end) (IsPlain-land m.time x plain),
      subst (λ (k : Moment). IsPlain m.time ⊎ (k.date ≡ m.date) → moment_distance k m ≡ x) (sym end) (moment_distance-moved m x),
    )

-- what is reached, from a start that is known by another name
pub reach-along : (o : Option Moment) (m k : Moment) (x : ℤ) → m ≡ k → IsTime m.time → o ≡ reach m x → IsTime k.time × (o ≡ reach k x)
reach-along o m k x e i h = let P : Moment → Type 0 = λ j. IsTime j.time × (o ≡ reach j x) in subst P e (i, h)
