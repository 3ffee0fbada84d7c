-- Differences of date-times, from those of times of day.
use Rattle.std.proofs.Common.{◌≡◌, ◌⊎◌, inl, inr, ⊎_elim, ◌↔◌, ℕ, ℤ, pos, neg_ℤ, ◌+ℤ◌, ◌-ℤ◌, ◌<ℤ◌, Option, Some, None, IfSome, arith, sym, ap, ◌∙◌}
use Rattle.std.proofs.lemmas.Bool.{cases_order}
use Rattle.std.proofs.lemmas.Int.{by_lt_z, ints}
use Rattle.std.specs.Option.{option_map}
use Rattle.chrono_clock.specs.Time.{TimeOfDay, IsTime, IsPlain, IsEarlier, landing_of, land, later, distance}
use Rattle.chrono_clock.proofs.DistanceLemmas.{land-distance, land-distance_days, distance-later, distance-earlier, distance-same, distance-plain}
use Rattle.chrono_clock.proofs.MomentLemmas.{moment_distance-turned}
use Rattle.chrono_naive.specs.Days.{IsDate, date_of_day}
use Rattle.chrono_naive.proofs.NamedDates.{date_of_day-Some}
use Rattle.chrono_datetime.specs.Moment.{Moment, moment, reach, moment_distance, IsBefore, LeadsBack, SignTellsOrder}
use Rattle.chrono_datetime.proofs.ReachLemmas.{moment_of_landing}

-- from b on, a landing whose day is that of a
reach-at : (a b : Moment) (x day : ℤ) → IsDate a.date → land b.time x ≡ later day (landing_of a.time) → b.date +ℤ (day +ℤ pos 0) ≡ a.date → reach b x ≡ Some a
unfolding reach
reach-at a b x day i e f =
    ap (moment_of_landing b.date) e ∙ ap (λ n. option_map (λ d. moment d a.time) (date_of_day n)) f ∙ ap (option_map (λ d. moment d a.time)) (date_of_day-Some a.date i)

-- of one date the distance is that of the times
moment_distance-one_date : (a b : Moment) → a.date ≡ b.date → moment_distance a b ≡ distance a.time b.time
unfolding moment_distance
moment_distance-one_date a b e = omega (arith, ints, e)

pub reach-moment_distance : (a b : Moment) → IsDate a.date → IsTime a.time → IsTime b.time → LeadsBack a b → reach b (moment_distance a b) ≡ Some a
unfolding moment_distance
reach-moment_distance a b d i j way =
    ⊎_elim (λ plain. reach-at a b _ (a.date -ℤ b.date) d (land-distance_days a.time b.time (a.date -ℤ b.date) i j plain.0 plain.1) (omega (arith, ints)))
    (λ one. ap (reach b) (moment_distance-one_date a b one.0) ∙ reach-at a b _ (pos 0) d (land-distance a.time b.time i j one.1) (omega (arith, ints, one.0)))
    way

-- a move back by x ends where x leads to the start again
pub IfSome-turned : (o : Option Moment) (m : Moment) (x : ℤ) → IfSome o (λ e. IsPlain m.time ⊎ (e.date ≡ m.date) → moment_distance e m ≡ neg_ℤ x) → IfSome o (λ e. IsPlain m.time ⊎ (e.date ≡ m.date) → moment_distance m e ≡ x)
IfSome-turned None m x h = tt
IfSome-turned (Some e) m x h = λ way. omega (arith, ints, moment_distance-turned m e, h way)

-- ---- the sign of a distance is the order

-- what a clear order of two date-times says of the distances both ways
abbrev Outdistances : Moment → Moment → Type 0
Outdistances a b = (moment_distance a b <ℤ pos 0) × (pos 0 <ℤ moment_distance b a)

-- dates apart outweigh the times, where no time is leap
Outdistances-dates : (a b : Moment) → IsTime a.time → IsTime b.time → IsPlain a.time → IsPlain b.time → a.date <ℤ b.date → Outdistances a b
unfolding moment_distance
Outdistances-dates a b i j p q h =
    let there = distance-plain a.time b.time p q in
    let back = distance-plain b.time a.time q p in
    (omega (arith, ints, h, i.second, j.second, there), omega (arith, ints, h, i.second, j.second, back))

-- and on one date the times decide
Outdistances-times : (a b : Moment) → IsTime a.time → IsTime b.time → a.date ≡ b.date → IsEarlier a.time b.time → Outdistances a b
Outdistances-times a b i j e h =
    let there = distance-earlier a.time b.time i j h in
    let back = distance-later b.time a.time j i h in
    (omega (arith, ints, moment_distance-one_date a b e, there), omega (arith, ints, moment_distance-one_date b a (sym e), back))

Outdistances-IsBefore : (a b : Moment) → IsTime a.time → IsTime b.time → SignTellsOrder a b → IsBefore a b → Outdistances a b
Outdistances-IsBefore a b i j (inl e) (inl h) = absurd (omega (arith, ints, e, h))
Outdistances-IsBefore a b i j (inr p) (inl h) = Outdistances-dates a b i j p.0 p.1 h
Outdistances-IsBefore a b i j way (inr h) = Outdistances-times a b i j h.0 h.1

moment_distance-same : (a b : Moment) → a ≡ b → moment_distance a b ≡ pos 0
unfolding moment_distance
moment_distance-same a b e =
    let dates : a.date ≡ b.date = ap (λ (m : Moment). m.date) e in
    let times : a.time ≡ b.time = ap (λ (m : Moment). m.time) e in
    omega (arith, ints, dates, distance-same a.time b.time times)

-- of two times, and of two date-times, one comes first, or they are one
IsEarlier-total : (s t : TimeOfDay) → (s ≡ t) ⊎ (IsEarlier s t ⊎ IsEarlier t s)
IsEarlier-total s t =
    let made : ℕ → ℕ → TimeOfDay = λ second fraction. record { second = second; fraction = fraction } in
    let in_second = λ (e : s.second ≡ t.second). ⊎_elim (λ f. inl (ap (λ n. made n s.fraction) e ∙ ap (made t.second) f))
    (⊎_elim (λ lt. inr (inl (inr (e, lt)))) (λ gt. inr (inr (inr (sym e, gt))))) (cases_order s.fraction t.fraction) in
    ⊎_elim in_second (⊎_elim (λ lt. inr (inl (inl lt))) (λ gt. inr (inr (inl gt)))) (cases_order s.second t.second)

IsBefore-total : (a b : Moment) → (a ≡ b) ⊎ (IsBefore a b ⊎ IsBefore b a)
IsBefore-total a b =
    by_lt_z a.date b.date (λ lt. inr (inl (inl lt)))
    (λ ge. by_lt_z b.date a.date (λ lt. inr (inr (inl lt)))
    (λ le.
    let one : a.date ≡ b.date = omega (arith, ints, ge, le) in
    ⊎_elim (λ f. inl (ap (λ n. moment n a.time) one ∙ ap (moment b.date) f)) (⊎_elim (λ h. inr (inl (inr (one, h)))) (λ h. inr (inr (inr (sym one, h))))) (IsEarlier-total a.time b.time)))

-- where one of three cases holds, and each has its sign, the sign tells the case
sign_of_case : (z : ℤ) (Same Down Up : Type 0) → Same ⊎ (Down ⊎ Up) → (Same → z ≡ pos 0) → (Down → z <ℤ pos 0) → (Up → pos 0 <ℤ z) → ((pos 0 <ℤ z) ↔ Up) × ((z ≡ pos 0) ↔ Same) × ((z <ℤ pos 0) ↔ Down)
sign_of_case z Same Down Up (inl s) same down up =
    let e = same s in ((λ h. absurd (omega (arith, ints, e, h)), up), (λ _. s, same), (λ h. absurd (omega (arith, ints, e, h)), down))
sign_of_case z Same Down Up (inr (inl d)) same down up =
    let lt = down d in ((λ h. absurd (omega (arith, ints, lt, h)), up), (λ h. absurd (omega (arith, ints, lt, h)), same), (λ _. d, down))
sign_of_case z Same Down Up (inr (inr u)) same down up =
    let gt = up u in ((λ _. u, up), (λ h. absurd (omega (arith, ints, gt, h)), same), (λ h. absurd (omega (arith, ints, gt, h)), down))

pub moment_distance-sign : (a b : Moment) → IsTime a.time → IsTime b.time → SignTellsOrder a b → ((pos 0 <ℤ moment_distance a b) ↔ IsBefore b a) × ((moment_distance a b ≡ pos 0) ↔ (a ≡ b)) × ((moment_distance a b <ℤ pos 0) ↔ IsBefore a b)
moment_distance-sign a b i j way =
    let other_way : SignTellsOrder b a = ⊎_elim (λ e. inl (sym e)) (λ p. inr (p.1, p.0)) way in
    sign_of_case (moment_distance a b) (a ≡ b) (IsBefore a b) (IsBefore b a) (IsBefore-total a b)
    (moment_distance-same a b)
    (λ h. (Outdistances-IsBefore a b i j way h).0)
    (λ h. (Outdistances-IsBefore b a j i other_way h).1)
