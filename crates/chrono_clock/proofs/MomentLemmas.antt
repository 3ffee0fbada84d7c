-- Lemmas on a day with a time of day, from those on times.
use Rattle.std.proofs.Common.{◌≡◌, ◌⊎◌, inl, inr, ⊎_elim, ℤ, pos, neg_ℤ, ◌+ℤ◌, ◌-ℤ◌, Option, arith, ap, ◌∙◌}
use Rattle.chrono_clock.specs.Duration.{nanos_per_day, units_of}
use Rattle.chrono_clock.specs.Time.{TimeOfDay, IsPlain, distance, land}
use Rattle.chrono_clock.specs.Moment.{Moment, moment, moment_on, moved, moment_distance, reach_by}
use Rattle.chrono_text.proofs.Signed.{signed}
use Rattle.chrono_clock.proofs.DistanceLemmas.{distance-turned, land-away}

-- the clock answers a time and the days that are passed, and the date moves by these
pub reach_by-parts : (date_of : ℤ → Option ℤ) (found : Option ℤ) (m : Moment) (x days : ℤ) (t : TimeOfDay) → t ≡ (land m.time x).time → days ≡ (land m.time x).day → found ≡ date_of (m.date +ℤ days)
    → moment_on found t ≡ reach_by date_of m x
reach_by-parts date_of found m x days t e f h =
    let landed = land m.time x in
    ap (moment_on found) e ∙ ap (λ o. moment_on o landed.time) (h ∙ ap (λ day. date_of (m.date +ℤ day)) f)

-- the days between the dates, and how far the times are apart
pub moment_distance-parts : (n k d x r : ℤ) (t u : TimeOfDay) → d ≡ units_of nanos_per_day (n -ℤ k) → x ≡ distance t u → r ≡ d +ℤ x
    → r ≡ moment_distance (moment n t) (moment k u)
unfolding moment_distance
moment_distance-parts n k d x r t u days times sum =
    sum ∙ ap (λ y. y +ℤ x) days ∙ ap (λ y. units_of nanos_per_day (n -ℤ k) +ℤ y) times

-- what a move reaches is as far from its start as the move was long, from a plain start or on the start's own date
pub moment_distance-moved : (m : Moment) (x : ℤ) → IsPlain m.time ⊎ ((moved m x).date ≡ m.date) → moment_distance (moved m x) m ≡ x
unfolding moment_distance
moment_distance-moved m x way =
    let same_day : m.date +ℤ (land m.time x).day ≡ m.date → (land m.time x).day ≡ pos 0 = λ e. omega (arith, signed, e) in
    let away = land-away m.time x (⊎_elim inl (λ e. inr (same_day e)) way) in
    omega (arith, signed, away)

-- the other way round a distance has the other sign
pub moment_distance-turned : (a b : Moment) → moment_distance a b ≡ neg_ℤ (moment_distance b a)
unfolding moment_distance
moment_distance-turned a b = omega (arith, signed, distance-turned a.time b.time)
