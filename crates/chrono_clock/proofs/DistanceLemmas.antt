-- Lemmas on distances of times: the move back, and the order.
use Rattle.std.proofs.Common.{◌≡◌, ℕ, ◌+◌, ◌*◌, ◌/◌, ◌%◌, ◌<◌, ◌≤◌, ◌⊎◌, ⊎_elim, true, false, ℤ, pos, neg_ℤ, ◌+ℤ◌, ◌-ℤ◌, ◌*ℤ◌, ◌<ℤ◌, ◌≤ℤ◌, arith, refl, sym, ap, subst, ◌∙◌, unsigned_abs, nat_lt}
use Rattle.chrono_text.proofs.DigitLemmas.{by_size}
use Rattle.chrono_clock.specs.Duration.{nanos_per_day, units_of}
use Rattle.chrono_clock.specs.Time.{TimeOfDay, Landing, IsTime, IsLeap, IsPlain, IsEarlier, landing_of, later, place, place_beside, plain_landing, leap_landing, land, distance}
use Rattle.chrono_text.proofs.Signed.{signed}
use Rattle.chrono_clock.proofs.TimeLemmas.{by_leap, by_parts, is_leap-plain, is_leap-leap, land-plain, land-leap, leap_landing-before, leap_landing-inside, leap_landing-past}
use Rattle.chrono_clock.proofs.LandingLemmas.{IsPlain-plain_landing, place-plain_landing, plain_landing-shift}

-- ---- places beside another time

-- a plain time lengthens no other, and a leap one those of later seconds alone
beside-plain : (t other : TimeOfDay) → IsPlain other → place_beside t other ≡ place t
beside-plain t other h = let e = is_leap-plain other h in rw e (omega arith)

beside-leap_before : (t other : TimeOfDay) → IsLeap other → other.second < t.second → place_beside t other ≡ place t + 1_000_000_000
beside-leap_before t other h k =
    let e = is_leap-leap other h in
    let f : nat_lt other.second t.second ≡ true = grind arith in
    rw (e, f) refl

beside-not_before : (t other : TimeOfDay) → t.second ≤ other.second → place_beside t other ≡ place t
beside-not_before t other h = let f : nat_lt other.second t.second ≡ false = grind arith in grind arith

-- ---- the move back

plain_landing-place : (t : TimeOfDay) → t.second < 86_400 → IsPlain t → plain_landing (pos (place t)) ≡ landing_of t
plain_landing-place t h k =
    let of_parts : ℕ → ℕ → ℕ → Landing = λ d s f. record { day = pos d; time = record { second = s; fraction = f } } in
    let d : place t / 86_400_000_000_000 ≡ 0 = omega arith in
    let s : place t % 86_400_000_000_000 / 1_000_000_000 ≡ t.second = omega arith in
    let f : place t % 86_400_000_000_000 % 1_000_000_000 ≡ t.fraction = omega arith in
    ap (λ x. of_parts x (place t % 86_400_000_000_000 / 1_000_000_000) (place t % 86_400_000_000_000 % 1_000_000_000)) d
    ∙ ap (λ x. of_parts 0 x (place t % 86_400_000_000_000 % 1_000_000_000)) s
    ∙ ap (of_parts 0 t.second) f

-- the point that a move by a distance reaches
point_reached : (b : TimeOfDay) (m n k : ℕ) → k + n ≡ m + place b → pos (place b) +ℤ (pos m -ℤ pos n) ≡ pos k
point_reached b m n k e = omega (arith, signed)

-- back to a plain time
land-distance_plain : (a b : TimeOfDay) → IsTime a → IsTime b → IsPlain a → land b (distance a b) ≡ landing_of a
unfolding distance
land-distance_plain a b i j h =
    let home = plain_landing-place a i.second h in
    let back = beside-plain b a h in
    by_leap b
    (λ f.
    let p : pos (place b) +ℤ distance a b ≡ pos (place a) = point_reached b (place_beside a b) (place_beside b a) (place a) (omega (arith, back, beside-plain a b f)) in
    land-plain b (distance a b) f ∙ ap plain_landing p ∙ home)
    (λ f. by_size a.second b.second
    (λ g.
    let p : pos (place b) +ℤ distance a b ≡ pos (place a + 1_000_000_000) = point_reached b (place_beside a b) (place_beside b a) (place a + 1_000_000_000) (omega (arith, back, beside-leap_before a b f g)) in
    let high : pos ((b.second + 2) * 1_000_000_000) ≤ℤ pos (place a + 1_000_000_000) = omega (arith, signed) in
    let q : pos (place a + 1_000_000_000) -ℤ pos 1_000_000_000 ≡ pos (place a) = omega (arith, signed) in
    land-leap b (distance a b) f ∙ ap (leap_landing b.second) p ∙ leap_landing-past b.second (pos (place a + 1_000_000_000)) high ∙ ap plain_landing q ∙ home)
    (λ g.
    let p : pos (place b) +ℤ distance a b ≡ pos (place a) = point_reached b (place_beside a b) (place_beside b a) (place a) (omega (arith, back, beside-not_before a b g)) in
    let low : pos (place a) <ℤ pos ((b.second + 1) * 1_000_000_000) = omega (arith, signed) in
    land-leap b (distance a b) f ∙ ap (leap_landing b.second) p ∙ leap_landing-before b.second (pos (place a)) low ∙ home))

-- back to a leap time from another of the same second
land-distance_leap : (a b : TimeOfDay) → IsTime a → IsTime b → IsLeap a → IsLeap b → a.second ≡ b.second → land b (distance a b) ≡ landing_of a
unfolding distance
land-distance_leap a b i j e f s =
    let p : pos (place b) +ℤ distance a b ≡ pos (place a) = point_reached b (place_beside a b) (place_beside b a) (place a) (omega (arith, beside-not_before a b, beside-not_before b a)) in
    let low : pos ((b.second + 1) * 1_000_000_000) ≤ℤ pos (place a) = omega (arith, signed) in
    let high : pos (place a) <ℤ pos ((b.second + 2) * 1_000_000_000) = omega (arith, signed, i.fraction) in
    let of_parts : ℕ → ℕ → Landing = λ s f. record { day = pos 0; time = record { second = s; fraction = f } } in
    let g : unsigned_abs (pos (place a) -ℤ pos (b.second * 1_000_000_000)) ≡ a.fraction = omega (arith, signed) in
    land-leap b (distance a b) f ∙ ap (leap_landing b.second) p ∙ leap_landing-inside b.second (pos (place a)) low high ∙ ap (of_parts b.second) g ∙ ap (λ t. of_parts t a.fraction) (sym s)

-- a move from b by the distance of a ends at a, if a is plain or both are in one leap second
pub land-distance : (a b : TimeOfDay) → IsTime a → IsTime b → IsPlain a ⊎ (IsLeap a × IsLeap b × (a.second ≡ b.second)) → land b (distance a b) ≡ landing_of a
land-distance a b i j w = ⊎_elim (land-distance_plain a b i j) (λ l. land-distance_leap a b i j l.0 l.1 l.2) w

-- the same over whole days, where neither time is leap
pub land-distance_days : (a b : TimeOfDay) (k : ℤ) → IsTime a → IsTime b → IsPlain a → IsPlain b → land b (k *ℤ pos 86_400_000_000_000 +ℤ distance a b) ≡ later k (landing_of a)
unfolding distance
land-distance_days a b k i j e f =
    let home = plain_landing-place a i.second e in
    let p : pos (place b) +ℤ distance a b ≡ pos (place a) = point_reached b (place_beside a b) (place_beside b a) (place a) (omega (arith, beside-plain b a e, beside-plain a b f)) in
    let q : pos (place b) +ℤ (k *ℤ pos 86_400_000_000_000 +ℤ distance a b) ≡ pos (place a) +ℤ k *ℤ pos 86_400_000_000_000 = along_sum (place b) (place a) (distance a b) (k *ℤ pos 86_400_000_000_000) p in
    land-plain b (k *ℤ pos 86_400_000_000_000 +ℤ distance a b) f ∙ ap plain_landing q ∙ plain_landing-shift (pos (place a)) k ∙ ap (later k) home
  where
    along_sum : (m n : ℕ) (d x : ℤ) → pos m +ℤ d ≡ pos n → pos m +ℤ (x +ℤ d) ≡ pos n +ℤ x
    along_sum m n d x h = omega (arith, signed)

-- ---- the sign of a distance is the order of the times

pub distance-later : (a b : TimeOfDay) → IsTime a → IsTime b → IsEarlier b a → pos 0 <ℤ distance a b
unfolding distance
distance-later a b i j h =
    ⊎_elim
    (λ k. by_leap b
    (λ f. omega (arith, signed, beside-plain a b f, beside-not_before b a))
    (λ f. omega (arith, signed, beside-leap_before a b f k, beside-not_before b a, j.fraction)))
    (λ k. omega (arith, signed, beside-not_before a b, beside-not_before b a))
    h

pub distance-earlier : (a b : TimeOfDay) → IsTime a → IsTime b → IsEarlier a b → distance a b <ℤ pos 0
unfolding distance
distance-earlier a b i j h =
    ⊎_elim
    (λ k. by_leap a
    (λ f. omega (arith, signed, beside-plain b a f, beside-not_before a b))
    (λ f. omega (arith, signed, beside-leap_before b a f k, beside-not_before a b, i.fraction)))
    (λ k. omega (arith, signed, beside-not_before a b, beside-not_before b a))
    h

pub distance-same : (a b : TimeOfDay) → a ≡ b → distance a b ≡ pos 0
unfolding distance
distance-same a b e =
    let zero_apart : (n : ℕ) → pos n -ℤ pos n ≡ pos 0 = λ n. omega (arith, signed) in
    ap (distance a) (sym e) ∙ zero_apart (place_beside a a)

-- ---- how far a landing is from its start

abbrev IsMoveAway : TimeOfDay → ℤ → Landing → Type 0
IsMoveAway t x l = units_of nanos_per_day l.day +ℤ distance l.time t ≡ x

-- from the places of both, where the line of the move holds k nanoseconds that the day lacks
move_of_places : (d x q : ℤ) (k m n p r : ℕ) → pos r +ℤ d *ℤ pos 86_400_000_000_000 ≡ q → q +ℤ pos k ≡ pos p +ℤ x → m + p ≡ n + r + k → d *ℤ pos 86_400_000_000_000 +ℤ (pos m -ℤ pos n) ≡ x
move_of_places d x q k m n p r e f g = omega (arith, signed)

-- a landing on the plain line, which lies k nanoseconds further as seen from its start
plain_away : (t : TimeOfDay) (x q : ℤ) (k : ℕ) → q +ℤ pos k ≡ pos (place t) +ℤ x → place_beside (plain_landing q).time t ≡ place (plain_landing q).time + k → IsMoveAway t x (plain_landing q)
unfolding distance
plain_away t x q k e f =
    let u = (plain_landing q).time in
    move_of_places (plain_landing q).day x q k (place_beside u t) (place_beside t u) (place t) (place u)
    (place-plain_landing q) e (omega (arith, f, beside-plain t u (IsPlain-plain_landing q)))

land-away_plain : (t : TimeOfDay) (x : ℤ) → IsPlain t → IsMoveAway t x (land t x)
land-away_plain t x h =
    let q = pos (place t) +ℤ x in
    let u = (plain_landing q).time in
    subst (IsMoveAway t x) (sym (land-plain t x h)) (plain_away t x q 0 (omega (arith, signed)) (omega (arith, beside-plain u t h)))

-- a landing in the leap second of its start
inside_away : (t : TimeOfDay) (x : ℤ) → IsLeap t → pos ((t.second + 1) * 1_000_000_000) ≤ℤ (pos (place t) +ℤ x)
    → IsMoveAway t x (record { day = pos 0; time = record { second = t.second; fraction = unsigned_abs ((pos (place t) +ℤ x) -ℤ pos (t.second * 1_000_000_000)) } })
unfolding distance
inside_away t x h low =
    let f = unsigned_abs ((pos (place t) +ℤ x) -ℤ pos (t.second * 1_000_000_000)) in
    let u : TimeOfDay = record { second = t.second; fraction = f } in
    let reached : pos (place u) +ℤ pos 0 *ℤ pos 86_400_000_000_000 ≡ pos (place t) +ℤ x = omega (arith, signed) in
    move_of_places (pos 0) x (pos (place t) +ℤ x) 0 (place_beside u t) (place_beside t u) (place t) (place u)
    reached (omega (arith, signed)) (omega (arith, beside-not_before u t (omega arith), beside-not_before t u (omega arith)))

-- from a leap start, on the start's own day
land-away_leap : (t : TimeOfDay) (x : ℤ) → IsLeap t → (land t x).day ≡ pos 0 → IsMoveAway t x (land t x)
land-away_leap t x h =
    let p = pos (place t) +ℤ x in
    let P : Landing → Type 0 = λ l. l.day ≡ pos 0 → IsMoveAway t x l in
    subst P (sym (land-leap t x h))
    (by_parts p t.second
    (λ before. subst P (sym (leap_landing-before t.second p before))
    (λ same_day.
    let u = (plain_landing p).time in
    let not_later : u.second ≤ t.second = omega (arith, signed, place-plain_landing p) in
    plain_away t x p 0 (omega (arith, signed)) (omega (arith, beside-not_before u t not_later))))
    (λ low high. subst P (sym (leap_landing-inside t.second p low high)) (λ same_day. inside_away t x h low))
    (λ past. subst P (sym (leap_landing-past t.second p past))
    (λ same_day.
    let q = p -ℤ pos 1_000_000_000 in
    let u = (plain_landing q).time in
    let later_second : t.second < u.second = omega (arith, signed, place-plain_landing q) in
    plain_away t x q 1_000_000_000 (omega (arith, signed)) (beside-leap_before u t h later_second))))

-- a landing is as far from its start as the move was long, from a plain start or on the start's own day
pub land-away : (t : TimeOfDay) (x : ℤ) → IsPlain t ⊎ ((land t x).day ≡ pos 0) → units_of nanos_per_day (land t x).day +ℤ distance (land t x).time t ≡ x
land-away t x way =
    ⊎_elim (land-away_plain t x) (λ same_day. by_leap t (land-away_plain t x) (λ leap. land-away_leap t x leap same_day)) way

-- the other way round a distance has the other sign
pub distance-turned : (a b : TimeOfDay) → distance a b ≡ neg_ℤ (distance b a)
unfolding distance
distance-turned a b = omega (arith, signed)

-- of two plain times it is the difference of their places
pub distance-plain : (a b : TimeOfDay) → IsPlain a → IsPlain b → distance a b ≡ pos (place a) -ℤ pos (place b)
unfolding distance
distance-plain a b h k = omega (arith, signed, beside-plain a b k, beside-plain b a h)
