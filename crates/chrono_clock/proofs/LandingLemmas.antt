-- Lemmas on landings: moves in a row.
use Rattle.std.proofs.Common.{◌≡◌, ℕ, ◌+◌, ◌*◌, ◌/◌, ◌%◌, ◌⊎◌, ⊎_elim, ℤ, pos, ◌+ℤ◌, ◌-ℤ◌, ◌*ℤ◌, ◌<ℤ◌, ◌≤ℤ◌, arith, sym, ap, ◌∙◌, unsigned_abs}
use Rattle.std.specs.Int.{int_div_euclid, int_rem_euclid}
use Rattle.chrono_clock.specs.Time.{TimeOfDay, Landing, IsTime, IsLeap, IsPlain, SameWay, TimeMovesAddUp, place, plain_landing, leap_landing, land, later}
use Rattle.chrono_text.proofs.Signed.{signed}
use Rattle.chrono_clock.proofs.TimeLemmas.{by_leap, by_parts, land-plain, land-leap, leap_landing-before, leap_landing-inside, leap_landing-past}

-- ---- the plain line

abbrev time_of_rest : ℕ → TimeOfDay
time_of_rest rest = record { second = rest / 1_000_000_000; fraction = rest % 1_000_000_000 }

div-shift : (q k : ℤ) → int_div_euclid (q +ℤ k *ℤ pos 86_400_000_000_000) (pos 86_400_000_000_000) ≡ k +ℤ int_div_euclid q (pos 86_400_000_000_000)
div-shift q k = omega (arith, signed)

rem-shift : (q k : ℤ) → int_rem_euclid (q +ℤ k *ℤ pos 86_400_000_000_000) (pos 86_400_000_000_000) ≡ int_rem_euclid q (pos 86_400_000_000_000)
rem-shift q k = omega (arith, signed)

-- the plain line is the same each day
pub plain_landing-shift : (q k : ℤ) → plain_landing (q +ℤ k *ℤ pos 86_400_000_000_000) ≡ later k (plain_landing q)
plain_landing-shift q k =
    let of_parts : ℤ → ℤ → Landing = λ d r. record { day = d; time = time_of_rest (unsigned_abs r) } in
    ap (λ d. of_parts d (int_rem_euclid (q +ℤ k *ℤ pos 86_400_000_000_000) (pos 86_400_000_000_000))) (div-shift q k)
    ∙ ap (of_parts (k +ℤ int_div_euclid q (pos 86_400_000_000_000))) (rem-shift q k)

-- a point is the place of its time, and its days
pub place-plain_landing : (q : ℤ) → pos (place (plain_landing q).time) +ℤ (plain_landing q).day *ℤ pos 86_400_000_000_000 ≡ q
place-plain_landing q = omega (arith, signed)

pub IsPlain-plain_landing : (q : ℤ) → IsPlain (plain_landing q).time
IsPlain-plain_landing q = omega arith

-- a move from a plain time ends in no leap second
pub IsPlain-land : (t : TimeOfDay) (x : ℤ) → IsPlain t → IsPlain (land t x).time
IsPlain-land t x h = rw (land-plain t x h) (IsPlain-plain_landing (pos (place t) +ℤ x))

-- a move on from a plain point
land-plain_landing : (q y : ℤ) → plain_landing (q +ℤ y) ≡ later (plain_landing q).day (land (plain_landing q).time y)
land-plain_landing q y =
    let t = (plain_landing q).time in
    let d = (plain_landing q).day in
    let e : q +ℤ y ≡ (pos (place (plain_landing q).time) +ℤ y) +ℤ (plain_landing q).day *ℤ pos 86_400_000_000_000 = omega (arith, signed, place-plain_landing q) in
    ap plain_landing e ∙ plain_landing-shift (pos (place t) +ℤ y) d ∙ ap (later d) (sym (land-plain t y (IsPlain-plain_landing q)))

-- ---- two moves

regrouped : (a b c : ℤ) → a +ℤ (b +ℤ c) ≡ (a +ℤ b) +ℤ c
regrouped a b c = omega (arith, signed)

-- from a plain start every second move may follow
TimeMovesAddUp-plain : (t : TimeOfDay) (x y : ℤ) → IsPlain t → TimeMovesAddUp t x y
TimeMovesAddUp-plain t x y h =
    let p = pos (place t) +ℤ x in
    let P : Landing → Type 0 = λ l. land t (x +ℤ y) ≡ later l.day (land l.time y) in
    rw (land-plain t x h) (land-plain t (x +ℤ y) h ∙ ap plain_landing (regrouped (pos (place t)) x y) ∙ land-plain_landing p y)

-- a point of a leap start's line, and a move on from there
LeapAddsUp : ℕ → ℤ → ℤ → Type 0
LeapAddsUp s p y = leap_landing s (p +ℤ y) ≡ later (leap_landing s p).day (land (leap_landing s p).time y)

-- a move back from before the leap second, a move on from past it, and any move from inside it
before_leap : (s : ℕ) (p y : ℤ) → p <ℤ pos ((s + 1) * 1_000_000_000) → y ≤ℤ pos 0 → LeapAddsUp s p y
unfolding LeapAddsUp
before_leap s p y h k =
    let h' : (p +ℤ y) <ℤ pos ((s + 1) * 1_000_000_000) = omega (arith, signed) in
    rw (leap_landing-before s p h, leap_landing-before s (p +ℤ y) h') (land-plain_landing p y)

past_leap : (s : ℕ) (p y : ℤ) → pos ((s + 2) * 1_000_000_000) ≤ℤ p → pos 0 ≤ℤ y → LeapAddsUp s p y
unfolding LeapAddsUp
past_leap s p y h k =
    let h' : pos ((s + 2) * 1_000_000_000) ≤ℤ (p +ℤ y) = omega (arith, signed) in
    let e : (p +ℤ y) -ℤ pos 1_000_000_000 ≡ (p -ℤ pos 1_000_000_000) +ℤ y = omega (arith, signed) in
    rw (leap_landing-past s p h, leap_landing-past s (p +ℤ y) h') (ap plain_landing e ∙ land-plain_landing (p -ℤ pos 1_000_000_000) y)

-- no day later is the landing itself
later-none : (l : Landing) → later (pos 0) l ≡ l
later-none l =
    let of_day : ℤ → Landing = λ d. record { day = d; time = l.time } in
    let e : pos 0 +ℤ l.day ≡ l.day = omega (arith, signed) in
    ap of_day e

inside_leap : (s : ℕ) (p y : ℤ) → pos ((s + 1) * 1_000_000_000) ≤ℤ p → p <ℤ pos ((s + 2) * 1_000_000_000) → LeapAddsUp s p y
unfolding LeapAddsUp
inside_leap s p y h k =
    let f = unsigned_abs (p -ℤ pos (s * 1_000_000_000)) in
    let t : TimeOfDay = record { second = s; fraction = f } in
    let leap : IsLeap t = omega (arith, signed) in
    let e : p +ℤ y ≡ pos (s * 1_000_000_000 + unsigned_abs (p -ℤ pos (s * 1_000_000_000))) +ℤ y = omega (arith, signed) in
    rw (leap_landing-inside s p h k) (ap (leap_landing s) e ∙ sym (land-leap t y leap) ∙ sym (later-none (land t y)))

-- from a leap start a second move may follow that goes the same way
TimeMovesAddUp-leap : (t : TimeOfDay) (x y : ℤ) → IsTime t → IsLeap t → SameWay x y → TimeMovesAddUp t x y
unfolding LeapAddsUp
TimeMovesAddUp-leap t x y i h w =
    let p = pos (place t) +ℤ x in
    let not_before : pos 0 ≤ℤ x → pos ((t.second + 1) * 1_000_000_000) ≤ℤ (pos (place t) +ℤ x) = λ k. omega (arith, signed) in
    let not_past : x ≤ℤ pos 0 → (pos (place t) +ℤ x) <ℤ pos ((t.second + 2) * 1_000_000_000) = λ k. omega (arith, signed, i.fraction) in
    rw (land-leap t x h)
    (land-leap t (x +ℤ y) h ∙ ap (leap_landing t.second) (regrouped (pos (place t)) x y) ∙
    by_parts p t.second
    (λ low. before_leap t.second p y low (⊎_elim (λ u. absurd (omega (arith, signed, not_before u.0))) (λ d. d.1) w))
    (λ a b. inside_leap t.second p y a b)
    (λ high. past_leap t.second p y high (⊎_elim (λ u. u.1) (λ d. absurd (omega (arith, signed, not_past d.0))) w)))

pub TimeMovesAddUp-land : (t : TimeOfDay) (x y : ℤ) → IsTime t → IsPlain t ⊎ SameWay x y → TimeMovesAddUp t x y
TimeMovesAddUp-land t x y i w =
    by_leap t (TimeMovesAddUp-plain t x y)
    (λ h. TimeMovesAddUp-leap t x y i h (⊎_elim (λ n. absurd (omega arith)) (λ s. s) w))
