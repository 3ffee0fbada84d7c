-- Lemmas on the order of a start and its landing: a move forward ends later, and a move back earlier.
use Rattle.std.proofs.Common.{◌≡◌, ℕ, ◌+◌, ◌*◌, ◌<◌, ◌⊎◌, ⊎_elim, inl, inr, ℤ, pos, ◌+ℤ◌, ◌-ℤ◌, ◌*ℤ◌, ◌<ℤ◌, ◌≤ℤ◌, arith, refl, subst, sym}
use Rattle.std.proofs.lemmas.Int.{by_lt_z}
use Rattle.chrono_text.proofs.DigitLemmas.{by_size}
use Rattle.chrono_clock.specs.Time.{TimeOfDay, Landing, IsTime, IsEarlierLanding, landing_of, place, plain_landing, land}
use Rattle.chrono_text.proofs.Signed.{signed}
use Rattle.chrono_clock.proofs.TimeLemmas.{by_leap, by_parts, land-plain, land-leap, leap_landing-before, leap_landing-inside, leap_landing-past}
use Rattle.chrono_clock.proofs.LandingLemmas.{place-plain_landing}

-- a plain landing lies in its day, and in no leap second
parts_of : (q : ℤ) → ((plain_landing q).time.second < 86_400) × ((plain_landing q).time.fraction < 1_000_000_000)
parts_of q = (omega (arith, signed), omega arith)

-- a plain point after a plain time is later
plain-forward : (t : TimeOfDay) (q : ℤ) → pos (place t) <ℤ q → IsTime t → t.fraction < 1_000_000_000 → IsEarlierLanding (landing_of t) (plain_landing q)
plain-forward t q h i k =
    let w = place-plain_landing q in
    let r = parts_of q in
    let at_day : (n : ℕ) (d : ℤ) → pos n +ℤ d *ℤ pos 86_400_000_000_000 ≡ q → n < 86_400_000_000_000 → (pos 0 <ℤ d) ⊎ (pos 0 ≡ d) = λ n d e f. by_lt_z (pos 0) d inl (λ g. inr (omega (arith, signed))) in
    ⊎_elim inl
    (λ e. inr (
      e,
      by_size (plain_landing q).time.second t.second inl
          (λ a. by_size t.second (plain_landing q).time.second (λ b. absurd (omega (arith, signed))) (λ b. inr (omega arith, omega (arith, signed)))),
    ))
    (at_day (place (plain_landing q).time) (plain_landing q).day w (omega arith))

-- so is one in a later second than the time
plain-next_second : (t : TimeOfDay) (q : ℤ) → pos ((t.second + 1) * 1_000_000_000) ≤ℤ q → IsEarlierLanding (landing_of t) (plain_landing q)
plain-next_second t q h =
    let w = place-plain_landing q in
    let r = parts_of q in
    let at_day : (n : ℕ) (d : ℤ) → pos n +ℤ d *ℤ pos 86_400_000_000_000 ≡ q → n < 86_400_000_000_000 → (pos 0 <ℤ d) ⊎ (pos 0 ≡ d) = λ n d e f. by_lt_z (pos 0) d inl (λ g. inr (omega (arith, signed))) in
    ⊎_elim inl
    (λ e. inr (
      e,
      by_size (plain_landing q).time.second t.second inl (λ a. absurd (omega (arith, signed))),
    ))
    (at_day (place (plain_landing q).time) (plain_landing q).day w (omega arith))

-- a plain point before a time, and not past its second, is earlier
plain-backward : (t : TimeOfDay) (q : ℤ) → q <ℤ pos ((t.second + 1) * 1_000_000_000) → q <ℤ pos (place t) → IsTime t → IsEarlierLanding (plain_landing q) (landing_of t)
plain-backward t q h k i =
    let w = place-plain_landing q in
    let r = parts_of q in
    let at_day : (n : ℕ) (d : ℤ) → pos n +ℤ d *ℤ pos 86_400_000_000_000 ≡ q → (d <ℤ pos 0) ⊎ (d ≡ pos 0) = λ n d e. by_lt_z d (pos 0) inl (λ g. inr (omega (arith, signed, i.second))) in
    ⊎_elim inl
    (λ e. inr (
      e,
      by_size t.second (plain_landing q).time.second inl
          (λ a. by_size (plain_landing q).time.second t.second (λ b. absurd (omega (arith, signed))) (λ b. inr (omega arith, omega (arith, signed)))),
    ))
    (at_day (place (plain_landing q).time) (plain_landing q).day w)

-- a move forward ends later
pub land-forward : (t : TimeOfDay) (x : ℤ) → IsTime t → pos 0 <ℤ x → IsEarlierLanding (landing_of t) (land t x)
land-forward t x i h =
    let P : Landing → Type 0 = λ l. IsEarlierLanding (landing_of t) l in
    by_leap t
    (λ e. subst P (sym (land-plain t x e)) (plain-forward t (pos (place t) +ℤ x) (omega (arith, signed)) i e))
    (λ e. subst P (sym (land-leap t x e))
    (by_parts (pos (place t) +ℤ x) t.second
    (λ a. absurd (omega (arith, signed)))
    (λ a b. subst P (sym (leap_landing-inside t.second (pos (place t) +ℤ x) a b))
    (inr (refl, inr (refl, omega (arith, signed)))))
    (λ a. subst P (sym (leap_landing-past t.second (pos (place t) +ℤ x) a)) (plain-next_second t ((pos (place t) +ℤ x) -ℤ pos 1_000_000_000) (omega (arith, signed))))))

-- a move back ends earlier
pub land-backward : (t : TimeOfDay) (x : ℤ) → IsTime t → x <ℤ pos 0 → IsEarlierLanding (land t x) (landing_of t)
land-backward t x i h =
    let P : Landing → Type 0 = λ l. IsEarlierLanding l (landing_of t) in
    by_leap t
    (λ e. subst P (sym (land-plain t x e)) (plain-backward t (pos (place t) +ℤ x) (omega (arith, signed)) (omega (arith, signed)) i))
    (λ e. subst P (sym (land-leap t x e))
    (by_parts (pos (place t) +ℤ x) t.second
    (λ a. subst P (sym (leap_landing-before t.second (pos (place t) +ℤ x) a)) (plain-backward t (pos (place t) +ℤ x) a (omega (arith, signed)) i))
    (λ a b. subst P (sym (leap_landing-inside t.second (pos (place t) +ℤ x) a b))
    (inr (refl, inr (refl, omega (arith, signed)))))
    (λ a. absurd (omega (arith, signed, i.fraction)))))
