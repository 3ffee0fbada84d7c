-- Lemmas on times of day: leap and plain ones, and the three parts of a leap second's line.
use Rattle.std.proofs.Common.{◌≡◌, ℕ, ◌+◌, ◌*◌, true, false, ℤ, pos, ◌+ℤ◌, ◌-ℤ◌, ◌<ℤ◌, ◌≤ℤ◌, arith, refl, unsigned_abs}
use Rattle.std.specs.Int.RustNames.{int_le, int_lt}
use Rattle.std.proofs.lemmas.Int.{ints, by_lt_z}
use Rattle.chrono_text.proofs.DigitLemmas.{by_size}
use Rattle.chrono_clock.specs.Time.{TimeOfDay, IsLeap, IsPlain, is_leap, place, plain_landing, leap_landing, land}
use Rattle.chrono_text.proofs.Signed.{signed}

-- ---- cases

-- a time is leap or plain
pub by_leap : {P : Type 0} (t : TimeOfDay) → (IsPlain t → P) → (IsLeap t → P) → P
by_leap t plain leap = by_size 1_000_000_000 t.fraction plain leap

-- a point lies before, inside or past the second after s
pub by_parts : {P : Type 0} (p : ℤ) (s : ℕ) → (p <ℤ pos ((s + 1) * 1_000_000_000) → P) → (pos ((s + 1) * 1_000_000_000) ≤ℤ p → p <ℤ pos ((s + 2) * 1_000_000_000) → P) → (pos ((s + 2) * 1_000_000_000) ≤ℤ p → P) → P
by_parts p s before inside past =
    by_lt_z p (pos ((s + 1) * 1_000_000_000)) before
    (λ a. by_lt_z p (pos ((s + 2) * 1_000_000_000)) (inside a) past)

-- ---- the lines of plain and of leap starts

pub is_leap-plain : (t : TimeOfDay) → IsPlain t → is_leap t ≡ false
is_leap-plain t h = grind arith

pub is_leap-leap : (t : TimeOfDay) → IsLeap t → is_leap t ≡ true
is_leap-leap t h = grind arith

pub IsPlain-is_leap : (t : TimeOfDay) → is_leap t ≡ false → IsPlain t
IsPlain-is_leap t e = grind arith

pub IsLeap-is_leap : (t : TimeOfDay) → is_leap t ≡ true → IsLeap t
IsLeap-is_leap t e = grind arith

pub land-plain : (t : TimeOfDay) (x : ℤ) → IsPlain t → land t x ≡ plain_landing (pos (place t) +ℤ x)
unfolding land
land-plain t x h = let e = is_leap-plain t h in rw e refl

pub land-leap : (t : TimeOfDay) (x : ℤ) → IsLeap t → land t x ≡ leap_landing t.second (pos (place t) +ℤ x)
unfolding land
land-leap t x h = let e = is_leap-leap t h in rw e refl

-- the tests of two numbers in order
pub int_lt-below : (a b : ℤ) → a <ℤ b → int_lt a b ≡ true
int_lt-below a b h = grind (arith, ints)

pub int_lt-above : (a b : ℤ) → b ≤ℤ a → int_lt a b ≡ false
int_lt-above a b h = grind (arith, ints)

pub int_le-below : (a b : ℤ) → a ≤ℤ b → int_le a b ≡ true
int_le-below a b h = grind (arith, ints)

pub int_le-above : (a b : ℤ) → b <ℤ a → int_le a b ≡ false
int_le-above a b h = grind (arith, ints)

pub leap_landing-before : (s : ℕ) (p : ℤ) → p <ℤ pos ((s + 1) * 1_000_000_000) → leap_landing s p ≡ plain_landing p
leap_landing-before s p h = rw (int_lt-below p (pos ((s + 1) * 1_000_000_000)) h) refl

pub leap_landing-inside : (s : ℕ) (p : ℤ) → pos ((s + 1) * 1_000_000_000) ≤ℤ p → p <ℤ pos ((s + 2) * 1_000_000_000) → leap_landing s p ≡ record { day = pos 0; time = record { second = s; fraction = unsigned_abs (p -ℤ pos (s * 1_000_000_000)) } }
leap_landing-inside s p h k = rw (int_lt-above p (pos ((s + 1) * 1_000_000_000)) h, int_lt-below p (pos ((s + 2) * 1_000_000_000)) k) refl

pub leap_landing-past : (s : ℕ) (p : ℤ) → pos ((s + 2) * 1_000_000_000) ≤ℤ p → leap_landing s p ≡ plain_landing (p -ℤ pos 1_000_000_000)
leap_landing-past s p h =
    let h' : pos ((s + 1) * 1_000_000_000) ≤ℤ p = omega (arith, signed) in
    rw (int_lt-above p (pos ((s + 1) * 1_000_000_000)) h', int_lt-above p (pos ((s + 2) * 1_000_000_000)) h) refl
