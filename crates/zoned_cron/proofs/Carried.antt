-- Sums of seconds that fit their type.
use Rattle.std.proofs.Common.{◌≡◌, ◌≤◌, ℕ, ℤ, pos, ◌+ℤ◌, ◌-ℤ◌, ◌≤ℤ◌, ◌<ℤ◌, of_z, to_z, w64, arith, refl}
use Rattle.std.proofs.lemmas.Int.{ints}
use Rattle.chrono_instant.specs.Instants.{IsEpochSecond}
use Rattle.chrono_instant.specs.Offsets.{IsOffset}
use Rattle.chrono_zoned.proofs.SecondSums.{IsNearDates, carried, near}

pub plus : (a b x y : ℤ) → a ≡ x → b ≡ y → IsNearDates (x +ℤ y) → to_z w64 (of_z w64 (a +ℤ b)) ≡ (x +ℤ y)
plus a b x y e f h = carried (a +ℤ b) (x +ℤ y) (omega (arith, ints, e, f)) h

pub minus : (a b x y : ℤ) → a ≡ x → b ≡ y → IsNearDates (x -ℤ y) → to_z w64 (of_z w64 (a -ℤ b)) ≡ (x -ℤ y)
minus a b x y e f h = carried (a -ℤ b) (x -ℤ y) (omega (arith, ints, e, f)) h

-- what lies near dates
pub date_near : (x : ℤ) → IsEpochSecond x → IsNearDates x
date_near x date = (omega (arith, ints, date.0), omega (arith, ints, date.1))

pub days_behind : (x : ℤ) (n : ℕ) → IsEpochSecond x → n ≤ 600_000 → IsNearDates (x +ℤ pos n)
days_behind x n date few = (omega (arith, ints, date.0, few), omega (arith, ints, date.1, few))

pub days_before : (x : ℤ) (n : ℕ) → IsEpochSecond x → n ≤ 600_000 → IsNearDates (x -ℤ pos n)
days_before x n date few = (omega (arith, ints, date.0, few), omega (arith, ints, date.1, few))

pub two_days_before : (x : ℤ) → IsEpochSecond x → IsNearDates (x -ℤ pos 172_800)
two_days_before x date = days_before x 172_800 date (omega arith)

-- a second of the calendar comes back as it
pub date_carried : (x : ℤ) → IsEpochSecond x → to_z w64 (of_z w64 x) ≡ x
date_carried x date = carried x x refl (date_near x date)

pub shown_near : (x o : ℤ) → IsEpochSecond x → IsOffset o → IsNearDates (x +ℤ o)
shown_near x o date close = let bounds = near o close in (omega (arith, ints, date.0, bounds.0), omega (arith, ints, date.1, bounds.1))

pub showing_near : (x o : ℤ) → IsEpochSecond x → IsOffset o → IsNearDates (x -ℤ o)
showing_near x o date close = let bounds = near o close in (omega (arith, ints, date.0, bounds.1), omega (arith, ints, date.1, bounds.0))

pub walk_near : (gap x o : ℤ) → IsEpochSecond gap → (gap -ℤ pos 86_400) ≤ℤ x → x <ℤ (gap +ℤ pos 345_600) → IsOffset o → IsNearDates (x +ℤ o)
walk_near gap x o date low high close = let bounds = near o close in (omega (arith, ints, date.0, low, bounds.0), omega (arith, ints, date.1, high, bounds.1))

-- an instant at which the clock shows l or more by the offset o comes no earlier than the one at which it shows l by it
pub no_sooner : (u a o l found : ℤ) → l ≤ℤ (u +ℤ a) → a ≡ o → found ≡ (l -ℤ o) → u <ℤ found → ⊥
no_sooner u a o l found more same is lt = omega (arith, ints, more, same, is, lt)

-- nor a day or more before it
pub no_day_sooner : (u a l leap : ℤ) → l ≤ℤ (u +ℤ a) → IsOffset a → leap ≡ (l -ℤ pos 86_400) → leap ≤ℤ u
no_day_sooner u a l leap more close is = let bounds = near a close in omega (arith, ints, more, bounds.1, is)

pub twice_near : (x o p : ℤ) → IsEpochSecond x → IsOffset o → IsOffset p → IsNearDates (x +ℤ o -ℤ p)
twice_near x o p date close small =
    let bounds = near o close in
    let other = near p small in
    (omega (arith, ints, date.0, bounds.0, other.1), omega (arith, ints, date.1, bounds.1, other.0))
