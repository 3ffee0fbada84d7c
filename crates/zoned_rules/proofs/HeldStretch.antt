-- Where the clock keeps its offset, a local time stands for the instant at which it is shown.
use Rattle.std.proofs.Common.{◌≡◌, inl, inr, ℤ, pos, ◌+ℤ◌, ◌-ℤ◌, ◌≤ℤ◌, ◌<ℤ◌, arith}
use Rattle.std.proofs.lemmas.Int.{by_lt_z, ints}
use Rattle.chrono_zoned.specs.Zones.{HoldsUntil}
use Rattle.chrono_datetime.specs.Moment.{Moment}
use Rattle.chrono_instant.specs.Instants.{epoch_second}
use Rattle.zoned_rules.specs.LocalInstants.{HasDates, IsInstantOf}
use Rattle.zoned_rules.specs.LocalTimes.{LocalParts}
use Rattle.zoned_rules.specs.Recurs.{RecursFor}
use Rattle.zoned_rules.specs.Private.{IsListedSince, IsStoodFor}
use Rattle.zoned_rules.proofs.Reached.{listed_of}
use Rattle.chrono_zoned.proofs.SecondSums.{near}
use Rattle.zoned_rules.proofs.Standing.{AreOffsets}

-- two days behind the beginning of a stretch it is the first that shows it
pub held_first : (ahead : ℤ → ℤ) (s t l u : ℤ) → AreOffsets ahead → HoldsUntil ahead s t → (s +ℤ pos 172_800) ≤ℤ u → u <ℤ t → (u +ℤ ahead s) ≡ l → IsInstantOf ahead l u
held_first ahead s t l u offsets holds low high is =
    let here : ahead u ≡ ahead s = holds u (omega (arith, ints, low)) high in
    inl (record {
      shown = omega (arith, ints, here, is);
      first = λ v shows.
          by_lt_z v u
          (λ lt.
          let at : ahead v ≡ ahead s = holds v (omega (arith, ints, low, shows, is, near (ahead v) (offsets v), near (ahead s) (offsets s))) (omega (arith, ints, lt, high)) in
          absurd (omega (arith, ints, lt, at, shows, is)))
          (λ ge. ge);
    })

-- no other local time stands for an instant there
pub held_local : (ahead : ℤ → ℤ) (s t l u : ℤ) → AreOffsets ahead → HoldsUntil ahead s t → (s +ℤ pos 172_800) ≤ℤ u → u <ℤ t → IsInstantOf ahead l u → (u +ℤ ahead s) ≡ l
held_local ahead s t l u offsets holds low high (inl h) =
    omega (arith, ints, h.shown, holds u (omega (arith, ints, low)) high)
held_local ahead s t l u offsets holds low high (inr h) =
    let c = h.change in
    let before : (c -ℤ pos 1) <ℤ u = omega (arith, ints, h.past.earlier (c -ℤ pos 1) (omega (arith, ints)), h.by) in
    let close : (u -ℤ pos 172_800) <ℤ c = omega (arith, ints, h.past.later, h.by, near (ahead c) (offsets c), near (ahead (c -ℤ pos 1)) (offsets (c -ℤ pos 1))) in
    let one : ahead (c -ℤ pos 1) ≡ ahead s = holds (c -ℤ pos 1) (omega (arith, ints, close, low)) (omega (arith, ints, before, high)) in
    let two : ahead c ≡ ahead s = holds c (omega (arith, ints, close, low)) (omega (arith, ints, before, high)) in
    absurd (omega (arith, ints, one, two, h.past.later, h.by, before))

-- ---- the searches there

-- if the first local time behind a second is l, no instant after that second comes before the one of l
pub least_held : (r : LocalParts) (ahead : ℤ → ℤ) (s t after from l found : ℤ) → AreOffsets ahead → HoldsUntil ahead s t → (s +ℤ pos 172_800) ≤ℤ after → from ≤ℤ (after +ℤ ahead s +ℤ pos 1) → found ≡ l -ℤ ahead s → found <ℤ t → ((q : Moment) → IsListedSince r q → from ≤ℤ epoch_second q → l ≤ℤ epoch_second q) → (m : Moment) (u : ℤ) → RecursFor r ahead m u → after <ℤ u → found ≤ℤ u
least_held r ahead s t after from l found offsets holds low at is high least m u h later =
    by_lt_z u found
    (λ lt.
    let shown : (u +ℤ ahead s) ≡ epoch_second m = held_local ahead s t (epoch_second m) u offsets holds (omega (arith, ints, low, later)) (omega (arith, ints, lt, high)) h.stands in
    absurd (omega (arith, ints, lt, shown, is, least m (listed_of r ahead m u h) (omega (arith, ints, shown, at, later)))))
    (λ ge. ge)

-- if the last local time before one is l, no instant before its own comes after the one of l
pub greatest_held : (r : LocalParts) (ahead : ℤ → ℤ) (s t end to l found : ℤ) → AreOffsets ahead → HoldsUntil ahead s t → end ≤ℤ t → (end +ℤ ahead s) ≤ℤ to → found ≡ l -ℤ ahead s → (s +ℤ pos 172_800) ≤ℤ found → ((q : Moment) → IsListedSince r q → epoch_second q <ℤ to → epoch_second q ≤ℤ l) → (m : Moment) (u : ℤ) → RecursFor r ahead m u → u <ℤ end → u ≤ℤ found
greatest_held r ahead s t end to l found offsets holds high at is low greatest m u h earlier =
    by_lt_z found u
    (λ gt.
    let shown : (u +ℤ ahead s) ≡ epoch_second m = held_local ahead s t (epoch_second m) u offsets holds (omega (arith, ints, low, gt)) (omega (arith, ints, earlier, high)) h.stands in
    absurd (omega (arith, ints, gt, shown, is, greatest m (listed_of r ahead m u h) (omega (arith, ints, shown, at, earlier)))))
    (λ le. le)

-- what stands for the instant
pub held_stood : (r : LocalParts) (ahead : ℤ → ℤ) (s t u : ℤ) (m : Moment) → AreOffsets ahead → HoldsUntil ahead s t → (s +ℤ pos 172_800) ≤ℤ u → u <ℤ t → u ≡ epoch_second m -ℤ ahead s → HasDates ahead u → IsListedSince r m → IsStoodFor r ahead u
held_stood r ahead s t u m offsets holds low high is dates h =
    (m, record { dates = dates; exists = h.exists; listed = h.listed; since = h.since; stands = held_first ahead s t (epoch_second m) u offsets holds low high (omega (arith, ints, is)) })
