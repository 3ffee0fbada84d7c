-- Local times of a rule that are no earlier than its start.
use Rattle.std.proofs.Common.{◌≡◌, ◌⊎◌, inl, inr, ℤ, ◌≤ℤ◌, ◌<ℤ◌, Option, Some, None, IfSome, arith}
use Rattle.std.proofs.lemmas.Int.{ints}
use Rattle.chrono_datetime.specs.Moment.{Moment}
use Rattle.chrono_instant.specs.Instants.{epoch_second}
use Rattle.zoned_rules.specs.LocalTimes.{LocalParts}
use Rattle.zoned_rules.specs.Private.{IsListed, IsListedSince}

pub listed_alone : (r : LocalParts) (m : Moment) → IsListedSince r m → IsListed r m
listed_alone r m h = record { exists = h.exists; listed = h.listed }

pub since_listed : (r : LocalParts) (m : Moment) → IsListed r m → epoch_second r.start ≤ℤ epoch_second m → IsListedSince r m
since_listed r m h since = record { exists = h.exists; listed = h.listed; since = since }

-- two facts of what was found
pub if_both : {X : Type 0} {P Q R : X → Type 0} (r : Option X) → IfSome r P → IfSome r Q → ((x : X) → P x → Q x → R x) → IfSome r R
if_both None h k f = tt
if_both (Some x) h k f = f x h k

-- ---- the later of a second and the start, at l

-- a local time from the second on lies from there on
pub since_later : (start second l at q : ℤ) → at ≡ l → (l ≡ second) ⊎ (l ≡ start) → start ≤ℤ q → second ≤ℤ q → at ≤ℤ q
since_later start second l at q is (inl here) since from = omega (arith, ints, is, here, from)
since_later start second l at q is (inr here) since from = omega (arith, ints, is, here, since)

-- one that does not lies before the second
pub before_later : (start second l at q : ℤ) → at ≡ l → (l ≡ second) ⊎ (l ≡ start) → start ≤ℤ q → q <ℤ at → q <ℤ second
before_later start second l at q is (inl here) since lt = omega (arith, ints, is, here, lt)
before_later start second l at q is (inr here) since lt = absurd (omega (arith, ints, is, here, since, lt))

-- ---- the last local time before a second, if it is no earlier than the start

-- no earlier one comes from the start on
pub none_since : (start m q : ℤ) → m <ℤ start → start ≤ℤ q → q ≤ℤ m → ⊥
none_since start m q before since le = omega (arith, ints, before, since, le)
