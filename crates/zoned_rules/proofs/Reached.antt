-- What a search over local times has reached.
use Rattle.std.proofs.Common.{◌≡◌, ◌⊎◌, inl, inr, ℤ, pos, ◌+ℤ◌, ◌-ℤ◌, ◌≤ℤ◌, ◌<ℤ◌, Option, Some, None, IsSomeAnd, arith, subst, sym}
use Rattle.std.proofs.lemmas.Int.{by_lt_z, ints}
use Rattle.chrono_datetime.specs.Moment.{Moment}
use Rattle.chrono_instant.specs.Instants.{epoch_second}
use Rattle.zoned_rules.specs.LocalInstants.{HasDates, IsInstantOf}
use Rattle.zoned_rules.specs.LocalTimes.{LocalParts}
use Rattle.zoned_rules.specs.Recurs.{Recurs, RecursFor}
use Rattle.zoned_rules.specs.Private.{IsListedSince, IsReached, IsReachedBack, IsStoodFor, ReachesAhead, ReachesBehind}
use Rattle.zoned_rules.proofs.Standing.{AreOffsets, stands_near, stands_once}

pub listed_of : (r : LocalParts) (ahead : ℤ → ℤ) (m : Moment) (u : ℤ) → RecursFor r ahead m u → IsListedSince r m
listed_of r ahead m u h = record { exists = h.exists; listed = h.listed; since = h.since }

-- local times a day before a second stand for no instant after it
pub nothing_yet : (r : LocalParts) (ahead : ℤ → ℤ) (after l from : ℤ) → AreOffsets ahead → from ≡ (after -ℤ pos 86_400) → ((q : Moment) → IsListedSince r q → from ≤ℤ epoch_second q → l ≤ℤ epoch_second q) → ReachesAhead r ahead after l None
nothing_yet r ahead after l from offsets is least m u h before later =
    let near = stands_near ahead (epoch_second m) u offsets h.stands in
    by_lt_z (epoch_second m) from (λ lt. omega (arith, ints, lt, is, near.1, later))
    (λ ge. omega (arith, ints, before, least m (listed_of r ahead m u h) ge))

pub nothing_at_all : (r : LocalParts) (ahead : ℤ → ℤ) (after from : ℤ) → AreOffsets ahead → from ≡ (after -ℤ pos 86_400) → ((q : Moment) → IsListedSince r q → epoch_second q <ℤ from) → (m : Moment) (u : ℤ) → RecursFor r ahead m u → after <ℤ u → ⊥
nothing_at_all r ahead after from offsets is none m u h later =
    let near = stands_near ahead (epoch_second m) u offsets h.stands in
    omega (arith, ints, none m (listed_of r ahead m u h), is, near.1, later)

-- what the one local time l stands for
abbrev pub ReachesAt : LocalParts → (ℤ → ℤ) → ℤ → ℤ → Option ℤ → Type 0
ReachesAt r ahead after l found = (m : Moment) (u : ℤ) → RecursFor r ahead m u → epoch_second m ≡ l → after <ℤ u → IsReached found u

abbrev pub IsEarlierOf : Option ℤ → Option ℤ → Option ℤ → Type 0
IsEarlierOf one other found = (u : ℤ) → IsReached one u ⊎ IsReached other u → IsReached found u

pub reaches_next : (r : LocalParts) (ahead : ℤ → ℤ) (after l next : ℤ) (best here found : Option ℤ) → ReachesAhead r ahead after l best → ReachesAt r ahead after l here → IsEarlierOf best here found → ((q : Moment) → IsListedSince r q → l <ℤ epoch_second q → next ≤ℤ epoch_second q) → ReachesAhead r ahead after next found
reaches_next r ahead after l next best here found old at both least m u h before later =
    by_lt_z (epoch_second m) l (λ lt. both u (inl (old m u h lt later)))
    (λ ge. by_lt_z l (epoch_second m) (λ gt. absurd (omega (arith, ints, before, least m (listed_of r ahead m u h) gt)))
    (λ le. both u (inr (at m u h (omega (arith, ints, ge, le)) later))))

pub reaches_all : (r : LocalParts) (ahead : ℤ → ℤ) (after l : ℤ) (best here found : Option ℤ) → ReachesAhead r ahead after l best → ReachesAt r ahead after l here → IsEarlierOf best here found → ((q : Moment) → IsListedSince r q → epoch_second q ≤ℤ l) → (m : Moment) (u : ℤ) → RecursFor r ahead m u → after <ℤ u → IsReached found u
reaches_all r ahead after l best here found old at both none m u h later =
    by_lt_z (epoch_second m) l (λ lt. both u (inl (old m u h lt later)))
    (λ ge. both u (inr (at m u h (omega (arith, ints, ge, none m (listed_of r ahead m u h))) later)))

pub reaches_far : (r : LocalParts) (ahead : ℤ → ℤ) (after l : ℤ) (best : Option ℤ) → AreOffsets ahead → ReachesAhead r ahead after l best → IsSomeAnd best (λ c. (c +ℤ pos 86_400) ≤ℤ l) → (m : Moment) (u : ℤ) → RecursFor r ahead m u → after <ℤ u → IsReached best u
reaches_far r ahead after l None offsets old far m u h later = absurd far
reaches_far r ahead after l (Some c) offsets old far m u h later =
    let near = stands_near ahead (epoch_second m) u offsets h.stands in
    by_lt_z (epoch_second m) l (λ lt. old m u h lt later) (λ ge. omega (arith, ints, ge, far, near.0))

-- ---- the same backwards

pub nothing_yet_back : (r : LocalParts) (ahead : ℤ → ℤ) (end l from : ℤ) → AreOffsets ahead → from ≡ (end +ℤ pos 86_400) → ((q : Moment) → IsListedSince r q → epoch_second q <ℤ from → epoch_second q ≤ℤ l) → ReachesBehind r ahead end l None
nothing_yet_back r ahead end l from offsets is greatest m u h behind earlier =
    let near = stands_near ahead (epoch_second m) u offsets h.stands in
    by_lt_z (epoch_second m) from (λ lt. omega (arith, ints, behind, greatest m (listed_of r ahead m u h) lt))
    (λ ge. omega (arith, ints, ge, is, near.0, earlier))

pub nothing_at_all_back : (r : LocalParts) (ahead : ℤ → ℤ) (end from : ℤ) → AreOffsets ahead → from ≡ (end +ℤ pos 86_400) → ((q : Moment) → IsListedSince r q → from ≤ℤ epoch_second q) → (m : Moment) (u : ℤ) → RecursFor r ahead m u → u <ℤ end → ⊥
nothing_at_all_back r ahead end from offsets is none m u h earlier =
    let near = stands_near ahead (epoch_second m) u offsets h.stands in
    omega (arith, ints, none m (listed_of r ahead m u h), is, near.0, earlier)

abbrev pub ReachesBackAt : LocalParts → (ℤ → ℤ) → ℤ → ℤ → Option ℤ → Type 0
ReachesBackAt r ahead end l found = (m : Moment) (u : ℤ) → RecursFor r ahead m u → epoch_second m ≡ l → u <ℤ end → IsReachedBack found u

abbrev pub IsLaterOf : Option ℤ → Option ℤ → Option ℤ → Type 0
IsLaterOf one other found = (u : ℤ) → IsReachedBack one u ⊎ IsReachedBack other u → IsReachedBack found u

pub reaches_previous : (r : LocalParts) (ahead : ℤ → ℤ) (end l previous : ℤ) (best here found : Option ℤ) → ReachesBehind r ahead end l best → ReachesBackAt r ahead end l here → IsLaterOf best here found → ((q : Moment) → IsListedSince r q → epoch_second q <ℤ l → epoch_second q ≤ℤ previous) → ReachesBehind r ahead end previous found
reaches_previous r ahead end l previous best here found old at both greatest m u h behind earlier =
    by_lt_z l (epoch_second m) (λ gt. both u (inl (old m u h gt earlier)))
    (λ le. by_lt_z (epoch_second m) l (λ lt. absurd (omega (arith, ints, behind, greatest m (listed_of r ahead m u h) lt)))
    (λ ge. both u (inr (at m u h (omega (arith, ints, ge, le)) earlier))))

pub reaches_all_back : (r : LocalParts) (ahead : ℤ → ℤ) (end l : ℤ) (best here found : Option ℤ) → ReachesBehind r ahead end l best → ReachesBackAt r ahead end l here → IsLaterOf best here found → ((q : Moment) → IsListedSince r q → l ≤ℤ epoch_second q) → (m : Moment) (u : ℤ) → RecursFor r ahead m u → u <ℤ end → IsReachedBack found u
reaches_all_back r ahead end l best here found old at both none m u h earlier =
    by_lt_z l (epoch_second m) (λ gt. both u (inl (old m u h gt earlier)))
    (λ le. both u (inr (at m u h (omega (arith, ints, le, none m (listed_of r ahead m u h))) earlier)))

pub reaches_far_back : (r : LocalParts) (ahead : ℤ → ℤ) (end l : ℤ) (best : Option ℤ) → AreOffsets ahead → ReachesBehind r ahead end l best → IsSomeAnd best (λ c. l ≤ℤ (c -ℤ pos 86_400)) → (m : Moment) (u : ℤ) → RecursFor r ahead m u → u <ℤ end → IsReachedBack best u
reaches_far_back r ahead end l None offsets old far m u h earlier = absurd far
reaches_far_back r ahead end l (Some c) offsets old far m u h earlier =
    let near = stands_near ahead (epoch_second m) u offsets h.stands in
    by_lt_z l (epoch_second m) (λ gt. old m u h gt earlier) (λ le. omega (arith, ints, le, far, near.1))

-- ---- what was found

-- the instant that a local time stands for, if UTC and the clock have dates there, is the only one
pub at_one : (r : LocalParts) (ahead : ℤ → ℤ) (after l x : ℤ) → IsInstantOf ahead l x → ReachesAt r ahead after l (Some x)
at_one r ahead after l x stands m u h same later =
    omega (arith, ints, stands_once ahead l u x (subst (λ (k : ℤ). IsInstantOf ahead k u) same h.stands) stands)

pub at_none : (r : LocalParts) (ahead : ℤ → ℤ) (after l x : ℤ) → IsInstantOf ahead l x → (after <ℤ x → HasDates ahead x → ⊥) → ReachesAt r ahead after l None
at_none r ahead after l x stands not m u h same later =
    let is = stands_once ahead l u x (subst (λ (k : ℤ). IsInstantOf ahead k u) same h.stands) stands in
    not (omega (arith, ints, is, later)) (subst (λ (k : ℤ). HasDates ahead k) is h.dates)

pub back_at_one : (r : LocalParts) (ahead : ℤ → ℤ) (end l x : ℤ) → IsInstantOf ahead l x → ReachesBackAt r ahead end l (Some x)
back_at_one r ahead end l x stands m u h same earlier =
    omega (arith, ints, stands_once ahead l u x (subst (λ (k : ℤ). IsInstantOf ahead k u) same h.stands) stands)

pub back_at_none : (r : LocalParts) (ahead : ℤ → ℤ) (end l x : ℤ) → IsInstantOf ahead l x → (x <ℤ end → HasDates ahead x → ⊥) → ReachesBackAt r ahead end l None
back_at_none r ahead end l x stands not m u h same earlier =
    let is = stands_once ahead l u x (subst (λ (k : ℤ). IsInstantOf ahead k u) same h.stands) stands in
    not (omega (arith, ints, is, earlier)) (subst (λ (k : ℤ). HasDates ahead k) is h.dates)

pub recurs_at_one : (r : LocalParts) (ahead : ℤ → ℤ) (m : Moment) (x : ℤ) → IsListedSince r m → IsInstantOf ahead (epoch_second m) x → HasDates ahead x → IsStoodFor r ahead x
recurs_at_one r ahead m x listed stands dates = (m, record { dates = dates; exists = listed.exists; listed = listed.listed; since = listed.since; stands = stands })

-- ---- the start's instant

pub recurs_begun : (r : LocalParts) (ahead : ℤ → ℤ) (begun u : ℤ) → IsInstantOf ahead (epoch_second r.start) begun → begun ≤ℤ u → IsStoodFor r ahead u → Recurs r ahead u
recurs_begun r ahead begun u stands le (m, h) = record {
  planned = m;
  recurs = h;
  begun = λ s there. omega (arith, ints, le, stands_once ahead (epoch_second r.start) s begun there stands);
}

-- ---- the same by other names

pub renamed_reach : (r : LocalParts) (ahead : ℤ → ℤ) (after l x y : ℤ) → x ≡ y → ReachesAt r ahead after l (Some x) → ReachesAt r ahead after l (Some y)
renamed_reach r ahead after l x y is h = subst (λ (k : ℤ). ReachesAt r ahead after l (Some k)) is h

pub renamed_reach_back : (r : LocalParts) (ahead : ℤ → ℤ) (end l x y : ℤ) → x ≡ y → ReachesBackAt r ahead end l (Some x) → ReachesBackAt r ahead end l (Some y)
renamed_reach_back r ahead end l x y is h = subst (λ (k : ℤ). ReachesBackAt r ahead end l (Some k)) is h

pub found_there : (r : LocalParts) (ahead : ℤ → ℤ) (after here x X : ℤ) → here ≡ after → X ≡ x → (here <ℤ x) × IsStoodFor r ahead x → (after <ℤ X) × IsStoodFor r ahead X
found_there r ahead after here x X is is_x found = (omega (arith, ints, is, is_x, found.0), subst (λ (k : ℤ). IsStoodFor r ahead k) (sym is_x) found.1)

pub found_there_back : (r : LocalParts) (ahead : ℤ → ℤ) (end here x X : ℤ) → here ≡ end → X ≡ x → (x <ℤ here) × IsStoodFor r ahead x → (X <ℤ end) × IsStoodFor r ahead X
found_there_back r ahead end here x X is is_x found = (omega (arith, ints, is, is_x, found.0), subst (λ (k : ℤ). IsStoodFor r ahead k) (sym is_x) found.1)
