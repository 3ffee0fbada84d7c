-- Which planned local times can fire in a range, and what a search has seen.
use Rattle.std.proofs.Common.{◌≡◌, ◌⊎◌, ⊎_elim, inl, inr, true, false, ◌==◌, ◌&&◌, ℕ, ◌/◌, ◌%◌, ◌<◌, ℤ, pos, neg_ℤ, ◌+ℤ◌, ◌-ℤ◌, ◌≤ℤ◌, ◌<ℤ◌, Option, Some, None, IfSome, IsSomeAnd, unsigned_abs, arith, ap, subst, sym, ◌∙◌}
use Rattle.std.proofs.lemmas.Bool.{and_parts, both_ways, eqb-true}
use Rattle.std.proofs.lemmas.Int.{by_lt_z, ints}
use Rattle.chrono_datetime.specs.Moment.{IsBefore, IsMoment, Moment, moment}
use Rattle.chrono_datetime.specs.Time.{FractionFits, IsEarlier, IsTime, TimeOfDay, time_at}
use Rattle.chrono_datetime.proofs.Signed.{casts}
use Rattle.chrono_instant.specs.Instants.{IsEpochSecond, epoch_second, second_of_minute}
use Rattle.chrono_instant.specs.Offsets.{IsOffset}
use Rattle.chrono_instant.proofs.InstantLemmas.{one_moment}
use Rattle.chrono_zoned.specs.declared.mapped_local_time.MappedLocalTime.{MappedLocalTime}
use Rattle.chrono_zoned.specs.Zones.{AreAll, HoldsUntil, IsAmong}
use Rattle.chrono_zoned.proofs.SecondSums.{near}
use Rattle.chrono_zoned.proofs.HeldSecondLemmas.{earlier_second, later_second}
use Rattle.chrono_cron.specs.declared.field_sets.FieldSets.{FieldSets}
use Rattle.chrono_cron.specs.Due.{NotDueBefore, NotDueBetween, is_day, is_due, is_minute}
use Rattle.zoned_cron.specs.declared.policy.Gap.{Gap}
use Rattle.zoned_cron.specs.declared.policy.Gap.TheVariants.{FirstAfter, FirstAfterShort, Skip}
use Rattle.zoned_cron.specs.declared.policy.Policy.{Policy}
use Rattle.zoned_cron.specs.Fires.{Fires, Takes, TakesSkipped}
use Rattle.zoned_cron.specs.Private.{CoversBehind, FiresFor, IsAtMost, IsLastIn, TakesDated}
use Rattle.zoned_cron.proofs.Instants.{among, behind, shown}

-- ---- how far an instant can be from the local time

-- where what is planned for l fires, the clock shows l or more
pub reached : (p : Policy) (ahead : ℤ → ℤ) (l u : ℤ) → Takes p ahead l u → l ≤ℤ (u +ℤ ahead u)
reached p ahead l u (inl h) = omega (arith, ints, shown p.fold ahead l u h)
reached p ahead l u (inr h) = omega (arith, ints, (behind p.gap ahead l u h).later)

-- and it does not fire after a start, if the clock showed l or more two days before that
pub too_early : (p : Policy) (ahead : ℤ → ℤ) (l start v k u : ℤ) → v ≡ (start -ℤ pos 172_800) → k ≡ (v +ℤ ahead v) → IsOffset (ahead v) → l ≤ℤ k → IsOffset (ahead u) → Takes p ahead l u → u ≤ℤ start
too_early p ahead l start v k u is_v is_k offset_v low offset_u (inl h) =
    omega (arith, ints, is_v, is_k, near (ahead v) offset_v, low, near (ahead u) offset_u, shown p.fold ahead l u h)
too_early p ahead l start v k u is_v is_k offset_v low offset_u (inr h) =
    by_lt_z start u
    (λ lt. absurd ((behind p.gap ahead l u h).skipped k low (omega (arith, ints, is_v, is_k, near (ahead v) offset_v, near (ahead u) offset_u, lt)) v (sym is_k)))
    (λ ge. ge)

-- ---- planned local times

-- a schedule is due at the beginning of a second
pub due_fraction : (s : FieldSets) (m : Moment) → is_due s m ≡ true → m.time.fraction ≡ 0
unfolding is_due
due_fraction s m due =
    let day = and_parts (is_day s m.date) (is_minute s (m.time.second / 60) && (m.time.second % 60 == 0 && m.time.fraction == 0)) due in
    let minute = and_parts (is_minute s (m.time.second / 60)) (m.time.second % 60 == 0 && m.time.fraction == 0) day.1 in
    let begins = and_parts (m.time.second % 60 == 0) (m.time.fraction == 0) minute.1 in
    eqb-true _ _ begins.1

-- what fires for a local time is one of its instants
taken : (s : FieldSets) (ahead : ℤ → ℤ) (p : Policy) (m local : Moment) (u : ℤ) → FiresFor s ahead p m u → epoch_second m ≡ epoch_second local → TakesDated p ahead (epoch_second local) u
taken s ahead p m local u f same = ((f.instant.local, f.instant.near), subst (λ (l : ℤ). Takes p ahead l u) same f.takes)

pub fires_for : (s : FieldSets) (ahead : ℤ → ℤ) (p : Policy) (u : ℤ) (f : Fires s ahead p u) → FiresFor s ahead p f.planned u
fires_for s ahead p u f = record { instant = f.instant; exists = f.exists; due = f.due; takes = f.takes }

pub fires_by : (s : FieldSets) (ahead : ℤ → ℤ) (p : Policy) (m : Moment) (u : ℤ) → IsEpochSecond u → IsMoment m → is_due s m ≡ true → TakesDated p ahead (epoch_second m) u → Fires s ahead p u
fires_by s ahead p m u utc exists due takes = record {
  instant = record { utc = utc; local = takes.0.0; near = takes.0.1 };
  planned = m;
  exists = exists;
  due = due;
  takes = takes.1;
}

-- ---- the measure of the search back

pub closer_back : (a b : ℤ) → a <ℤ b → neg_ℤ (pos 8_334_601_228_800) ≤ℤ a → unsigned_abs (a +ℤ pos 8_334_601_228_801) < unsigned_abs (b +ℤ pos 8_334_601_228_801)
closer_back a b lt low = omega (arith, casts, lt, low)

-- ---- from the beginning of the calendar

pub none_from_first : (s : FieldSets) (first q m : Moment) → first ≡ moment (neg_ℤ (pos 95_746_129)) (time_at 0 0 0 0) → is_due s first ≡ false → IsMoment m → is_due s m ≡ true → (IsBefore first m → ⊥) → ⊥
none_from_first s first q m is_first not i due none =
    by_lt_z (pos 0) (pos m.time.second)
    (λ later.
    by_lt_z (neg_ℤ (pos 95_746_129)) m.date (λ lt. none (subst (λ (k : Moment). IsBefore k m) (sym is_first) (inl lt)))
    (λ ge. none (subst (λ (k : Moment). IsBefore k m) (sym is_first) (inr (omega (arith, ints, ge, i.date.0), inl (omega (arith, ints, later)))))))
    (λ start.
    by_lt_z (neg_ℤ (pos 95_746_129)) m.date (λ lt. none (subst (λ (k : Moment). IsBefore k m) (sym is_first) (inl lt)))
    (λ ge.
    let zero : TimeOfDay = time_at 0 0 0 0 in
    let date : m.date ≡ neg_ℤ (pos 95_746_129) = omega (arith, ints, ge, i.date.0) in
    let second : m.time.second ≡ 0 = omega (arith, ints, start) in
    let one : m ≡ first =
    ap (λ n. moment n m.time) date ∙ ap (λ (n : ℕ). moment (neg_ℤ (pos 95_746_129)) (record { second = n; fraction = m.time.fraction })) second
    ∙ ap (λ (n : ℕ). moment (neg_ℤ (pos 95_746_129)) (record { second = 0; fraction = n })) (due_fraction s m due) ∙ sym is_first in
    both_ways (is_due s first) not (ap (is_due s) (sym one) ∙ due)))

-- ---- the search back

before_midnight : (t : TimeOfDay) → IsTime t → t.fraction ≡ 0 → IsEarlier t (time_at 23 59 59 999_999_999)
before_midnight t i whole =
    by_lt_z (pos t.second) (pos 86_399) (λ lt. inl (omega (arith, ints, lt))) (λ ge. inr (omega (arith, ints, ge, i.second), omega (arith, whole)))

pub fires_last : (s : FieldSets) (ahead : ℤ → ℤ) (p : Policy) (end : ℤ) (m : Moment) (found : Option ℤ) → end ≤ℤ pos 8_210_266_876_800 → IsMoment m → is_due s m ≡ true → IsLastIn (TakesDated p ahead (epoch_second m)) end found → IfSome found (λ c. (c <ℤ end) × Fires s ahead p c)
fires_last s ahead p end m None high exists due h = tt
fires_last s ahead p end m (Some x) high exists due h =
    (h.1, fires_by s ahead p m x (h.2, omega (arith, ints, high, h.1)) exists due h.0)

last_covers : (s : FieldSets) (ahead : ℤ → ℤ) (p : Policy) (end : ℤ) (m local : Moment) (found : Option ℤ) (u : ℤ) → IsLastIn (TakesDated p ahead (epoch_second local)) end found → FiresFor s ahead p m u → epoch_second m ≡ epoch_second local → u <ℤ end → IsAtMost found u
last_covers s ahead p end m local None u h f same before =
    omega (arith, ints, h u (taken s ahead p m local u f same) before, f.instant.utc.0)
last_covers s ahead p end m local (Some x) u h f same before = h.3 u (taken s ahead p m local u f same) before

-- each local time from `local` on has been seen
from_on : (s : FieldSets) (ahead : ℤ → ℤ) (p : Policy) (end : ℤ) (local : Moment) (best found result : Option ℤ) → CoversBehind s ahead p end (epoch_second local) best → IsLastIn (TakesDated p ahead (epoch_second local)) end found → ((u : ℤ) → IsAtMost best u ⊎ IsAtMost found u → IsAtMost result u) → (m : Moment) (u : ℤ) → FiresFor s ahead p m u → epoch_second local ≤ℤ epoch_second m → u <ℤ end → IsAtMost result u
from_on s ahead p end local best found result covers last join m u f high before =
    by_lt_z (epoch_second local) (epoch_second m) (λ lt. join u (inl (covers m u f lt before)))
    (λ ge. join u (inr (last_covers s ahead p end m local found u last f (omega (arith, ints, high, ge)) before)))

pub covers_previous : (s : FieldSets) (ahead : ℤ → ℤ) (p : Policy) (end : ℤ) (local earlier : Moment) (best found result : Option ℤ) → IsMoment local → IsMoment earlier → CoversBehind s ahead p end (epoch_second local) best → IsLastIn (TakesDated p ahead (epoch_second local)) end found → ((u : ℤ) → IsAtMost best u ⊎ IsAtMost found u → IsAtMost result u) → NotDueBetween s earlier local → CoversBehind s ahead p end (epoch_second earlier) result
covers_previous s ahead p end local earlier best found result i j covers last join none = λ m u f gt before.
    by_lt_z (epoch_second m) (epoch_second local)
    (λ lt. absurd (both_ways (is_due s m) (none m f.exists (earlier_second earlier m j f.exists gt) (earlier_second m local f.exists i lt)) f.due))
    (λ ge. from_on s ahead p end local best found result covers last join m u f ge before)

pub covers_all_behind : (s : FieldSets) (ahead : ℤ → ℤ) (p : Policy) (end : ℤ) (local : Moment) (best found result : Option ℤ) → IsMoment local → CoversBehind s ahead p end (epoch_second local) best → IsLastIn (TakesDated p ahead (epoch_second local)) end found → ((u : ℤ) → IsAtMost best u ⊎ IsAtMost found u → IsAtMost result u) → NotDueBefore s local → (u : ℤ) → u <ℤ end → Fires s ahead p u → IsAtMost result u
covers_all_behind s ahead p end local best found result i covers last join none = λ u before f.
    by_lt_z (epoch_second f.planned) (epoch_second local)
    (λ lt. absurd (both_ways (is_due s f.planned) (none f.planned f.exists (earlier_second f.planned local f.exists i lt)) f.due))
    (λ ge. from_on s ahead p end local best found result covers last join f.planned u (fires_for s ahead p u f) ge before)

-- the search may end where no earlier local time fires later than what it found
pub covers_far_behind : (s : FieldSets) (ahead : ℤ → ℤ) (p : Policy) (end l : ℤ) (best : Option ℤ) → CoversBehind s ahead p end l best → IsSomeAnd best (λ c. (m : Moment) (u : ℤ) → FiresFor s ahead p m u → epoch_second m ≤ℤ l → u <ℤ end → u ≤ℤ c) → (u : ℤ) → u <ℤ end → Fires s ahead p u → IsAtMost best u
covers_far_behind s ahead p end l None covers far u before f = absurd far
covers_far_behind s ahead p end l (Some c) covers far u before f =
    by_lt_z l (epoch_second f.planned) (λ gt. covers f.planned u (fires_for s ahead p u f) gt before)
    (λ le. far f.planned u (fires_for s ahead p u f) le before)

-- where it begins: behind all that the clock shows before the end, or at the end of the calendar
pub none_behind : (s : FieldSets) (ahead : ℤ → ℤ) (p : Policy) (end : ℤ) (k last : Moment) → ((u : ℤ) → u <ℤ end → (u +ℤ ahead u) <ℤ epoch_second k) → IsMoment k → NotDueBetween s last k → (m : Moment) (u : ℤ) → FiresFor s ahead p m u → IsBefore last m → end ≤ℤ u
none_behind s ahead p end k last unshown i none m u f behind =
    by_lt_z (epoch_second m) (epoch_second k)
    (λ lt. absurd (both_ways (is_due s m) (none m f.exists behind (earlier_second m k f.exists i lt)) f.due))
    (λ ge. by_lt_z u end (λ before. absurd (omega (arith, ints, ge, unshown u before, reached p ahead (epoch_second m) u f.takes))) (λ past. past))

pub none_up_to : (s : FieldSets) (ahead : ℤ → ℤ) (p : Policy) (end : ℤ) (k : Moment) → ((u : ℤ) → u <ℤ end → (u +ℤ ahead u) <ℤ epoch_second k) → IsMoment k → NotDueBefore s k → (m : Moment) (u : ℤ) → FiresFor s ahead p m u → end ≤ℤ u
none_up_to s ahead p end k unshown i none m u f =
    by_lt_z (epoch_second m) (epoch_second k)
    (λ lt. absurd (both_ways (is_due s m) (none m f.exists (earlier_second m k f.exists i lt)) f.due))
    (λ ge. by_lt_z u end (λ before. absurd (omega (arith, ints, ge, unshown u before, reached p ahead (epoch_second m) u f.takes))) (λ past. past))

-- in the two days before an end the clock has two offsets at most, up to its last second
pub two_offsets : (ahead : ℤ → ℤ) (end from change until bound : ℤ) → ((v : ℤ) → IsOffset (ahead v)) → from ≡ (end -ℤ pos 172_800) → HoldsUntil ahead from change → HoldsUntil ahead change until → end ≤ℤ until → (end +ℤ ahead from) ≤ℤ bound → (end +ℤ ahead change) ≤ℤ bound → (u : ℤ) → u <ℤ end → (u +ℤ ahead u) <ℤ bound
two_offsets ahead end from change until bound offsets begun holds then long one other u before =
    by_lt_z u from
    (λ early. omega (arith, ints, early, begun, one, near (ahead u) (offsets u), near (ahead from) (offsets from)))
    (λ late. by_lt_z u change
    (λ lt. omega (arith, ints, before, one, holds u late lt))
    (λ ge. omega (arith, ints, before, other, then u ge (omega (arith, ints, before, long)))))

pub one_offset_before : (ahead : ℤ → ℤ) (end from until bound : ℤ) → ((v : ℤ) → IsOffset (ahead v)) → from ≡ (end -ℤ pos 172_800) → HoldsUntil ahead from until → end ≤ℤ until → (end +ℤ ahead from) ≤ℤ bound
    → (u : ℤ) → u <ℤ end → (u +ℤ ahead u) <ℤ bound
one_offset_before ahead end from until bound offsets begun holds long one u before =
    by_lt_z u from
    (λ early. omega (arith, ints, early, begun, one, near (ahead u) (offsets u), near (ahead from) (offsets from)))
    (λ late. omega (arith, ints, before, one, holds u late (omega (arith, ints, before, long))))

pub within_day : (ahead : ℤ → ℤ) (end bound : ℤ) → ((v : ℤ) → IsOffset (ahead v)) → bound ≡ (end +ℤ pos 86_400) → (u : ℤ) → u <ℤ end → (u +ℤ ahead u) <ℤ bound
within_day ahead end bound offsets is u before = omega (arith, ints, is, before, near (ahead u) (offsets u))

-- each local time that is planned comes before the end of the calendar
pub before_last : (s : FieldSets) (m last : Moment) → last ≡ moment (pos 95_745_399) (time_at 23 59 59 999_999_999) → IsMoment m → is_due s m ≡ true → IsBefore m last
before_last s m last is i due =
    subst (λ (k : Moment). IsBefore m k) (sym is)
    (by_lt_z m.date (pos 95_745_399) (λ lt. inl lt)
    (λ ge.
    let date : m.date ≡ pos 95_745_399 = omega (arith, ints, ge, i.date.1) in
    inr (date, before_midnight m.time i.time (due_fraction s m due))))

-- ---- at an instant

-- a later local time of the same gap fires there too
later_in_gap : (gap : Gap) (ahead : ℤ → ℤ) (l k u : ℤ) → l ≤ℤ k → k <ℤ (u +ℤ ahead u) → TakesSkipped gap ahead l u → TakesSkipped gap ahead k u
later_in_gap Skip ahead l k u low high h = h
later_in_gap FirstAfter ahead l k u low high h = record { later = high; skipped = λ j from end. h.skipped j (omega (arith, ints, low, from)) end; first = h.first }
later_in_gap FirstAfterShort ahead l k u low high h =
    (record { later = high; skipped = λ j from end. h.0.skipped j (omega (arith, ints, low, from)) end; first = h.0.first }, h.1)

-- what fires at u is planned for what the clock shows there, or for an earlier time that it skipped
pub planned_now : (s : FieldSets) (ahead : ℤ → ℤ) (p : Policy) (local : Moment) (u : ℤ) → IsMoment local → local.time.fraction ≡ 0 → epoch_second local ≡ (u +ℤ ahead u) → (f : Fires s ahead p u)
    → ((is_due s local ≡ true) × TakesDated p ahead (epoch_second local) u) ⊎ (TakesSkipped p.gap ahead (epoch_second f.planned) u × IsBefore f.planned local)
planned_now s ahead p local u i whole is f =
    ⊎_elim
    (λ h.
    let same : epoch_second f.planned ≡ epoch_second local = sym (shown p.fold ahead (epoch_second f.planned) u h) ∙ sym is in
    let one : f.planned ≡ local = one_moment f.planned local f.exists.time i.time same (due_fraction s f.planned f.due ∙ sym whole) in
    inl (ap (is_due s) (sym one) ∙ f.due, taken s ahead p f.planned local u (fires_for s ahead p u f) same))
    (λ h.
    inr (h, earlier_second f.planned local f.exists i (subst (λ (l : ℤ). epoch_second f.planned <ℤ l) (sym is) (behind p.gap ahead (epoch_second f.planned) u h).later)))
    f.takes

-- and so for the last that is planned before it
pub planned_before : (s : FieldSets) (ahead : ℤ → ℤ) (p : Policy) (local earlier : Moment) (u : ℤ) → IsMoment local → IsMoment earlier → IsBefore earlier local → local.time.fraction ≡ 0 → epoch_second local ≡ (u +ℤ ahead u) → NotDueBetween s earlier local → (f : Fires s ahead p u) → TakesSkipped p.gap ahead (epoch_second f.planned) u → IsBefore f.planned local → TakesDated p ahead (epoch_second earlier) u
planned_before s ahead p local earlier u i j before whole is none f skipped sooner =
    let low : epoch_second f.planned ≤ℤ epoch_second earlier = by_lt_z (epoch_second earlier) (epoch_second f.planned) (λ gt. absurd (both_ways (is_due s f.planned) (none f.planned f.exists (earlier_second earlier f.planned j f.exists gt) sooner) f.due)) (λ le. le) in
    let high : epoch_second earlier <ℤ (u +ℤ ahead u) = subst (λ (l : ℤ). epoch_second earlier <ℤ l) is (later_second earlier local j before whole) in
    ((f.instant.local, f.instant.near), inr (later_in_gap p.gap ahead (epoch_second f.planned) (epoch_second earlier) u low high skipped))

-- ---- the public calls

pub due_by : (s : FieldSets) (ahead : ℤ → ℤ) (p : Policy) (m : Moment) (u : ℤ) {U : ℤ} (found : MappedLocalTime ℤ) → AreAll (TakesDated p ahead (epoch_second m)) (λ x. x) found → IsAmong U found → U ≡ u → IsEpochSecond u → IsMoment m → is_due s m ≡ true → Fires s ahead p u
due_by s ahead p m u {U} found all is_among is date j due =
    fires_by s ahead p m u date j due (subst (λ (x : ℤ). TakesDated p ahead (epoch_second m) x) is ((among (TakesDated p ahead (epoch_second m)) found U all).0 is_among))

-- a date-time of the zone is at each instant at which a schedule fires
pub exists_there : (s : FieldSets) (ahead : ℤ → ℤ) (p : Policy) (X x : ℤ) → X ≡ x → Fires s ahead p x → IsEpochSecond X × FractionFits (second_of_minute X) 0 × IsEpochSecond (X +ℤ ahead X)
exists_there s ahead p X x is f =
    subst (λ (y : ℤ). IsEpochSecond y × FractionFits (second_of_minute y) 0 × IsEpochSecond (y +ℤ ahead y)) (sym is)
    (f.instant.utc, (omega arith, λ leap. absurd (omega (arith, leap))), f.instant.local)
