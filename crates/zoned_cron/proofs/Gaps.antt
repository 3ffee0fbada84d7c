-- The search for the end of a gap: of the local seconds behind it that the clock shows, the first.
use Rattle.std.proofs.Common.{◌≡◌, ◌⊎◌, ⊎_elim, inl, inr, ℤ, pos, ◌+ℤ◌, ◌-ℤ◌, ◌≤ℤ◌, ◌<ℤ◌, ◌<◌, unsigned_abs, arith, subst, sym}
use Rattle.std.proofs.lemmas.Int.{by_lt_z, ints}
use Rattle.chrono_datetime.proofs.Signed.{casts}
use Rattle.chrono_instant.specs.Offsets.{IsOffset}
use Rattle.chrono_zoned.specs.Zones.{HoldsUntil}
use Rattle.chrono_zoned.proofs.SecondSums.{near}
use Rattle.zoned_cron.specs.Fires.{IsFirst, IsGap}
use Rattle.zoned_cron.proofs.Instants.{AreGaps}

-- of the instants before `end` at which the clock shows a second behind the gap, it shows the least at `first`, and at none before that: `least`
pub record IsLeastShown (ahead : ℤ → ℤ) (gap end first least : ℤ) : Type 0 where
  pub begun : (gap -ℤ pos 86_400) ≤ℤ end
  pub sooner : first ≤ℤ end
  pub later : gap <ℤ least
  pub most : least ≤ℤ (gap +ℤ pos 259_200)
  pub shows : ((first +ℤ ahead first) ≡ least) ⊎ (least ≡ (gap +ℤ pos 259_200))
  pub seen : (v : ℤ) → v <ℤ end → gap <ℤ (v +ℤ ahead v) → least ≤ℤ (v +ℤ ahead v)
  pub tie : (v : ℤ) → v <ℤ end → (v +ℤ ahead v) ≡ least → first ≤ℤ v

-- before the end of the stretch that holds a day before the gap it shows none
pub starts : (ahead : ℤ → ℤ) (gap from until end first least : ℤ) → ((v : ℤ) → IsOffset (ahead v)) → IsGap ahead gap → from ≡ (gap -ℤ pos 86_400) → HoldsUntil ahead from until → from <ℤ end → end ≤ℤ until → first ≡ end → least ≡ (gap +ℤ pos 259_200) → IsLeastShown ahead gap end first least
starts ahead gap from until end first least offsets skipped is holds begun within is_first is_least =
    let none : (v : ℤ) → v <ℤ end → gap <ℤ (v +ℤ ahead v) → ⊥ = λ v lt more.
    by_lt_z v from (λ early. omega (arith, ints, is, early, more, near (ahead v) (offsets v)))
    (λ late.
    let same : ahead v ≡ ahead from = holds v late (omega (arith, ints, lt, within)) in
    let o = near (ahead from) (offsets from) in
    let at : ahead (gap -ℤ ahead from) ≡ ahead from = holds (gap -ℤ ahead from) (omega (arith, ints, is, o)) (omega (arith, ints, more, same, lt, within)) in
    skipped (gap -ℤ ahead from) (omega (arith, ints, at))) in
    record {
      begun = omega (arith, ints, is, begun);
      sooner = omega (arith, ints, is_first);
      later = omega (arith, ints, is_least);
      most = omega (arith, ints, is_least);
      shows = inr is_least;
      seen = λ v lt more. absurd (none v lt more);
      tie = λ v lt same. absurd (none v lt (omega (arith, ints, is_least, same)));
    }

-- the same by other names
pub renamed : (ahead : ℤ → ℤ) (gap end first least one other : ℤ) → one ≡ first → other ≡ least → IsLeastShown ahead gap end first least → IsLeastShown ahead gap end one other
renamed ahead gap end first least one other is_first is_least h =
    subst (λ (x : ℤ). IsLeastShown ahead gap end x other) (sym is_first) (subst (λ (x : ℤ). IsLeastShown ahead gap end first x) (sym is_least) h)

pub fewer : (gap end next : ℤ) → end <ℤ next → next ≤ℤ (gap +ℤ pos 432_000) → unsigned_abs (gap +ℤ pos 432_000 -ℤ next) < unsigned_abs (gap +ℤ pos 432_000 -ℤ end)
fewer gap end next lt le = omega (arith, casts, lt, le)

-- a stretch that begins behind the gap shows its first second at its beginning
pub goes_lower : (ahead : ℤ → ℤ) (gap end first least until next local : ℤ) → IsLeastShown ahead gap end first least → HoldsUntil ahead end until → next ≤ℤ until → end <ℤ next → local ≡ (end +ℤ ahead end) → gap <ℤ local → local <ℤ least → IsLeastShown ahead gap next end local
goes_lower ahead gap end first least until next local h holds le lt is later lower = record {
  begun = omega (arith, ints, h.begun, lt);
  sooner = omega (arith, ints, lt);
  later = later;
  most = omega (arith, ints, lower, h.most);
  shows = inl (sym is);
  seen = λ v before more.
      by_lt_z v end (λ old. omega (arith, ints, lower, h.seen v old more))
      (λ new. omega (arith, ints, is, new, holds v new (omega (arith, ints, before, le))));
  tie = λ v before same.
      by_lt_z v end (λ old. absurd (omega (arith, ints, lower, same, h.seen v old (omega (arith, ints, same, later))))) (λ new. new);
}

-- one that begins in front of it ends there, and one that shows more changes nothing
pub goes_by : (ahead : ℤ → ℤ) (gap end first least until next local : ℤ) → IsGap ahead gap → IsLeastShown ahead gap end first least → HoldsUntil ahead end until → next ≤ℤ until → end <ℤ next → local ≡ (end +ℤ ahead end) → (local ≤ℤ gap) ⊎ (least ≤ℤ local) → IsLeastShown ahead gap next first least
goes_by ahead gap end first least until next local skipped h holds le lt is other = record {
  begun = omega (arith, ints, h.begun, lt);
  sooner = omega (arith, ints, h.sooner, lt);
  later = h.later;
  most = h.most;
  shows = h.shows;
  seen = λ v before more.
      by_lt_z v end (λ old. h.seen v old more)
      (λ new.
      let same : ahead v ≡ ahead end = holds v new (omega (arith, ints, before, le)) in
      ⊎_elim
      (λ low.
      let at : ahead (gap -ℤ ahead end) ≡ ahead end = holds (gap -ℤ ahead end) (omega (arith, ints, low, is)) (omega (arith, ints, more, same, before, le)) in
      absurd (skipped (gap -ℤ ahead end) (omega (arith, ints, at))))
      (λ high. omega (arith, ints, high, is, same, new)) other);
  tie = λ v before same_least.
      by_lt_z v end (λ old. h.tie v old same_least) (λ new. omega (arith, ints, h.sooner, new));
}

-- at the end nothing is left to see
pub all_seen : (ahead : ℤ → ℤ) (gap end first least : ℤ) → ((v : ℤ) → IsOffset (ahead v)) → IsLeastShown ahead gap end first least → (least +ℤ pos 86_400) ≤ℤ end → (v : ℤ) → gap <ℤ (v +ℤ ahead v) → least ≤ℤ (v +ℤ ahead v)
all_seen ahead gap end first least offsets h far v more =
    by_lt_z v end (λ old. h.seen v old more) (λ new. omega (arith, ints, far, new, near (ahead v) (offsets v)))

pub is_shown_first : (ahead : ℤ → ℤ) (gap end first least : ℤ) → ((v : ℤ) → IsOffset (ahead v)) → IsLeastShown ahead gap end first least → (least +ℤ pos 86_400) ≤ℤ end → IsFirst ahead least first
is_shown_first ahead gap end first least offsets h far =
    let there = near (ahead (gap +ℤ pos 86_400)) (offsets (gap +ℤ pos 86_400)) in
    let bound = all_seen ahead gap end first least offsets h far (gap +ℤ pos 86_400) (omega (arith, ints, there)) in (
      ⊎_elim (λ is. is) (λ no. absurd (omega (arith, ints, no, bound, there))) h.shows,
      λ v shows. by_lt_z v end (λ old. h.tie v old shows) (λ new. omega (arith, ints, h.sooner, new)),
    )

pub are_skipped : (ahead : ℤ → ℤ) (gap end first least : ℤ) → ((v : ℤ) → IsOffset (ahead v)) → IsGap ahead gap → IsLeastShown ahead gap end first least → (least +ℤ pos 86_400) ≤ℤ end → AreGaps ahead gap least
are_skipped ahead gap end first least offsets skipped h far j low high v shows =
    by_lt_z gap j
    (λ lt. absurd (omega (arith, ints, high, shows, all_seen ahead gap end first least offsets h far v (omega (arith, ints, lt, shows)))))
    (λ le. skipped v (omega (arith, ints, shows, low, le)))
