-- Laws of what fires.
use Rattle.std.proofs.Common.{◌≡◌, ◌↔◌, ◌⊎◌, ⊎_elim, inl, inr, true, ℕ, zero, suc, ℤ, pos, neg_ℤ, ◌+ℤ◌, ◌-ℤ◌, ◌≤ℤ◌, ◌<ℤ◌, unsigned_abs, arith, refl, subst, sym}
use Rattle.std.proofs.lemmas.Int.{by_lt_z, ints}
use Rattle.chrono_datetime.specs.Moment.{IsMoment, Moment}
use Rattle.chrono_instant.specs.Instants.{IsEpochSecond, epoch_second}
use Rattle.chrono_datetime.proofs.Signed.{casts}
use Rattle.chrono_instant.specs.Offsets.{IsOffset, moment_ahead}
use Rattle.chrono_instant.proofs.InstantLemmas.{IsMoment-second, IsTime-ahead, epoch_second-ahead}
use Rattle.chrono_zoned.specs.declared.mapped_local_time.MappedLocalTime.{MappedLocalTime}
use Rattle.chrono_zoned.specs.declared.mapped_local_time.MappedLocalTime.TheVariants.{None as NoInstant, Single, Ambiguous}
use Rattle.chrono_zoned.specs.KnownZones.{set_ahead, set_back}
use Rattle.chrono_zoned.specs.Zones.{IsMapped, IsOnly, Shows}
use Rattle.chrono_zoned.proofs.OneChangeLemmas.{ChangesOnce-set_ahead, ChangesOnce-set_back, never, once_late, twice}
use Rattle.chrono_zoned.proofs.SecondSums.{near}
use Rattle.chrono_cron.specs.declared.field_sets.FieldSets.{FieldSets}
use Rattle.chrono_cron.specs.Due.{is_due}
use Rattle.zoned_cron.specs.declared.policy.Fold.{Fold}
use Rattle.zoned_cron.specs.declared.policy.Fold.TheVariants.{Both, Earlier, EarlierOfShort, Later}
use Rattle.zoned_cron.specs.declared.policy.Policy.{Policy}
use Rattle.zoned_cron.specs.Fires.{FiresAt, IsBehindGap, IsFirst, IsGap, IsInstant, Takes, TakesShown, as_shown, once_each}
use Rattle.zoned_cron.proofs.Instants.{AreGaps, AreTwo-mapped, behind, first_of_two, in_gap, last_of_two, late_of_two, only_taken}
use Rattle.zoned_cron.proofs.Windows.{planned_now}

-- ---- a zone of one offset

only_there : (x u : ℤ) → IsOnly (Shows (λ (_ : ℤ). x) (u +ℤ x)) u
only_there x u = λ v. (λ e. omega (arith, ints, e), λ e. omega (arith, ints, e))

pub one_offset : (s : FieldSets) (p : Policy) (x : ℤ) (m : Moment) → IsMoment m → m.time.fraction ≡ 0 → IsInstant (λ (_ : ℤ). x) (epoch_second m) → FiresAt s (λ (_ : ℤ). x) p m ↔ (is_due s (moment_ahead m x) ≡ true)
one_offset s p x m i whole instant =
    let u = epoch_second m in
    let local = moment_ahead m x in
    let shows : epoch_second local ≡ (u +ℤ x) = epoch_second-ahead m x in
    let date : IsEpochSecond (epoch_second local) = subst (λ (l : ℤ). IsEpochSecond l) (sym shows) instant.local in
    let exists : IsMoment local = IsMoment-second local (IsTime-ahead m x i.time) date in (
      λ fires.
          ⊎_elim (λ now. now.0)
          (λ skipped. absurd (in_gap (λ (_ : ℤ). x) (epoch_second fires.1.planned) u (behind p.gap (λ (_ : ℤ). x) (epoch_second fires.1.planned) u skipped.0) (epoch_second fires.1.planned -ℤ x) (omega (arith, ints))))
          (planned_now s (λ (_ : ℤ). x) p local u exists whole shows fires.1),
      λ due. (
        whole,
        record {
          instant = instant;
          planned = local;
          exists = exists;
          due = due;
          takes = inl (subst (λ (l : ℤ). TakesShown p.fold (λ (_ : ℤ). x) l u) (sym shows) (only_taken p.fold (λ (_ : ℤ). x) (u +ℤ x) u (only_there x u)));
        },
      ),
    )

-- ---- once each

behind_once : (ahead : ℤ → ℤ) (l u v : ℤ) → IsBehindGap ahead l u → IsBehindGap ahead l v → (u +ℤ ahead u) ≡ (v +ℤ ahead v)
behind_once ahead l u v h k =
    let low : (u +ℤ ahead u) ≤ℤ (v +ℤ ahead v) = by_lt_z (v +ℤ ahead v) (u +ℤ ahead u) (λ lt. absurd (h.skipped (v +ℤ ahead v) (omega (arith, ints, k.later)) lt v refl)) (λ ge. ge) in
    let high : (v +ℤ ahead v) ≤ℤ (u +ℤ ahead u) = by_lt_z (u +ℤ ahead u) (v +ℤ ahead v) (λ lt. absurd (k.skipped (u +ℤ ahead u) (omega (arith, ints, h.later)) lt u refl)) (λ ge. ge) in
    omega (arith, ints, low, high)

first_once : (ahead : ℤ → ℤ) (l u v : ℤ) → IsFirst ahead l u → IsFirst ahead l v → u ≡ v
first_once ahead l u v h k = omega (arith, ints, h.1 v k.0, k.1 u h.0)

pub fires_once : (ahead : ℤ → ℤ) (l u v : ℤ) → Takes once_each ahead l u → Takes once_each ahead l v → u ≡ v
fires_once ahead l u v (inl h) (inl k) = first_once ahead l u v h k
fires_once ahead l u v (inl h) (inr k) = absurd (in_gap ahead l v k u h.0)
fires_once ahead l u v (inr h) (inl k) = absurd (in_gap ahead l u h v k.0)
fires_once ahead l u v (inr h) (inr k) =
    first_once ahead (v +ℤ ahead v) u v (subst (λ (s : ℤ). IsFirst ahead s u) (behind_once ahead l u v h k) h.first) k.first

-- what one gap skips fires together
pub fires_together : (ahead : ℤ → ℤ) (l k u : ℤ) → l ≤ℤ k → ((j : ℤ) → l ≤ℤ j → j ≤ℤ k → IsGap ahead j) → Takes once_each ahead l u → Takes once_each ahead k u
fires_together ahead l k u le gaps (inl h) = absurd (gaps l (omega (arith, ints)) le u h.0)
fires_together ahead l k u le gaps (inr h) =
    let behind = h.later in
    inr (record {
      later = by_lt_z k (u +ℤ ahead u) (λ lt. lt) (λ ge. absurd (gaps (u +ℤ ahead u) (omega (arith, ints, behind)) ge u refl));
      skipped = λ j low high. h.skipped j (omega (arith, ints, le, low)) high;
      first = h.first;
    })

-- and what fires together is skipped by one gap, but for the latest
pub fires_apart : (ahead : ℤ → ℤ) (l k u : ℤ) → l ≤ℤ k → Takes once_each ahead l u → Takes once_each ahead k u → (j : ℤ) → l ≤ℤ j → j <ℤ k → IsGap ahead j
fires_apart ahead l k u le (inl h) (inl m) j low high = absurd (omega (arith, ints, h.0, m.0, low, high))
fires_apart ahead l k u le (inl h) (inr m) j low high = absurd (omega (arith, ints, h.0, m.later, le))
fires_apart ahead l k u le (inr h) (inl m) j low high = h.skipped j low (omega (arith, ints, m.0, high))
fires_apart ahead l k u le (inr h) (inr m) j low high = h.skipped j low (omega (arith, ints, m.later, high))

-- ---- and once at least

-- of n seconds in a row, the first at which the clock shows l, if it shows l at no other
first_among : (ahead : ℤ → ℤ) (l : ℤ) (n : ℕ) (from : ℤ) → ((v : ℤ) → v <ℤ from → ¬ Shows ahead l v) → ((v : ℤ) → (from +ℤ pos n) ≤ℤ v → ¬ Shows ahead l v) → IsGap ahead l ⊎ ((u : ℤ) × IsFirst ahead l u)
first_among ahead l zero from before behind = inl (λ v shows. by_lt_z v from (λ lt. before v lt shows) (λ ge. behind v (omega (arith, ints, ge)) shows))
first_among ahead l (suc n) from before behind =
    let goes_on : ¬ Shows ahead l from → IsGap ahead l ⊎ ((u : ℤ) × IsFirst ahead l u) = λ other.
    first_among ahead l n (from +ℤ pos 1)
    (λ v lt shows. by_lt_z v from (λ early. before v early shows) (λ ge. other (subst (λ (x : ℤ). Shows ahead l x) (omega (arith, ints, lt, ge)) shows)))
    (λ v ge. behind v (omega (arith, ints, ge))) in
    by_lt_z (from +ℤ ahead from) l (λ less. goes_on (λ is. omega (arith, ints, is, less)))
    (λ most. by_lt_z l (from +ℤ ahead from) (λ more. goes_on (λ is. omega (arith, ints, is, more)))
    (λ least. inr (from, (omega (arith, ints, most, least), λ v shows. by_lt_z v from (λ lt. absurd (before v lt shows)) (λ ge. ge)))))

-- the clock shows l less than a day from it, if at all
pub first_shown : (ahead : ℤ → ℤ) → ((u : ℤ) → IsOffset (ahead u)) → (l : ℤ) → IsGap ahead l ⊎ ((u : ℤ) × IsFirst ahead l u)
first_shown ahead offsets l =
    first_among ahead l 172_800 (l -ℤ pos 86_400)
    (λ v lt shows. omega (arith, ints, lt, shows, near (ahead v) (offsets v)))
    (λ v ge shows. omega (arith, ints, ge, shows, near (ahead v) (offsets v)))

ends_gap : (ahead : ℤ → ℤ) (l k u : ℤ) → l <ℤ k → AreGaps ahead l k → IsFirst ahead k u → IsBehindGap ahead l u
ends_gap ahead l k u later gaps first =
    let is : k ≡ (u +ℤ ahead u) = sym first.0 in
    record {
      later = subst (λ (x : ℤ). l <ℤ x) is later;
      skipped = subst (λ (x : ℤ). AreGaps ahead l x) is gaps;
      first = subst (λ (x : ℤ). IsFirst ahead x u) is first;
    }

one_more : (ahead : ℤ → ℤ) (l k : ℤ) → AreGaps ahead l k → IsGap ahead k → AreGaps ahead l (k +ℤ pos 1)
one_more ahead l k gaps gap = λ j low high. by_lt_z j k (λ lt. gaps j low lt) (λ ge. subst (λ (x : ℤ). IsGap ahead x) (omega (arith, ints, ge, high)) gap)

-- a gap in front of a second that the clock shows has an end
find_end : (ahead : ℤ → ℤ) → ((u : ℤ) → IsOffset (ahead u)) → (n : ℕ) (l k v : ℤ) → l <ℤ k → AreGaps ahead l k → (k +ℤ pos n) ≡ (v +ℤ ahead v) → (u : ℤ) × IsBehindGap ahead l u
find_end ahead offsets zero l k v later gaps is =
    ⊎_elim
    (λ gap. absurd (gap v (omega (arith, ints, is))))
    (λ first. (first.0, ends_gap ahead l k first.0 later gaps first.1))
    (first_shown ahead offsets k)
find_end ahead offsets (suc n) l k v later gaps is =
    ⊎_elim
    (λ gap. find_end ahead offsets n l (k +ℤ pos 1) v (omega (arith, ints, later)) (one_more ahead l k gaps gap) (omega (arith, ints, is)))
    (λ first. (first.0, ends_gap ahead l k first.0 later gaps first.1))
    (first_shown ahead offsets k)

fires_somewhere : (ahead : ℤ → ℤ) → ((u : ℤ) → IsOffset (ahead u)) → (l : ℤ) → (u : ℤ) × Takes once_each ahead l u
fires_somewhere ahead offsets l =
    ⊎_elim
    (λ gap.
    let v : ℤ = l +ℤ pos 86_400 in
    let n : ℕ = unsigned_abs (v +ℤ ahead v -ℤ (l +ℤ pos 1)) in
    let end = find_end ahead offsets n l (l +ℤ pos 1) v (omega (arith, ints)) (λ j low high. subst (λ (x : ℤ). IsGap ahead x) (omega (arith, ints, low, high)) gap) (omega (arith, casts, near (ahead v) (offsets v))) in
    (end.0, inr end.1))
    (λ first. (first.0, inl first.1))
    (first_shown ahead offsets l)

pub one_firing : (ahead : ℤ → ℤ) → ((u : ℤ) → IsOffset (ahead u)) → (l : ℤ) → (u : ℤ) × IsOnly (Takes once_each ahead l) u
one_firing ahead offsets l =
    let there = fires_somewhere ahead offsets l in
    (there.0, λ v. (λ h. fires_once ahead l v there.0 h there.1, λ e. subst (λ (x : ℤ). Takes once_each ahead l x) (sym e) there.1))

two_taken : (fold : Fold) (ahead : ℤ → ℤ) (l a b : ℤ) → IsMapped ahead l (Ambiguous a b) → (u : ℤ) × TakesShown fold ahead l u
two_taken Earlier ahead l a b h = (l -ℤ a, (first_of_two ahead l (l -ℤ a) (l -ℤ b) (l -ℤ a) (AreTwo-mapped ahead l a b (l -ℤ a) (l -ℤ b) h refl refl)).1 refl)
two_taken Later ahead l a b h = (l -ℤ b, (last_of_two ahead l (l -ℤ a) (l -ℤ b) (l -ℤ b) (AreTwo-mapped ahead l a b (l -ℤ a) (l -ℤ b) h refl refl)).1 refl)
two_taken Both ahead l a b h = (l -ℤ a, (h.1 (l -ℤ a)).1 (inl refl))
two_taken EarlierOfShort ahead l a b h = (l -ℤ a, (late_of_two ahead l (l -ℤ a) (l -ℤ b) (l -ℤ a) (AreTwo-mapped ahead l a b (l -ℤ a) (l -ℤ b) h refl refl)).1 (inl refl))

pub none_missed : (fold : Fold) (ahead : ℤ → ℤ) (l : ℤ) (found : MappedLocalTime ℤ) → IsMapped ahead l found → IsGap ahead l ⊎ ((u : ℤ) × TakesShown fold ahead l u)
none_missed fold ahead l NoInstant h = inl h
none_missed fold ahead l (Single a) h = inr (l -ℤ a, only_taken fold ahead l (l -ℤ a) h)
none_missed fold ahead l (Ambiguous a b) h = inr (two_taken fold ahead l a b h)

-- ---- known values

pub behind_gap : (l : ℤ) → pos 1_000 ≤ℤ l → l <ℤ pos 4_600 → Takes once_each set_ahead l (pos 1_000)
behind_gap l low high =
    let only = once_late set_ahead (pos 1_000) (pos 0) (pos 3_600) (pos 4_600) ChangesOnce-set_ahead (omega (arith, ints)) (omega (arith, ints)) in
    inr (record {
      later = high;
      skipped = λ j from to. never set_ahead (pos 1_000) (pos 0) (pos 3_600) j ChangesOnce-set_ahead (omega (arith, ints, low, from)) (omega (arith, ints, to));
      first = ((only (pos 1_000)).1 refl, λ v shows. omega (arith, ints, (only v).0 shows));
    })

pub gap_once : Takes once_each set_ahead (pos 2_000) (pos 1_000)
gap_once = behind_gap (pos 2_000) (omega (arith, ints)) (omega (arith, ints))

pub gap_never : (u : ℤ) → ¬ Takes as_shown set_ahead (pos 2_000) u
gap_never u h =
    ⊎_elim (λ shows. never set_ahead (pos 1_000) (pos 0) (pos 3_600) (pos 2_000) ChangesOnce-set_ahead (omega (arith, ints)) (omega (arith, ints)) u shows) (λ none. none) h

folded : IsMapped set_back (pos 2_000) (Ambiguous (pos 3_600) (pos 0))
folded = twice set_back (pos 1_000) (pos 3_600) (pos 0) (pos 2_000) ChangesOnce-set_back (omega (arith, ints)) (omega (arith, ints))

pub fold_first : Takes as_shown set_back (pos 2_000) (neg_ℤ (pos 1_600))
fold_first = inl ((folded.1 (neg_ℤ (pos 1_600))).1 (inl refl))

pub fold_second : Takes as_shown set_back (pos 2_000) (pos 2_000)
fold_second = inl ((folded.1 (pos 2_000)).1 (inr refl))

pub fold_once : Takes once_each set_back (pos 2_000) (neg_ℤ (pos 1_600))
fold_once =
    inl ((first_of_two set_back (pos 2_000) (neg_ℤ (pos 1_600)) (pos 2_000) (neg_ℤ (pos 1_600)) (AreTwo-mapped set_back (pos 2_000) (pos 3_600) (pos 0) (neg_ℤ (pos 1_600)) (pos 2_000) folded refl refl)).1 refl)

pub fold_not_again : ¬ Takes once_each set_back (pos 2_000) (pos 2_000)
fold_not_again h =
    let same : pos 2_000 ≡ neg_ℤ (pos 1_600) = fires_once set_back (pos 2_000) (pos 2_000) (neg_ℤ (pos 1_600)) h fold_once in
    absurd (omega (arith, ints, same))
