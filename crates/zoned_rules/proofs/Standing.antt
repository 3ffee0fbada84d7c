-- Which instant a local time stands for: one at most, less than a day from it.
use Rattle.std.proofs.Common.{◌≡◌, inl, inr, ℤ, pos, ◌+ℤ◌, ◌-ℤ◌, ◌≤ℤ◌, ◌<ℤ◌, ⊎_elim, IfSome, IfNone, arith, ap, refl, sym, ◌∙◌}
use Rattle.std.proofs.lemmas.Int.{by_lt_z, ints}
use Rattle.chrono_instant.specs.Offsets.{IsOffset}
use Rattle.chrono_zoned.specs.declared.mapped_local_time.MappedLocalTime.{MappedLocalTime}
use Rattle.chrono_zoned.specs.declared.mapped_local_time.MappedLocalTime.TheVariants.{None as NoInstant, Single, Ambiguous}
use Rattle.chrono_zoned.specs.Zones.{HoldsUntil, IsMapped, Shows, earliest_of}
use Rattle.chrono_zoned.proofs.SecondSums.{near}
use Rattle.zoned_rules.specs.LocalInstants.{IsFirstOccurrence, IsInstantOf, IsSetPast}
use Rattle.zoned_rules.specs.Private.{IsOffsetBefore}

-- each offset of a clock is
abbrev pub AreOffsets : (ℤ → ℤ) → Type 0
AreOffsets ahead = (v : ℤ) → IsOffset (ahead v)

-- the clock never shows l
abbrev pub IsNever : (ℤ → ℤ) → ℤ → Type 0
IsNever ahead l = (v : ℤ) → ¬ Shows ahead l v

-- ---- a local time stands for one instant

one_change : (ahead : ℤ → ℤ) (l s t : ℤ) → IsSetPast ahead l s → IsSetPast ahead l t → s ≡ t
one_change ahead l s t p q =
    by_lt_z s t (λ lt. absurd (omega (arith, ints, q.earlier s lt, p.later)))
    (λ le. by_lt_z t s (λ lt. absurd (omega (arith, ints, p.earlier t lt, q.later))) (λ ge. omega (arith, ints, le, ge)))

pub stands_once : (ahead : ℤ → ℤ) (l u v : ℤ) → IsInstantOf ahead l u → IsInstantOf ahead l v → u ≡ v
stands_once ahead l u v (inl a) (inl b) = omega (arith, ints, a.first v b.shown, b.first u a.shown)
stands_once ahead l u v (inl a) (inr b) = absurd (b.skipped u a.shown)
stands_once ahead l u v (inr a) (inl b) = absurd (a.skipped v b.shown)
stands_once ahead l u v (inr a) (inr b) =
    let same : a.change ≡ b.change = one_change ahead l a.change b.change a.past b.past in
    let offset : ahead (a.change -ℤ pos 1) ≡ ahead (b.change -ℤ pos 1) = ap (λ (t : ℤ). ahead (t -ℤ pos 1)) same in
    omega (arith, ints, a.by, b.by, offset)

-- less than a day from it
pub stands_near : (ahead : ℤ → ℤ) (l u : ℤ) → AreOffsets ahead → IsInstantOf ahead l u → ((l -ℤ pos 86_400) <ℤ u) × (u <ℤ (l +ℤ pos 86_400))
stands_near ahead l u offsets (inl h) =
    let o = near (ahead u) (offsets u) in
    (omega (arith, ints, h.shown, o.1), omega (arith, ints, h.shown, o.0))
stands_near ahead l u offsets (inr h) =
    let o = near (ahead (h.change -ℤ pos 1)) (offsets (h.change -ℤ pos 1)) in
    (omega (arith, ints, h.by, o.1), omega (arith, ints, h.by, o.0))

-- ---- the offset that leads to it

pub first_found : (ahead : ℤ → ℤ) (l : ℤ) (found : MappedLocalTime ℤ) → IsMapped ahead l found → IfSome (earliest_of found) (λ o. IsFirstOccurrence ahead l (l -ℤ o))
first_found ahead l NoInstant h = tt
first_found ahead l (Single x) h = record {
  shown = (h (l -ℤ x)).1 refl;
  first = λ v shows. omega (arith, ints, (h v).0 shows);
}
first_found ahead l (Ambiguous x y) h = record {
  shown = (h.1 (l -ℤ x)).1 (inl refl);
  first = λ v shows. ⊎_elim (λ e. omega (arith, ints, e)) (λ e. omega (arith, ints, e, h.0)) ((h.1 v).0 shows);
}

pub none_found : (ahead : ℤ → ℤ) (l : ℤ) (found : MappedLocalTime ℤ) → IsMapped ahead l found → IfNone (earliest_of found) (IsNever ahead l)
none_found ahead l NoInstant h = h
none_found ahead l (Single x) h = tt
none_found ahead l (Ambiguous x y) h = tt

pub by_offset : (ahead : ℤ → ℤ) (l o u : ℤ) → IsNever ahead l → IsOffsetBefore ahead l o → u ≡ (l -ℤ o) → IsInstantOf ahead l u
by_offset ahead l o u skipped h is = inr (record {
  skipped = skipped;
  change = h.change;
  past = h.past;
  by = omega (arith, ints, is, h.offset);
})

-- ---- the walk up to a gap

-- before `end` the clock shows earlier seconds than l, and the last of them by the offset o
pub record IsWalked (ahead : ℤ → ℤ) (l end o : ℤ) : Type 0 where
  pub begun : (l -ℤ pos 86_400) <ℤ end
  pub within : end ≤ℤ (l +ℤ pos 86_400)
  pub earlier : (v : ℤ) → v <ℤ end → (v +ℤ ahead v) <ℤ l
  pub offset : o ≡ ahead (end -ℤ pos 1)

-- a stretch that begins with an earlier second has no later one, for else it would show l
stays_before : (ahead : ℤ → ℤ) (l from until v : ℤ) → IsNever ahead l → HoldsUntil ahead from until → (from +ℤ ahead from) <ℤ l → from ≤ℤ v → v <ℤ until → (v +ℤ ahead v) <ℤ l
stays_before ahead l from until v skipped holds before le lt =
    by_lt_z (v +ℤ ahead v) l (λ h. h)
    (λ ge.
    let same : ahead v ≡ ahead from = holds v le lt in
    let at : ahead (l -ℤ ahead from) ≡ ahead from = holds (l -ℤ ahead from) (omega (arith, ints, before)) (omega (arith, ints, ge, same, lt)) in
    absurd (skipped (l -ℤ ahead from) (omega (arith, ints, at))))

pub goes_on : (ahead : ℤ → ℤ) (l from until end o : ℤ) → IsNever ahead l → HoldsUntil ahead from until → ((v : ℤ) → v <ℤ from → (v +ℤ ahead v) <ℤ l) → (from +ℤ ahead from) <ℤ l → from <ℤ end → end ≤ℤ until → (l -ℤ pos 86_400) ≤ℤ from → end ≤ℤ (l +ℤ pos 86_400) → o ≡ ahead from → IsWalked ahead l end o
goes_on ahead l from until end o skipped holds earlier before lt le low high is = record {
  begun = omega (arith, ints, low, lt);
  within = high;
  earlier = λ v early.
      by_lt_z v from (λ old. earlier v old)
      (λ new. stays_before ahead l from until v skipped holds before new (omega (arith, ints, early, le)));
  offset = is ∙ sym (holds (end -ℤ pos 1) (omega (arith, ints, lt)) (omega (arith, ints, le)));
}

-- a day before l the clock shows earlier seconds
pub early_shown : (ahead : ℤ → ℤ) (l v : ℤ) → AreOffsets ahead → v ≤ℤ (l -ℤ pos 86_400) → (v +ℤ ahead v) <ℤ l
early_shown ahead l v offsets le = let o = near (ahead v) (offsets v) in omega (arith, ints, le, o.1)

pub walk_begins : (ahead : ℤ → ℤ) (l from until end o : ℤ) → AreOffsets ahead → IsNever ahead l → from ≡ (l -ℤ pos 86_400) → HoldsUntil ahead from until → from <ℤ end → end ≤ℤ until → end ≤ℤ (l +ℤ pos 86_400) → o ≡ ahead from → IsWalked ahead l end o
walk_begins ahead l from until end o offsets skipped at holds lt le high is =
    goes_on ahead l from until end o skipped holds (λ v early. early_shown ahead l v offsets (omega (arith, ints, at, early)))
    (early_shown ahead l from offsets (omega (arith, ints, at))) lt le (omega (arith, ints, at)) high is

pub walk_goes_on : (ahead : ℤ → ℤ) (l from until end o old : ℤ) → IsNever ahead l → IsWalked ahead l from old → HoldsUntil ahead from until → (from +ℤ ahead from) <ℤ l → from <ℤ end → end ≤ℤ until → end ≤ℤ (l +ℤ pos 86_400) → o ≡ ahead from → IsWalked ahead l end o
walk_goes_on ahead l from until end o old skipped h holds before lt le high is =
    goes_on ahead l from until end o skipped holds h.earlier before lt le (omega (arith, ints, h.begun)) high is

pub walk_ends : (ahead : ℤ → ℤ) (l end o : ℤ) → IsNever ahead l → IsWalked ahead l end o → l ≤ℤ (end +ℤ ahead end) → IsOffsetBefore ahead l o
walk_ends ahead l end o skipped h past = record {
  change = end;
  past = record {
    earlier = h.earlier;
    later = by_lt_z l (end +ℤ ahead end) (λ lt. lt) (λ ge. absurd (skipped end (omega (arith, ints, past, ge))));
  };
  offset = h.offset;
}

pub shorter : (ahead : ℤ → ℤ) (l v : ℤ) → IsOffset (ahead v) → (v +ℤ ahead v) <ℤ l → v <ℤ (l +ℤ pos 86_400)
shorter ahead l v offset lt = let o = near (ahead v) offset in omega (arith, ints, lt, o.0)
