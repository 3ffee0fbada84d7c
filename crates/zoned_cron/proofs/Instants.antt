-- Which instants a planned local time takes.
use Rattle.std.proofs.Common.{true, is_some, ◌≡◌, ◌↔◌, ◌⊎◌, ⊎_elim, inl, inr, ℤ, pos, ◌+ℤ◌, ◌-ℤ◌, ◌≤ℤ◌, ◌<ℤ◌, Option, Some, None, arith, refl, subst, sym, ◌∙◌}
use Rattle.std.proofs.lemmas.Int.{by_lt_z, ints}
use Rattle.chrono_instant.specs.Instants.{IsEpochSecond}
use Rattle.chrono_instant.specs.Offsets.{IsOffset}
use Rattle.chrono_zoned.specs.declared.mapped_local_time.MappedLocalTime.{MappedLocalTime}
use Rattle.chrono_zoned.specs.declared.mapped_local_time.MappedLocalTime.TheVariants.{None as NoInstant, Single, Ambiguous}
use Rattle.chrono_zoned.specs.Zones.{AreAll, IsAmong, IsMapped, IsOnly, Shows, earliest_of}
use Rattle.zoned_cron.specs.declared.policy.Fold.{Fold}
use Rattle.zoned_cron.specs.declared.policy.Fold.TheVariants.{Both, Earlier, EarlierOfShort, Later}
use Rattle.zoned_cron.specs.declared.policy.Gap.{Gap}
use Rattle.zoned_cron.specs.declared.policy.Gap.TheVariants.{FirstAfter, FirstAfterShort, Skip}
use Rattle.zoned_cron.specs.declared.policy.Policy.{Policy}
use Rattle.zoned_cron.specs.Fires.{IsBehindGap, IsFirst, IsFirstOfShort, IsGap, IsLast, IsShortStep, Takes, TakesShown, TakesSkipped}
use Rattle.zoned_cron.specs.Private.{EndsGap, EndsShortGap, IsDated, IsFirstOrLate, IsLastIn, TakesDated}

-- the values that stand for P's seconds stand for Q's, where the two have the same
same_all : (P Q : ℤ → Type 0) (found : MappedLocalTime ℤ) → ((u : ℤ) → P u ↔ Q u) → AreAll P (λ u. u) found → AreAll Q (λ u. u) found
same_all P Q NoInstant same h = λ u q. h u ((same u).1 q)
same_all P Q (Single x) same h = λ u. (λ q. (h u).0 ((same u).1 q), λ e. (same u).0 ((h u).1 e))
same_all P Q (Ambiguous x y) same h = (h.0, λ u. (λ q. (h.1 u).0 ((same u).1 q), λ e. (same u).0 ((h.1 u).1 e)))

-- and an instant is among them exactly if P holds of it
pub among : (P : ℤ → Type 0) (found : MappedLocalTime ℤ) (u : ℤ) → AreAll P (λ u. u) found → IsAmong u found ↔ P u
among P NoInstant u h = (λ e. absurd e, λ p. h u p)
among P (Single x) u h = (λ e. (h u).1 e, λ p. (h u).0 p)
among P (Ambiguous x y) u h = (λ e. (h.1 u).1 e, λ p. (h.1 u).0 p)

-- ---- a policy at a local time that is shown, and at one that is not

pub shown : (fold : Fold) (ahead : ℤ → ℤ) (l u : ℤ) → TakesShown fold ahead l u → Shows ahead l u
shown Earlier ahead l u h = h.0
shown Later ahead l u h = h.0
shown Both ahead l u h = h
shown EarlierOfShort ahead l u h = h.0

pub behind : (gap : Gap) (ahead : ℤ → ℤ) (l u : ℤ) → TakesSkipped gap ahead l u → IsBehindGap ahead l u
behind Skip ahead l u h = absurd h
behind FirstAfter ahead l u h = h
behind FirstAfterShort ahead l u h = h.0

pub in_gap : (ahead : ℤ → ℤ) (l u : ℤ) → IsBehindGap ahead l u → IsGap ahead l
in_gap ahead l u h = h.skipped l (omega (arith, ints)) h.later

if_shown : (p : Policy) (ahead : ℤ → ℤ) (l u v : ℤ) → Shows ahead l v → Takes p ahead l u → TakesShown p.fold ahead l u
if_shown p ahead l u v there (inl h) = h
if_shown p ahead l u v there (inr h) = absurd (in_gap ahead l u (behind p.gap ahead l u h) v there)

if_gap : (p : Policy) (ahead : ℤ → ℤ) (l u : ℤ) → IsGap ahead l → Takes p ahead l u → TakesSkipped p.gap ahead l u
if_gap p ahead l u gap (inl h) = absurd (gap u (shown p.fold ahead l u h))
if_gap p ahead l u gap (inr h) = h

-- the only instant is taken whatever the policy
pub only_taken : (fold : Fold) (ahead : ℤ → ℤ) (l u : ℤ) → IsOnly (Shows ahead l) u → TakesShown fold ahead l u
only_taken Earlier ahead l u only = ((only u).1 refl, λ v shows. omega (arith, ints, (only v).0 shows))
only_taken Later ahead l u only = ((only u).1 refl, λ v shows. omega (arith, ints, (only v).0 shows))
only_taken Both ahead l u only = (only u).1 refl
only_taken EarlierOfShort ahead l u only = ((only u).1 refl, λ v shows. inl (omega (arith, ints, (only v).0 shows)))

-- where the clock shows a second of dates, and is ahead by an offset, it is so by that offset
dated : (ahead : ℤ → ℤ) (l o u : ℤ) → IsEpochSecond l → IsOffset o → Shows ahead l u → u ≡ (l -ℤ o) → IsDated ahead u
dated ahead l o u date near shows e =
    let same : o ≡ ahead u = omega (arith, ints, shows, e) in
    (subst (λ (s : ℤ). IsEpochSecond s) (sym shows) date, subst (λ (x : ℤ). IsOffset x) same near)

pub taken_single : (p : Policy) (ahead : ℤ → ℤ) (l o u : ℤ) → IsEpochSecond l → IsOffset o → IsMapped ahead l (Single o) → u ≡ (l -ℤ o) → IsOnly (TakesDated p ahead l) u
taken_single p ahead l o u date near mapped e =
    let only : IsOnly (Shows ahead l) u = subst (λ (s : ℤ). IsOnly (Shows ahead l) s) (sym e) mapped in
    λ v. (
      λ h. (only v).0 (shown p.fold ahead l v (if_shown p ahead l v u ((only u).1 refl) h.1)),
      λ same.
          let here : IsOnly (Shows ahead l) v = subst (λ (s : ℤ). IsOnly (Shows ahead l) s) (sym same) only in
          (dated ahead l o v date near ((here v).1 refl) (same ∙ e), inl (only_taken p.fold ahead l v here)),
    )

-- two instants, the earlier first
pub record AreTwo (ahead : ℤ → ℤ) (l x y : ℤ) : Type 0 where
  pub order : x <ℤ y
  pub both : (u : ℤ) → Shows ahead l u ↔ ((u ≡ x) ⊎ (u ≡ y))

-- each instant at which the clock shows l is one of dates
abbrev pub AllDated : (ℤ → ℤ) → ℤ → Type 0
AllDated ahead l = (u : ℤ) → Shows ahead l u → IsDated ahead u

pub AreTwo-mapped : (ahead : ℤ → ℤ) (l a b x y : ℤ) → IsMapped ahead l (Ambiguous a b) → x ≡ (l -ℤ a) → y ≡ (l -ℤ b) → AreTwo ahead l x y
AreTwo-mapped ahead l a b x y mapped is_x is_y = record {
  order = omega (arith, ints, mapped.0, is_x, is_y);
  both = λ u. (
    λ shows. ⊎_elim (λ e. inl (e ∙ sym is_x)) (λ e. inr (e ∙ sym is_y)) ((mapped.1 u).0 shows),
    λ is. (mapped.1 u).1 (⊎_elim (λ e. inl (e ∙ is_x)) (λ e. inr (e ∙ is_y)) is),
  );
}

pub AllDated-mapped : (ahead : ℤ → ℤ) (l a b : ℤ) → IsEpochSecond l → IsOffset a → IsOffset b → IsMapped ahead l (Ambiguous a b) → AllDated ahead l
AllDated-mapped ahead l a b date near_a near_b mapped = λ u shows.
    ⊎_elim (λ e. dated ahead l a u date near_a shows e) (λ e. dated ahead l b u date near_b shows e) ((mapped.1 u).0 shows)

pub first_of_two : (ahead : ℤ → ℤ) (l x y u : ℤ) → AreTwo ahead l x y → IsFirst ahead l u ↔ (u ≡ x)
first_of_two ahead l x y u two = (
  λ h. ⊎_elim (λ e. e) (λ e. absurd (omega (arith, ints, e, two.order, h.1 x ((two.both x).1 (inl refl))))) ((two.both u).0 h.0),
  λ e. (
    (two.both u).1 (inl e),
    λ v shows. ⊎_elim (λ is. omega (arith, ints, e, is)) (λ is. omega (arith, ints, e, is, two.order)) ((two.both v).0 shows),
  ),
)

pub last_of_two : (ahead : ℤ → ℤ) (l x y u : ℤ) → AreTwo ahead l x y → IsLast ahead l u ↔ (u ≡ y)
last_of_two ahead l x y u two = (
  λ h. ⊎_elim (λ e. absurd (omega (arith, ints, e, two.order, h.1 y ((two.both y).1 (inr refl))))) (λ e. e) ((two.both u).0 h.0),
  λ e. (
    (two.both u).1 (inr e),
    λ v shows. ⊎_elim (λ is. omega (arith, ints, e, is, two.order)) (λ is. omega (arith, ints, e, is)) ((two.both v).0 shows),
  ),
)

-- what a policy takes of a local time that is shown, as the policy of folds has it
by_fold : (p : Policy) (ahead : ℤ → ℤ) (l v u : ℤ) → AllDated ahead l → Shows ahead l v → TakesShown p.fold ahead l u ↔ TakesDated p ahead l u
by_fold p ahead l v u dates there = (
  λ h. (dates u (shown p.fold ahead l u h), inl h),
  λ h. if_shown p ahead l u v there h.1,
)

pub taken_earlier : (p : Policy) (ahead : ℤ → ℤ) (l x y : ℤ) → AllDated ahead l → AreTwo ahead l x y → p.fold ≡ Earlier → IsOnly (TakesDated p ahead l) x
taken_earlier p ahead l x y dates two fold = λ u.
    let by : TakesShown p.fold ahead l u ↔ TakesDated p ahead l u = by_fold p ahead l x u dates ((two.both x).1 (inl refl)) in
    let first : IsFirst ahead l u ↔ TakesDated p ahead l u = subst (λ (f : Fold). TakesShown f ahead l u ↔ TakesDated p ahead l u) fold by in
    (λ h. (first_of_two ahead l x y u two).0 (first.1 h), λ e. first.0 ((first_of_two ahead l x y u two).1 e))

pub taken_later : (p : Policy) (ahead : ℤ → ℤ) (l x y : ℤ) → AllDated ahead l → AreTwo ahead l x y → p.fold ≡ Later → IsOnly (TakesDated p ahead l) y
taken_later p ahead l x y dates two fold = λ u.
    let by : TakesShown p.fold ahead l u ↔ TakesDated p ahead l u = by_fold p ahead l x u dates ((two.both x).1 (inl refl)) in
    let last : IsLast ahead l u ↔ TakesDated p ahead l u = subst (λ (f : Fold). TakesShown f ahead l u ↔ TakesDated p ahead l u) fold by in
    (λ h. (last_of_two ahead l x y u two).0 (last.1 h), λ e. last.0 ((last_of_two ahead l x y u two).1 e))

pub taken_both : (p : Policy) (ahead : ℤ → ℤ) (l x y : ℤ) → AllDated ahead l → AreTwo ahead l x y → p.fold ≡ Both → AreAll (TakesDated p ahead l) (λ u. u) (Ambiguous x y)
taken_both p ahead l x y dates two fold = (
  two.order,
  λ u.
      let by : TakesShown p.fold ahead l u ↔ TakesDated p ahead l u = by_fold p ahead l x u dates ((two.both x).1 (inl refl)) in
      let each : Shows ahead l u ↔ TakesDated p ahead l u = subst (λ (f : Fold). TakesShown f ahead l u ↔ TakesDated p ahead l u) fold by in
      (λ h. (two.both u).0 (each.1 h), λ e. each.0 ((two.both u).1 e)),
)

pub late_of_two : (ahead : ℤ → ℤ) (l x y u : ℤ) → AreTwo ahead l x y → IsFirstOfShort ahead l u ↔ IsFirstOrLate x y u
late_of_two ahead l x y u two = (
  λ h. ⊎_elim (λ is. inl is)
      (λ is. inr (is, ⊎_elim (λ le. absurd (omega (arith, ints, is, le, two.order))) (λ late. omega (arith, ints, is, late)) (h.1 x ((two.both x).1 (inl refl)))))
      ((two.both u).0 h.0),
  λ h. ⊎_elim
      (λ is. ((two.both u).1 (inl is), λ v shows. inl (⊎_elim (λ e. omega (arith, ints, e, is)) (λ e. omega (arith, ints, e, is, two.order)) ((two.both v).0 shows))))
      (λ is. ((two.both u).1 (inr is.0), λ v shows. ⊎_elim (λ e. inr (omega (arith, ints, e, is.0, is.1))) (λ e. inl (omega (arith, ints, e, is.0))) ((two.both v).0 shows)))
      h,
)

pub taken_late : (p : Policy) (ahead : ℤ → ℤ) (l x y : ℤ) (found : MappedLocalTime ℤ) → AllDated ahead l → AreTwo ahead l x y → p.fold ≡ EarlierOfShort → AreAll (IsFirstOrLate x y) (λ u. u) found
    → AreAll (TakesDated p ahead l) (λ u. u) found
taken_late p ahead l x y found dates two fold are =
    same_all (IsFirstOrLate x y) (TakesDated p ahead l) found
    (λ u.
    let by : TakesShown p.fold ahead l u ↔ TakesDated p ahead l u = by_fold p ahead l x u dates ((two.both x).1 (inl refl)) in
    let late : IsFirstOfShort ahead l u ↔ TakesDated p ahead l u = subst (λ (f : Fold). TakesShown f ahead l u ↔ TakesDated p ahead l u) fold by in
    let which = late_of_two ahead l x y u two in
    (λ h. late.0 (which.1 h), λ h. which.0 (late.1 h)))
    are

pub taken_behind_short : (p : Policy) (ahead : ℤ → ℤ) {k : ℤ} (l : ℤ) (found : MappedLocalTime ℤ) → AreAll (EndsShortGap ahead k) (λ u. u) found → k ≡ l → IsGap ahead l → p.gap ≡ FirstAfterShort
    → AreAll (TakesDated p ahead l) (λ u. u) found
taken_behind_short p ahead {k} l found ends is gap after =
    let here : AreAll (EndsShortGap ahead l) (λ u. u) found = subst (λ (s : ℤ). AreAll (EndsShortGap ahead s) (λ u. u) found) is ends in
    same_all (EndsShortGap ahead l) (TakesDated p ahead l) found (λ u. (
      λ h. (h.0.0, inr (subst (λ (g : Gap). TakesSkipped g ahead l u) (sym after) (h.0.1, h.1))),
      λ h. let skipped = subst (λ (g : Gap). TakesSkipped g ahead l u) after (if_gap p ahead l u gap h.1) in ((h.0, skipped.0), skipped.1),
    )) here

pub short_yes : (ahead : ℤ → ℤ) (e x : ℤ) → x ≡ e → IsShortStep ahead e → AreAll (λ u. (u ≡ e) × IsShortStep ahead u) (λ u. u) (Single x)
short_yes ahead e x same step = λ u. (λ h. h.0 ∙ sym same, λ is. (is ∙ same, subst (λ (y : ℤ). IsShortStep ahead y) (sym (is ∙ same)) step))

pub short_no : (ahead : ℤ → ℤ) (e : ℤ) → ¬ IsShortStep ahead e → AreAll (λ u. (u ≡ e) × IsShortStep ahead u) (λ u. u) NoInstant
short_no ahead e long = λ u h. long (subst (λ (x : ℤ). IsShortStep ahead x) h.0 h.1)

pub late_both : (x y : ℤ) → x <ℤ y → (x +ℤ pos 10_800) <ℤ y → AreAll (IsFirstOrLate x y) (λ u. u) (Ambiguous x y)
late_both x y order late = (order, λ u. (λ h. ⊎_elim (λ e. inl e) (λ e. inr e.0) h, λ h. ⊎_elim (λ e. inl e) (λ e. inr (e, late)) h))

pub early_only : (x y : ℤ) → y ≤ℤ (x +ℤ pos 10_800) → AreAll (IsFirstOrLate x y) (λ u. u) (Single x)
early_only x y le = λ u. (λ h. ⊎_elim (λ e. e) (λ e. absurd (omega (arith, ints, e.1, le))) h, λ e. inl e)

-- of what ends the gap, what does so where the clock is set ahead by little
pub short_of_one : (ahead : ℤ → ℤ) (k l e x : ℤ) (found : MappedLocalTime ℤ) → k ≡ l → x ≡ e → IsOnly (EndsGap ahead k) e → AreAll (λ u. (u ≡ x) × IsShortStep ahead u) (λ u. u) found
    → AreAll (EndsShortGap ahead l) (λ u. u) found
short_of_one ahead k l e x found is same only are =
    let here : IsOnly (EndsGap ahead l) e = subst (λ (s : ℤ). IsOnly (EndsGap ahead s) e) is only in
    same_all (λ u. (u ≡ x) × IsShortStep ahead u) (EndsShortGap ahead l) found (λ u. (λ h. ((here u).1 (h.0 ∙ same), h.1), λ h. ((here u).0 h.0 ∙ sym same, h.1))) are

pub taken_skipped : (p : Policy) (ahead : ℤ → ℤ) (l : ℤ) → IsGap ahead l → p.gap ≡ Skip → AreAll (TakesDated p ahead l) (λ u. u) NoInstant
taken_skipped p ahead l gap skip u h = subst (λ (g : Gap). TakesSkipped g ahead l u) skip (if_gap p ahead l u gap h.1)

pub taken_behind : (p : Policy) (ahead : ℤ → ℤ) {k : ℤ} (l : ℤ) (found : MappedLocalTime ℤ) → AreAll (EndsGap ahead k) (λ u. u) found → k ≡ l → IsGap ahead l → p.gap ≡ FirstAfter → AreAll (TakesDated p ahead l) (λ u. u) found
taken_behind p ahead {k} l found ends is gap after =
    let here : AreAll (EndsGap ahead l) (λ u. u) found = subst (λ (s : ℤ). AreAll (EndsGap ahead s) (λ u. u) found) is ends in
    same_all (EndsGap ahead l) (TakesDated p ahead l) found (λ u. (
      λ h. (h.0, inr (subst (λ (g : Gap). TakesSkipped g ahead l u) (sym after) h.1)),
      λ h. (h.0, subst (λ (g : Gap). TakesSkipped g ahead l u) after (if_gap p ahead l u gap h.1)),
    )) here

-- ---- the end of a gap

-- the clock skips the local seconds from one up to before another
abbrev pub AreGaps : (ℤ → ℤ) → ℤ → ℤ → Type 0
AreGaps ahead from end = (j : ℤ) → from ≤ℤ j → j <ℤ end → IsGap ahead j

pub no_gap : (ahead : ℤ → ℤ) (l : ℤ) (found : MappedLocalTime ℤ) → IsMapped ahead l found → is_some (earliest_of found) ≡ true → IsGap ahead l → ⊥
no_gap ahead l NoInstant h some gap = absurd cc
no_gap ahead l (Single x) h some gap = gap (l -ℤ x) ((h (l -ℤ x)).1 refl)
no_gap ahead l (Ambiguous x y) h some gap = gap (l -ℤ x) ((h.1 (l -ℤ x)).1 (inl refl))

-- the first local second that is shown ends the gap
pub gap_ends : (ahead : ℤ → ℤ) (gap k o u : ℤ) → IsEpochSecond k → IsOffset o → u ≡ (k -ℤ o) → gap <ℤ k → AreGaps ahead gap k → IsFirst ahead k u → IsOnly (EndsGap ahead gap) u
gap_ends ahead gap k o u date near at later gaps first = λ v. (
  λ h.
      let low : k ≤ℤ (v +ℤ ahead v) = by_lt_z (v +ℤ ahead v) k (λ lt. absurd (gaps (v +ℤ ahead v) (omega (arith, ints, h.1.later)) lt v refl)) (λ ge. ge) in
      let high : (v +ℤ ahead v) ≤ℤ k = by_lt_z k (v +ℤ ahead v) (λ lt. absurd (h.1.skipped k (omega (arith, ints, later)) lt u first.0)) (λ ge. ge) in
      let same : (v +ℤ ahead v) ≡ k = omega (arith, ints, low, high) in
      let there : IsFirst ahead k v = subst (λ (s : ℤ). IsFirst ahead s v) same h.1.first in
      omega (arith, ints, there.1 u first.0, first.1 v there.0),
  λ e.
      let there : IsFirst ahead k v = subst (λ (s : ℤ). IsFirst ahead k s) (sym e) first in
      let is : k ≡ (v +ℤ ahead v) = sym there.0 in (
        dated ahead k o v date near there.0 (e ∙ at),
        record {
          later = subst (λ (s : ℤ). gap <ℤ s) is later;
          skipped = subst (λ (s : ℤ). AreGaps ahead gap s) is gaps;
          first = subst (λ (s : ℤ). IsFirst ahead s v) is there;
        },
      ),
)

-- and where none is up to the end of dates, none does
pub gap_never_ends : (ahead : ℤ → ℤ) (gap k : ℤ) → IsEpochSecond gap → (IsEpochSecond k → ⊥) → gap <ℤ k → AreGaps ahead gap k → (u : ℤ) → EndsGap ahead gap u → ⊥
gap_never_ends ahead gap k date past later gaps u h =
    by_lt_z (u +ℤ ahead u) k (λ lt. gaps (u +ℤ ahead u) (omega (arith, ints, h.1.later)) lt u refl)
    (λ ge. past (omega (arith, ints, date.0, later), omega (arith, ints, ge, h.0.0.1)))

-- ---- the last of them in a range

pub last_of_all : (P : ℤ → Type 0) (found : MappedLocalTime ℤ) (end : ℤ) (result : Option ℤ) → AreAll P (λ u. u) found → IsLastIn (λ u. IsAmong u found) end result → IsLastIn P end result
last_of_all P found end None all h = λ u p. h u ((among P found u all).1 p)
last_of_all P found end (Some x) all h = ((among P found x all).0 h.0, h.1, h.2, λ u p. h.3 u ((among P found u all).1 p))
