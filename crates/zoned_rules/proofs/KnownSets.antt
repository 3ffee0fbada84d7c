-- Known starts, ends and sets.
use Rattle.std.proofs.Common.{◌≡◌, ◌⊎◌, ⊎_elim, inl, inr, Bool, true, false, ◌||◌, List, [], ◌∷◌, ℤ, pos, neg_ℤ, ◌+ℤ◌, ◌-ℤ◌, ◌≤ℤ◌, ◌<ℤ◌, arith, ap, refl, subst, sym}
use Rattle.std.specs.Ordering.{int_eq}
use Rattle.std.proofs.lemmas.Bool.{both_ways}
use Rattle.std.proofs.lemmas.Int.{by_lt_z, ints}
use Rattle.chrono_datetime.specs.Moment.{Moment}
use Rattle.chrono_instant.specs.Instants.{epoch_second}
use Rattle.chrono_zoned.specs.KnownZones.{set_ahead}
use Rattle.chrono_zoned.specs.Zoned.{Zoned}
use Rattle.chrono_zoned.proofs.OneChangeLemmas.{ChangesOnce-set_ahead}
use Rattle.zoned_rules.specs.LocalInstants.{HasDates, IsInstantOf}
use Rattle.zoned_rules.specs.LocalTimes.{IsLocalSecond, LocalParts}
use Rattle.zoned_rules.specs.Recurs.{IsLeastOf, IsNumbered, IsOneOf, IsWithin, Recurs, RecursWithin}
use Rattle.zoned_rules.specs.ZonedSets.{IsInZonedSet, lists_second}
use Rattle.zoned_rules.specs.declared.bound.Bound.{Bound}
use Rattle.zoned_rules.specs.declared.bound.Bound.TheVariants.{Count, Until}
use Rattle.zoned_rules.proofs.Laws.{gap_skipped}
use Rattle.zoned_rules.proofs.Numbered.{inside, outside}

-- ---- starts near a gap

-- a local time from 4,600 on that stands for 2,000 is what the clock shows there
shown_behind_gap : (l : ℤ) → pos 4_600 ≤ℤ l → IsInstantOf set_ahead l (pos 2_000) → l ≡ pos 5_600
shown_behind_gap l since (inl h) = omega (arith, ints, h.shown, ChangesOnce-set_ahead.late (pos 2_000) (omega (arith, ints)))
shown_behind_gap l since (inr h) =
    let c = h.change in
    by_lt_z (pos 1_000) c
    (λ lt.
    let before = ChangesOnce-set_ahead.late (c -ℤ pos 1) (omega (arith, ints, lt)) in
    let there = ChangesOnce-set_ahead.late c (omega (arith, ints, lt)) in
    absurd (omega (arith, ints, h.past.earlier (c -ℤ pos 1) (omega (arith, ints)), h.past.later, before, there)))
    (λ ge. absurd (omega (arith, ints, h.by, since, ChangesOnce-set_ahead.early (c -ℤ pos 1) (omega (arith, ints, ge)))))

pub starts_behind_gap : (r : LocalParts) → epoch_second r.start ≡ pos 4_600 → ¬ IsLocalSecond r (pos 5_600) → ¬ Recurs r set_ahead (pos 2_000)
starts_behind_gap r start none f =
    let h = f.recurs in
    none (record {
      planned = f.planned;
      exists = h.exists;
      listed = h.listed;
      second = shown_behind_gap (epoch_second f.planned) (omega (arith, ints, start, h.since)) h.stands;
    })

pub starts_in_gap : (r : LocalParts) → epoch_second r.start ≡ pos 2_000 → ¬ Recurs r set_ahead (pos 1_000)
starts_in_gap r start f = omega (arith, ints, f.begun (pos 2_000) (subst (λ (l : ℤ). IsInstantOf set_ahead l (pos 2_000)) (sym start) ((gap_skipped (pos 2_000)).1 refl)))

-- ---- ends

pub until_last : (P : ℤ → Type 0) (m : Moment) → IsWithin (Until m) P (epoch_second m)
until_last P m = omega (arith, ints)

pub until_past : (P : ℤ → Type 0) (m : Moment) → ¬ IsWithin (Until m) P (epoch_second m +ℤ pos 1)
until_past P m within = omega (arith, ints, within)

-- UNTIL is an instant, whatever the clock shows there. An UNTIL of 2,000 keeps the instance at 1,500, which a clock shows as 5,100
until_by_utc : (r : LocalParts) (m : Moment) → epoch_second m ≡ pos 2_000 → Recurs r (λ _. pos 3_600) (pos 1_500) → RecursWithin r (λ _. pos 3_600) (Until m) (pos 1_500)
until_by_utc r m until recurs = record { recurs = recurs; within = omega (arith, ints, until) }

-- and it leaves out one at 3,000, which a clock shows as -600
until_past_utc : (r : LocalParts) (m : Moment) → epoch_second m ≡ pos 2_000 → ¬ RecursWithin r (λ _. neg_ℤ (pos 3_600)) (Until m) (pos 3_000)
until_past_utc r m until h = omega (arith, ints, until, h.within)

abbrev three : ℤ → Type 0
three u = (u ≡ pos 10) ⊎ ((u ≡ pos 20) ⊎ (u ≡ pos 30))

three_from : (w : ℤ) → three w → pos 10 ≤ℤ w
three_from w (inl e) = omega (arith, ints, e)
three_from w (inr (inl e)) = omega (arith, ints, e)
three_from w (inr (inr e)) = omega (arith, ints, e)

three_behind : (w : ℤ) → pos 10 <ℤ w → three w → pos 20 ≤ℤ w
three_behind w lt (inl e) = absurd (omega (arith, ints, lt, e))
three_behind w lt (inr (inl e)) = omega (arith, ints, e)
three_behind w lt (inr (inr e)) = omega (arith, ints, e)

two_of_three : IsNumbered three 1 (pos 20)
two_of_three = record {
  last = pos 10;
  previous = record { member = inl refl; least = three_from };
  next = record { member = (omega (arith, ints), inr (inl refl)); least = λ w h. three_behind w h.0 h.1 };
}

pub count_second : IsWithin (Count 2) three (pos 20)
count_second = inside three 2 2 (pos 20) (pos 20) two_of_three (omega arith) (inr (inl refl)) (omega (arith, ints))

pub count_third : ¬ IsWithin (Count 2) three (pos 30)
count_third one = omega (arith, ints, outside three 2 (pos 30) (pos 20) two_of_three one)

-- ---- sets

lists_itself : (d : Zoned ℤ) → lists_second (d ∷ []) (epoch_second d.utc) ≡ true
lists_itself d =
    let u = epoch_second d.utc in
    let same : int_eq u u ≡ true = grind (arith, ints) in
    ap (λ b. b || false) same

pub set_added : (r : LocalParts) (ahead : ℤ → ℤ) (bound : Bound) (d : Zoned ℤ) → HasDates ahead (epoch_second d.utc) → IsInZonedSet r ahead bound (d ∷ []) [] (epoch_second d.utc)
set_added r ahead bound d dates = record { included = record { has_dates = dates; included = inr (lists_itself d) }; kept = refl }

pub set_left_out : (r : LocalParts) (ahead : ℤ → ℤ) (bound : Bound) (d : Zoned ℤ) → ¬ IsInZonedSet r ahead bound [] (d ∷ []) (epoch_second d.utc)
set_left_out r ahead bound d h = both_ways (lists_second (d ∷ []) (epoch_second d.utc)) h.kept (lists_itself d)

pub set_in_both : (r : LocalParts) (ahead : ℤ → ℤ) (bound : Bound) (d : Zoned ℤ) → ¬ IsInZonedSet r ahead bound (d ∷ []) (d ∷ []) (epoch_second d.utc)
set_in_both r ahead bound d h = both_ways (lists_second (d ∷ []) (epoch_second d.utc)) h.kept (lists_itself d)

-- an instance of the rule is in the set where nothing is listed
set_of_rule : (r : LocalParts) (ahead : ℤ → ℤ) (bound : Bound) (u : ℤ) → HasDates ahead u → RecursWithin r ahead bound u → IsInZonedSet {Z = ℤ} r ahead bound [] [] u
set_of_rule r ahead bound u dates recurs = record { included = record { has_dates = dates; included = inl recurs }; kept = refl }

-- the second after an instant that is listed is in no set without it
lists_no_other : (d : Zoned ℤ) → lists_second (d ∷ []) (epoch_second d.utc +ℤ pos 1) ≡ false
lists_no_other d =
    let u = epoch_second d.utc in
    let other : int_eq u (u +ℤ pos 1) ≡ false = grind (arith, ints) in
    ap (λ b. b || false) other

set_without_other : (r : LocalParts) (ahead : ℤ → ℤ) (bound : Bound) (d : Zoned ℤ) → ¬ RecursWithin r ahead bound (epoch_second d.utc +ℤ pos 1)
    → ¬ IsInZonedSet r ahead bound (d ∷ []) [] (epoch_second d.utc +ℤ pos 1)
set_without_other r ahead bound d none h =
    ⊎_elim none (λ listed. both_ways (lists_second (d ∷ []) (epoch_second d.utc +ℤ pos 1)) (lists_no_other d) listed) h.included.included
