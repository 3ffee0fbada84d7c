-- The laws of `law`.
use Rattle.std.proofs.Common.{◌≡◌, ◌↔◌, ⊎_elim, inl, inr, ℤ, pos, neg_ℤ, ◌+ℤ◌, ◌-ℤ◌, ◌≤ℤ◌, arith, refl, subst, sym}
use Rattle.std.proofs.lemmas.Int.{ints}
use Rattle.chrono_instant.specs.Instants.{epoch_second}
use Rattle.chrono_zoned.specs.KnownZones.{set_ahead, set_back}
use Rattle.chrono_zoned.specs.Zones.{IsOnly}
use Rattle.chrono_zoned.proofs.OneChangeLemmas.{ChangesOnce-set_ahead, ChangesOnce-set_back, never, once_late, twice}
use Rattle.zoned_rules.specs.LocalInstants.{HasDates, IsInstantOf}
use Rattle.zoned_rules.specs.LocalTimes.{IsLocalSecond, LocalParts}
use Rattle.zoned_rules.specs.Recurs.{Recurs}
use Rattle.zoned_rules.proofs.Standing.{stands_once}

-- ---- a zone of one offset

shown_there : (x l u : ℤ) → (u +ℤ x) ≡ l → IsInstantOf (λ _. x) l u
shown_there x l u shows = inl (record { shown = shows; first = λ v same. omega (arith, ints, shows, same) })

recurs_local : (r : LocalParts) (x u : ℤ) → Recurs r (λ _. x) u → ((epoch_second r.start -ℤ x) ≤ℤ u) × IsLocalSecond r (u +ℤ x)
recurs_local r x u f =
    let l = epoch_second f.planned in
    let start = epoch_second r.start in
    let is : u ≡ (l -ℤ x) = stands_once (λ _. x) l u (l -ℤ x) f.recurs.stands (shown_there x l (l -ℤ x) (omega (arith, ints))) in (
      f.begun (start -ℤ x) (shown_there x start (start -ℤ x) (omega (arith, ints))),
      record { planned = f.planned; exists = f.recurs.exists; listed = f.recurs.listed; second = omega (arith, ints, is) },
    )

local_recurs : (r : LocalParts) (x u : ℤ) → HasDates (λ _. x) u → (epoch_second r.start -ℤ x) ≤ℤ u → IsLocalSecond r (u +ℤ x) → Recurs r (λ _. x) u
local_recurs r x u dates from h =
    let start = epoch_second r.start in
    record {
      planned = h.planned;
      recurs = record { dates = dates; exists = h.exists; listed = h.listed; since = omega (arith, ints, from, h.second); stands = shown_there x (epoch_second h.planned) u (sym h.second) };
      begun = λ s there. omega (arith, ints, from, stands_once (λ _. x) start s (start -ℤ x) there (shown_there x start (start -ℤ x) (omega (arith, ints))));
    }

pub one_offset : (r : LocalParts) (x u : ℤ) → HasDates (λ _. x) u → Recurs r (λ _. x) u ↔ (((epoch_second r.start -ℤ x) ≤ℤ u) × IsLocalSecond r (u +ℤ x))
one_offset r x u dates = (recurs_local r x u, λ h. local_recurs r x u dates h.0 h.1)

-- ---- known values

only_one : (ahead : ℤ → ℤ) (l u : ℤ) → IsInstantOf ahead l u → IsOnly (IsInstantOf ahead l) u
only_one ahead l u there v = (λ h. stands_once ahead l v u h there, λ e. subst (λ (x : ℤ). IsInstantOf ahead l x) (sym e) there)

pub gap_skipped : IsOnly (IsInstantOf set_ahead (pos 2_000)) (pos 2_000)
gap_skipped =
    only_one set_ahead (pos 2_000) (pos 2_000) (inr (record {
      skipped = never set_ahead (pos 1_000) (pos 0) (pos 3_600) (pos 2_000) ChangesOnce-set_ahead (omega (arith, ints)) (omega (arith, ints));
      change = pos 1_000;
      past = record {
        earlier = λ v lt. omega (arith, ints, lt, ChangesOnce-set_ahead.early v lt);
        later = omega (arith, ints);
      };
      by = refl;
    }))

pub gap_behind : IsOnly (IsInstantOf set_ahead (pos 4_600)) (pos 1_000)
gap_behind =
    let only = once_late set_ahead (pos 1_000) (pos 0) (pos 3_600) (pos 4_600) ChangesOnce-set_ahead (omega (arith, ints)) (omega (arith, ints)) in
    only_one set_ahead (pos 4_600) (pos 1_000) (inl (record { shown = refl; first = λ v shows. omega (arith, ints, (only v).0 shows) }))

pub fold_first : IsOnly (IsInstantOf set_back (pos 2_000)) (neg_ℤ (pos 1_600))
fold_first =
    let both = twice set_back (pos 1_000) (pos 3_600) (pos 0) (pos 2_000) ChangesOnce-set_back (omega (arith, ints)) (omega (arith, ints)) in
    only_one set_back (pos 2_000) (neg_ℤ (pos 1_600)) (inl (record {
      shown = refl;
      first = λ v shows. ⊎_elim (λ e. omega (arith, ints, e)) (λ e. omega (arith, ints, e)) ((both.1 v).0 shows);
    }))
