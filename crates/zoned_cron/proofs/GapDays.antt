-- On any day each planned minute fires, and those between which the clock shows nothing fire together.
use Rattle.std.proofs.Common.{◌≡◌, ◌⊎◌, ⊎_elim, inl, inr, true, false, Bool, cond, ℕ, zero, suc, ◌+◌, ◌-◌, ◌*◌, ◌<◌, ◌≤◌, ℤ, pos, ◌+ℤ◌, ◌≤ℤ◌, List, [], ◌∷◌, arith, refl, subst, sym}
use Rattle.std.specs.Prelude.{⊤}
use Rattle.std.proofs.lemmas.Int.{by_lt_z, ints}
use Rattle.std.specs.List.{filter, range_with_len}
use Rattle.chrono_instant.specs.Instants.{epoch_second}
use Rattle.chrono_instant.specs.Offsets.{IsOffset}
use Rattle.chrono_zoned.specs.KnownZones.{set_ahead}
use Rattle.chrono_zoned.specs.Zones.{IsOnly}
use Rattle.chrono_zoned.proofs.OneChangeLemmas.{ChangesOnce-set_ahead, never, once_early, once_late}
use Rattle.chrono_cron.specs.declared.field_sets.FieldSets.{FieldSets}
use Rattle.chrono_cron.specs.Due.{is_due}
use Rattle.zoned_cron.specs.declared.policy.Fold.TheVariants.{Earlier}
use Rattle.zoned_cron.specs.Fires.{IsGap, Takes, once_each}
use Rattle.zoned_cron.specs.DayFirings.{AreDifferent, FireTogether, IsNoneOf, NoneShown, minute_of_day, planned_minutes}
use Rattle.zoned_cron.proofs.Instants.{AreGaps, only_taken}
use Rattle.zoned_cron.proofs.Laws.{behind_gap, fires_apart, fires_once, first_shown, one_firing}

-- ---- whether the clock shows a second of a range

is_empty : (ahead : ℤ → ℤ) (from end : ℤ) → end ≤ℤ from → AreGaps ahead from end
is_empty ahead from end none j low high = absurd (omega (arith, ints, none, low, high))

-- of the n seconds behind some that it does not show
shows_any : (ahead : ℤ → ℤ) → ((u : ℤ) → IsOffset (ahead u)) → (n : ℕ) (from end : ℤ) → (from +ℤ pos n) ≡ end → AreGaps ahead from end ⊎ (AreGaps ahead from end → ⊥)
shows_any ahead offsets zero from end is = inl (is_empty ahead from end (omega (arith, ints, is)))
shows_any ahead offsets (suc n) from end is =
    ⊎_elim
    (λ gap. ⊎_elim
    (λ rest. inl (λ j low high. by_lt_z from j (λ later. rest j (omega (arith, ints, later)) high) (λ ge. subst (λ (x : ℤ). IsGap ahead x) (omega (arith, ints, ge, low)) gap)))
    (λ some. inr (λ all. some (λ j low high. all j (omega (arith, ints, low)) high)))
    (shows_any ahead offsets n (from +ℤ pos 1) end (omega (arith, ints, is))))
    (λ first. inr (λ all. all from (omega (arith, ints)) (omega (arith, ints, is)) first.0 first.1.0))
    (first_shown ahead offsets from)

none_or_some : (ahead : ℤ → ℤ) → ((u : ℤ) → IsOffset (ahead u)) → (n : ℤ) (j k : ℕ) → j < k → NoneShown ahead n j k ⊎ (NoneShown ahead n j k → ⊥)
none_or_some ahead offsets n j k lt =
    shows_any ahead offsets (60 * k - 60 * j) (epoch_second (minute_of_day n j)) (epoch_second (minute_of_day n k)) (omega (arith, ints, lt))

-- ---- minutes in order

-- each minute comes after the one before it, and the first after j
abbrev Follow : ℕ → List ℕ → Type 0
Follow j [] = ⊤
Follow j (k ∷ ks) = (j < k) × Follow k ks

one_more_follows : (test : Bool) (j a : ℕ) (ks : List ℕ) → j < a → Follow j ks → Follow a ks → Follow j (cond test (a ∷ ks) ks)
one_more_follows true j a ks lt skip next = (lt, next)
one_more_follows false j a ks lt skip next = skip

follow_filter : (test : ℕ → Bool) (j a m : ℕ) → j < a → Follow j (filter test (range_with_len a m))
follow_filter test j a zero lt = tt
follow_filter test j a (suc m) lt =
    one_more_follows (test a) j a (filter test (range_with_len (a + 1) m)) lt (follow_filter test j (a + 1) m (omega (arith, lt))) (follow_filter test a (a + 1) m (omega arith))

-- each minute comes after the one before it
abbrev Ascend : List ℕ → Type 0
Ascend [] = ⊤
Ascend (k ∷ ks) = Follow k ks

one_more_ascends : (test : Bool) (a : ℕ) (ks : List ℕ) → Ascend ks → Follow a ks → Ascend (cond test (a ∷ ks) ks)
one_more_ascends true a ks skip next = next
one_more_ascends false a ks skip next = skip

ascend_filter : (test : ℕ → Bool) (a m : ℕ) → Ascend (filter test (range_with_len a m))
ascend_filter test a zero = tt
ascend_filter test a (suc m) =
    one_more_ascends (test a) a (filter test (range_with_len (a + 1) m)) (ascend_filter test (a + 1) m) (follow_filter test a (a + 1) m (omega arith))

-- ---- what they fire at

-- each of the instants is the firing of minute j of the day n, or of a later one
abbrev AreFrom : (ℤ → ℤ) → ℤ → ℕ → List ℤ → Type 0
AreFrom ahead n j [] = ⊤
AreFrom ahead n j (u ∷ us) = ((k : ℕ) × (j ≤ k) × Takes once_each ahead (epoch_second (minute_of_day n k)) u) × AreFrom ahead n j us

from_earlier : (ahead : ℤ → ℤ) (n : ℤ) (i j : ℕ) (us : List ℤ) → i ≤ j → AreFrom ahead n j us → AreFrom ahead n i us
from_earlier ahead n i j [] le h = tt
from_earlier ahead n i j (u ∷ us) le h = ((h.0.0, omega (arith, le, h.0.1), h.0.2), from_earlier ahead n i j us le h.1)

-- the firing of a minute is none of those of later ones, if the clock shows a second in between
none_later : (ahead : ℤ → ℤ) (n : ℤ) (j k : ℕ) (u : ℤ) (us : List ℤ) → j < k → (NoneShown ahead n j k → ⊥) → Takes once_each ahead (epoch_second (minute_of_day n j)) u → AreFrom ahead n k us → IsNoneOf us u
none_later ahead n j k u [] lt shown fires h = tt
none_later ahead n j k u (v ∷ us) lt shown fires h =
    let there : Takes once_each ahead (epoch_second (minute_of_day n h.0.0)) v = h.0.2 in (
      λ same.
          let skipped = fires_apart ahead (epoch_second (minute_of_day n j)) (epoch_second (minute_of_day n h.0.0)) u (omega (arith, ints, lt, h.0.1)) fires (subst (λ (x : ℤ). Takes once_each ahead (epoch_second (minute_of_day n h.0.0)) x) same there) in
          shown (λ l low high. skipped l low (omega (arith, ints, high, h.0.1))),
      none_later ahead n j k u us lt shown fires h.1,
    )

-- ---- the firings of a day

-- what is found of minutes in order
record Found (ahead : ℤ → ℤ) (n : ℤ) (j : ℕ) (ks : List ℕ) : Type 0 where
  fired : List ℤ
  each : FireTogether ahead n (j ∷ ks) fired
  apart : AreDifferent fired
  later : AreFrom ahead n j fired

find : (ahead : ℤ → ℤ) → ((u : ℤ) → IsOffset (ahead u)) → (n : ℤ) (j : ℕ) (ks : List ℕ) → Follow j ks → Found ahead n j ks
find ahead offsets n j [] follow =
    let one = one_firing ahead offsets (epoch_second (minute_of_day n j)) in
    record {
      fired = one.0 ∷ [];
      each = (one.0, one.1, refl);
      apart = (tt, tt);
      later = ((j, omega arith, (one.1 one.0).1 refl), tt);
    }
find ahead offsets n j (k ∷ ks) follow =
    let one = one_firing ahead offsets (epoch_second (minute_of_day n j)) in
    let there : Takes once_each ahead (epoch_second (minute_of_day n j)) one.0 = (one.1 one.0).1 refl in
    let rest = find ahead offsets n k ks follow.1 in
    ⊎_elim
    (λ none. record {
      fired = rest.fired;
      each = inl (none, rest.each);
      apart = rest.apart;
      later = from_earlier ahead n j k rest.fired (omega (arith, follow.0)) rest.later;
    })
    (λ some. record {
      fired = one.0 ∷ rest.fired;
      each = inr (some, (one.0, rest.fired, one.1, rest.each, refl));
      apart = (none_later ahead n j k one.0 rest.fired follow.0 some there rest.later, rest.apart);
      later = ((j, omega arith, there), from_earlier ahead n j k rest.fired (omega (arith, follow.0)) rest.later);
    })
    (none_or_some ahead offsets n j k follow.0)

fires_all : (ahead : ℤ → ℤ) → ((u : ℤ) → IsOffset (ahead u)) → (n : ℤ) (ks : List ℕ) → Ascend ks → (fired : List ℤ) × FireTogether ahead n ks fired × AreDifferent fired
fires_all ahead offsets n [] follow = ([], refl, tt)
fires_all ahead offsets n (j ∷ ks) follow = let found = find ahead offsets n j ks follow in (found.fired, found.each, found.apart)

pub any_day_fires : (s : FieldSets) (ahead : ℤ → ℤ) → ((u : ℤ) → IsOffset (ahead u)) → (n : ℤ) → (fired : List ℤ) × FireTogether ahead n (planned_minutes s n) fired × AreDifferent fired
unfolding planned_minutes
any_day_fires s ahead offsets n = fires_all ahead offsets n (planned_minutes s n) (ascend_filter (λ k. is_due s (minute_of_day n k)) 0 1_440)

-- ---- known values: the clock skips minutes 20 and 40 of 1 January 1970

only_here : (ahead : ℤ → ℤ) (l u : ℤ) → Takes once_each ahead l u → IsOnly (Takes once_each ahead l) u
only_here ahead l u there = λ v. (λ h. fires_once ahead l v u h there, λ e. subst (λ (x : ℤ). Takes once_each ahead l x) (sym e) there)

early : Takes once_each set_ahead (pos 600) (pos 600)
early =
    inl (only_taken Earlier set_ahead (pos 600) (pos 600) (once_early set_ahead (pos 1_000) (pos 0) (pos 3_600) (pos 600) ChangesOnce-set_ahead (omega (arith, ints)) (omega (arith, ints))))

late : Takes once_each set_ahead (pos 4_620) (pos 1_020)
late =
    inl (only_taken Earlier set_ahead (pos 4_620) (pos 1_020) (once_late set_ahead (pos 1_000) (pos 0) (pos 3_600) (pos 4_620) ChangesOnce-set_ahead (omega (arith, ints)) (omega (arith, ints))))

pub gap_day : FireTogether set_ahead (pos 719_163) (10 ∷ 20 ∷ 40 ∷ 77 ∷ []) (pos 600 ∷ pos 1_000 ∷ pos 1_020 ∷ [])
gap_day =
    let last : FireTogether set_ahead (pos 719_163) (77 ∷ []) (pos 1_020 ∷ []) = (pos 1_020, only_here set_ahead (pos 4_620) (pos 1_020) late, refl) in
    let second : FireTogether set_ahead (pos 719_163) (40 ∷ 77 ∷ []) (pos 1_000 ∷ pos 1_020 ∷ []) =
    inr (
      λ none. none (pos 4_600) (omega (arith, ints)) (omega (arith, ints)) (pos 1_000) refl,
      (pos 1_000, pos 1_020 ∷ [], only_here set_ahead (pos 2_400) (pos 1_000) (behind_gap (pos 2_400) (omega (arith, ints)) (omega (arith, ints))), last, refl),
    ) in
    let first : FireTogether set_ahead (pos 719_163) (20 ∷ 40 ∷ 77 ∷ []) (pos 1_000 ∷ pos 1_020 ∷ []) =
    inl (λ l low high. never set_ahead (pos 1_000) (pos 0) (pos 3_600) l ChangesOnce-set_ahead (omega (arith, ints, low)) (omega (arith, ints, high)), second) in
    inr (
      λ none. none (pos 600) (omega (arith, ints)) (omega (arith, ints)) (pos 600) refl,
      (pos 600, pos 1_000 ∷ pos 1_020 ∷ [], only_here set_ahead (pos 600) (pos 600) early, first, refl),
    )
