-- What fires where a clock is set by three hours, or by about as much.
use Rattle.std.proofs.Common.{◌↔◌, ◌⊎◌, ⊎_elim, inl, inr, ◌≡◌, ℤ, pos, arith, refl, subst}
use Rattle.std.proofs.lemmas.Int.{by_lt_z, ints}
use Rattle.chrono_zoned.proofs.OneChangeLemmas.{ChangesOnce-test, never, once_late, twice}
use Rattle.zoned_cron.specs.Fires.{ChangesAreShort, IsBehindGap, IsShortStep, Takes, as_planned, once_each}
use Rattle.zoned_cron.specs.KnownClocks.{set_once}
use Rattle.zoned_cron.proofs.Instants.{in_gap}

pub short_once : (ahead : ℤ → ℤ) → ChangesAreShort ahead → (l u : ℤ) → Takes as_planned ahead l u ↔ Takes once_each ahead l u
short_once ahead short l u = (
  λ h. ⊎_elim
      (λ first. inl (first.0, λ v shows. ⊎_elim (λ le. le) (λ late. absurd (omega (arith, ints, late, short.folds l v u shows first.0))) (first.1 v shows)))
      (λ behind. inr behind.0)
      h,
  λ h. ⊎_elim (λ first. inl (first.0, λ v shows. inl (first.1 v shows))) (λ behind. inr (behind, short.steps u)) h,
)

abbrev ahead_short : ℤ → ℤ
ahead_short = set_once (pos 0) (pos 10_799)

abbrev ahead_long : ℤ → ℤ
ahead_long = set_once (pos 0) (pos 10_800)

abbrev back_short : ℤ → ℤ
back_short = set_once (pos 10_800) (pos 0)

abbrev back_long : ℤ → ℤ
back_long = set_once (pos 10_801) (pos 0)

pub short_gap : Takes as_planned ahead_short (pos 105_000) (pos 100_000)
short_gap =
    let changes = ChangesOnce-test (pos 100_000) (pos 0) (pos 10_799) in
    let only = once_late ahead_short (pos 100_000) (pos 0) (pos 10_799) (pos 110_799) changes (omega (arith, ints)) (omega (arith, ints)) in
    let behind : IsBehindGap ahead_short (pos 105_000) (pos 100_000) = record {
      later = omega (arith, ints);
      skipped = λ j from to. never ahead_short (pos 100_000) (pos 0) (pos 10_799) j changes (omega (arith, ints, from)) (omega (arith, ints, to));
      first = ((only (pos 100_000)).1 refl, λ v shows. omega (arith, ints, (only v).0 shows));
    } in
    inr (behind, omega (arith, ints))

not_short : IsShortStep ahead_long (pos 100_000) → ⊥
not_short step = absurd (omega (arith, ints, step))

pub long_gap : (u : ℤ) → ¬ Takes as_planned ahead_long (pos 105_000) u
long_gap u (inl shown) =
    never ahead_long (pos 100_000) (pos 0) (pos 10_800) (pos 105_000) (ChangesOnce-test (pos 100_000) (pos 0) (pos 10_800)) (omega (arith, ints)) (omega (arith, ints)) u shown.0
long_gap u (inr behind) =
    let changes = ChangesOnce-test (pos 100_000) (pos 0) (pos 10_800) in
    let later = behind.0.later in
    by_lt_z u (pos 100_000)
    (λ lt. absurd (omega (arith, ints, lt, changes.early u lt, later)))
    (λ ge. by_lt_z (pos 100_000) u
    (λ past. behind.0.skipped (pos 110_800) (omega (arith, ints)) (omega (arith, ints, past, changes.late u ge)) (pos 100_000) refl)
    (λ le.
    let at : u ≡ pos 100_000 = omega (arith, ints, ge, le) in
    not_short (subst (λ (x : ℤ). IsShortStep ahead_long x) at behind.1)))

pub short_fold : ¬ Takes as_planned back_short (pos 105_000) (pos 105_000)
short_fold (inl shown) = ⊎_elim (λ le. absurd (omega (arith, ints, le))) (λ late. absurd (omega (arith, ints, late))) (shown.1 (pos 94_200) refl)
short_fold (inr behind) = in_gap back_short (pos 105_000) (pos 105_000) behind.0 (pos 105_000) refl

pub long_fold : Takes as_planned back_long (pos 105_000) (pos 105_000)
long_fold =
    let two = twice back_long (pos 100_000) (pos 10_801) (pos 0) (pos 105_000) (ChangesOnce-test (pos 100_000) (pos 10_801) (pos 0)) (omega (arith, ints)) (omega (arith, ints)) in
    inl (refl, λ v shows. ⊎_elim (λ e. inr (omega (arith, ints, e))) (λ e. inl (omega (arith, ints, e))) ((two.1 v).0 shows))
