-- The first firing where the clock keeps its offset until then, and shows the planned local time at no other instant.
use Rattle.std.proofs.Common.{◌≡◌, ℤ, ◌+ℤ◌, ◌-ℤ◌, ◌<ℤ◌, Some, ap, arith, refl, subst, sym, ◌∙◌}
use Rattle.std.proofs.lemmas.Int.{ints}
use Rattle.chrono_datetime.specs.Moment.{IsMoment, Moment}
use Rattle.chrono_instant.specs.Instants.{LiesIn, epoch_second}
use Rattle.chrono_instant.specs.Offsets.{IsOffset}
use Rattle.chrono_instant.proofs.InstantLemmas.{IsEpochSecond-moment}
use Rattle.chrono_zoned.specs.Zoned.{IsLocal, Zoned}
use Rattle.chrono_zoned.specs.Zones.{HoldsUntil, IsOnly, Shows}
use Rattle.chrono_zoned.proofs.HeldSecondLemmas.{holds_there, later_second, later_there, none_between}
use Rattle.zoned_cron.specs.declared.schedule.ZonedSchedule.{ZonedSchedule}
use Rattle.zoned_cron.specs.Fires.{Fires}
use Rattle.zoned_cron.specs.FiringLists.{IsNextFiring}
use Rattle.zoned_cron.specs.Private.{IsHeld, IsNextAtOffset, IsOnceIn, Precedes}
use Rattle.zoned_cron.specs.declared.search.held.Held.{Held}
use Rattle.zoned_cron.proofs.HeldInstants.{begins_sooner, holds_from_start, only_between}
use Rattle.zoned_cron.proofs.Settled.{IsNextDue, shown_later}
use Rattle.zoned_cron.proofs.Stretches.{least_in_stretch, near_shows, only_fires, planned_at, planned_first}
use Rattle.zoned_cron.proofs.Windows.{due_fraction}

-- by the offset of the stretch the clock shows a later local second at a later instant
later_shown : (start local l o c : ℤ) → local ≡ (start +ℤ o) → local <ℤ l → c ≡ (l -ℤ o) → start <ℤ c
later_shown start local l o c is later at = omega (arith, ints, is, later, at)

-- so it shows the next planned time within the stretch
pub shows_in_stretch : (ahead : ℤ → ℤ) (start until local l c : ℤ) → HoldsUntil ahead start until → local ≡ (start +ℤ ahead start) → local <ℤ l → c ≡ (l -ℤ ahead start) → c <ℤ until → Shows ahead l c
shows_in_stretch ahead start until local l c holds is later at within =
    near_shows ahead start until l c holds at (omega (arith, ints, later_shown start local l (ahead start) c is later at)) within

pub next_shown_once : {Z : Type 0} (ahead : Z → ℤ → ℤ) (z : ZonedSchedule Z) (until only : ℤ) (start local planned : Moment) (d : Zoned Z) → HoldsUntil (ahead z.zone) (epoch_second start) until → ((v : ℤ) → IsOffset (ahead z.zone v)) → IsMoment start → IsMoment local → epoch_second local ≡ (epoch_second start +ℤ ahead z.zone (epoch_second start)) → IsNextDue z local planned → (epoch_second planned -ℤ ahead z.zone (epoch_second start)) <ℤ until → IsOnly (Shows (ahead z.zone) (epoch_second planned)) only → epoch_second d.utc ≡ (epoch_second planned -ℤ ahead z.zone (epoch_second start)) → d.utc.time.fraction ≡ planned.time.fraction → IsLocal ahead z.zone planned d → IsNextFiring ahead z start (Some d)
next_shown_once ahead z until only start local planned d holds offsets i j is next within mapped at fraction found =
    let s = z.schedule.sets in
    let clock = ahead z.zone in
    let c = epoch_second d.utc in
    let l = epoch_second planned in
    let before : c <ℤ until = subst (λ (x : ℤ). x <ℤ until) (sym at) within in
    let later : epoch_second local <ℤ l = later_second local planned j next.later (due_fraction s planned next.due) in
    let shows : Shows clock l c = shows_in_stretch clock (epoch_second start) until (epoch_second local) l c holds is later at before in
    let here : IsOnly (Shows clock l) c = subst (λ (x : ℤ). IsOnly (Shows clock l) x) (sym ((mapped c).0 shows)) mapped in
    let fires = only_fires s clock z.policy l c (IsEpochSecond-moment d.utc found.exists) (offsets c) here (planned_at s planned next.exists next.due) in
    let least = least_in_stretch s clock z.policy until (epoch_second start) (epoch_second local) l c holds offsets is (λ k after h. planned_first s local planned j next.exists next.least refl refl k after h) at before in
    let lies : LiesIn c 0 d.utc = record { second = refl; past = fraction ∙ due_fraction s planned next.due; exists = found.exists } in (
      holds_there (Fires s clock z.policy) c d.utc lies refl fires,
      found.zone,
      later_there start d.utc c (later_shown (epoch_second start) (epoch_second local) l (clock (epoch_second start)) c is later at) refl lies refl i,
      none_between (Fires s clock z.policy) start d.utc c least refl lies refl i,
    )

-- so it is where all instants of the planned local time lie in a stretch that a search keeps
pub next_between : {Z : Type 0} (ahead : Z → ℤ → ℤ) (z : ZonedSchedule Z) (h : Held) (start m : Moment) (d : Zoned Z) → IsHeld (ahead z.zone) h → Precedes h (epoch_second start) → IsNextAtOffset z h.offset start m → IsOnceIn ahead z.zone h m d → IsNextFiring ahead z start (Some d)
next_between ahead z h start m d held begun due found =
    let clock = ahead z.zone in
    let x = epoch_second start in
    let l = epoch_second m in
    let later = shown_later z h.offset start m due in
    let low = begins_sooner clock h x l held begun later in
    let there = holds_from_start clock h x l held begun later found.high in
    let is : epoch_second due.local ≡ (x +ℤ clock x) = due.second ∙ ap (λ (o : ℤ). x +ℤ o) (sym there.0) in
    let same : (l -ℤ h.offset) ≡ (l -ℤ clock x) = ap (λ (o : ℤ). l -ℤ o) (sym there.0) in
    next_shown_once ahead z h.until (l -ℤ h.offset) start due.local m d there.2 held.near due.begin due.local_exists is
    (record { exists = due.exists; due = due.due; later = due.later; least = due.least }) (subst (λ (c : ℤ). c <ℤ h.until) same there.1)
    (only_between clock h l held low found.high) (found.second ∙ same) found.fraction found.local
