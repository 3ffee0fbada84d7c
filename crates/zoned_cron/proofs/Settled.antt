-- The first and the last firing where no change is near.
use Rattle.std.proofs.Common.{◌≡◌, true, ℤ, pos, ◌+ℤ◌, ◌≤ℤ◌, ◌-ℤ◌, ◌<ℤ◌, Some, ap, arith, refl, ◌∙◌}
use Rattle.std.proofs.lemmas.Int.{ints}
use Rattle.chrono_datetime.specs.Moment.{IsBefore, IsMoment, Moment}
use Rattle.chrono_instant.specs.Instants.{LiesIn, epoch_second}
use Rattle.chrono_instant.specs.Offsets.{IsOffset}
use Rattle.chrono_instant.proofs.InstantLemmas.{IsEpochSecond-moment}
use Rattle.chrono_zoned.specs.Zoned.{Zoned}
use Rattle.chrono_zoned.specs.Zones.{HoldsUntil}
use Rattle.chrono_zoned.proofs.HeldSecondLemmas.{IsFirstFrom, earlier_there, holds_there, later_second, later_there, none_between, none_between_back}
use Rattle.chrono_cron.specs.Due.{NotDueBetween, is_due}
use Rattle.zoned_cron.specs.declared.schedule.ZonedSchedule.{ZonedSchedule}
use Rattle.zoned_cron.specs.Fires.{Fires}
use Rattle.zoned_cron.specs.FiringLists.{IsNextFiring}
use Rattle.zoned_cron.specs.Private.{IsHeld, IsNextAtOffset, IsPreviousFiring, IsSettledAt, Outlasts, Precedes}
use Rattle.zoned_cron.specs.declared.search.held.Held.{Held}
use Rattle.zoned_cron.proofs.Stretches.{all_within, first_least, first_there, last_there, planned_at, planned_first, settled_greatest}
use Rattle.zoned_cron.proofs.Windows.{due_fraction}

-- the offset that the zone has at `from` holds until some second, and each of its offsets is less than a day
pub record IsStretch (ahead : ℤ → ℤ) (from until : ℤ) : Type 0 where
  pub holds : HoldsUntil ahead from until
  pub near : (v : ℤ) → IsOffset (ahead v)

-- a local time is due, and no other from `start` up to it
pub record IsNextDue {Z : Type 0} (z : ZonedSchedule Z) (start m : Moment) : Type 0 where
  pub exists : IsMoment m
  pub due : is_due z.schedule.sets m ≡ true
  pub later : IsBefore start m
  pub least : NotDueBetween z.schedule.sets start m

pub record IsLastDue {Z : Type 0} (z : ZonedSchedule Z) (end m : Moment) : Type 0 where
  pub exists : IsMoment m
  pub due : is_due z.schedule.sets m ≡ true
  pub earlier : IsBefore m end
  pub greatest : NotDueBetween z.schedule.sets m end

lies_in : {Z : Type 0} (ahead : Z → ℤ → ℤ) (z : ZonedSchedule Z) (m : Moment) (d : Zoned Z) → is_due z.schedule.sets m ≡ true → IsSettledAt ahead z.zone m d → LiesIn (epoch_second d.utc) 0 d.utc
lies_in ahead z m d due found = record { second = refl; past = found.fraction ∙ due_fraction z.schedule.sets m due; exists = found.local.exists }

pub next_settled : {Z : Type 0} (ahead : Z → ℤ → ℤ) (z : ZonedSchedule Z) (from until : ℤ) (start local planned : Moment) (d : Zoned Z) → IsStretch (ahead z.zone) from until → (from +ℤ pos 172_800) ≤ℤ epoch_second start → (epoch_second start +ℤ pos 172_800) ≤ℤ until → IsMoment start → IsMoment local → epoch_second local ≡ (epoch_second start +ℤ ahead z.zone from) → IsNextDue z local planned → IsSettledAt ahead z.zone planned d → IsNextFiring ahead z start (Some d)
next_settled ahead z from until start local planned d stretch begun long i j is next found =
    let s = z.schedule.sets in
    let clock = ahead z.zone in
    let c = epoch_second d.utc in
    let l = epoch_second planned in
    let later : epoch_second local <ℤ l = later_second local planned j next.later (due_fraction s planned next.due) in
    let there = first_there s clock z.policy from until (epoch_second start) (epoch_second local) l c stretch.holds begun long is later (planned_at s planned next.exists next.due) found.shows found.settled (IsEpochSecond-moment d.utc found.local.exists) in
    let least = first_least s clock z.policy from until (epoch_second start) (epoch_second local) l c stretch.holds begun long is (λ k after h. planned_first s local planned j next.exists next.least refl refl k after h) found.shows found.settled in
    let lies = lies_in ahead z planned d next.due found in (
      holds_there (Fires s clock z.policy) c d.utc lies refl there.1,
      found.local.zone,
      later_there start d.utc c there.0 refl lies refl i,
      none_between (Fires s clock z.policy) start d.utc c least refl lies refl i,
    )

-- by its offset the clock shows the next planned time after the start
pub shown_later : {Z : Type 0} (z : ZonedSchedule Z) (offset : ℤ) (start m : Moment) → IsNextAtOffset z offset start m → epoch_second start <ℤ (epoch_second m -ℤ offset)
shown_later z offset start m due =
    let more = later_second due.local m due.local_exists due.later (due_fraction z.schedule.sets m due.due) in
    omega (arith, ints, more, due.second)

-- the same for a stretch that a search keeps
pub next_held : {Z : Type 0} (ahead : Z → ℤ → ℤ) (z : ZonedSchedule Z) (h : Held) (start m : Moment) (d : Zoned Z) → IsHeld (ahead z.zone) h → Precedes h (epoch_second start) → Outlasts h (epoch_second start) → IsNextAtOffset z h.offset start m → IsSettledAt ahead z.zone m d → IsNextFiring ahead z start (Some d)
next_held ahead z h start m d held begun high due found =
    let is : epoch_second due.local ≡ (epoch_second start +ℤ ahead z.zone h.from) = due.second ∙ ap (λ (x : ℤ). epoch_second start +ℤ x) held.offset in
    next_settled ahead z h.from h.until start due.local m d (record { holds = held.holds; near = held.near }) begun high due.begin due.local_exists is (record { exists = due.exists; due = due.due; later = due.later; least = due.least }) found

pub last_settled_there : {Z : Type 0} (ahead : Z → ℤ → ℤ) (z : ZonedSchedule Z) (from until stop : ℤ) (end local planned : Moment) (d : Zoned Z) → IsStretch (ahead z.zone) from until → (from +ℤ pos 172_800) ≤ℤ stop → stop ≤ℤ until → IsFirstFrom stop end → IsMoment end → LiesIn (stop +ℤ ahead z.zone from) 0 local → IsLastDue z local planned → IsSettledAt ahead z.zone planned d → IsPreviousFiring ahead z end d
last_settled_there ahead z from until stop end local planned d stretch begun high first i is last found =
    let s = z.schedule.sets in
    let clock = ahead z.zone in
    let c = epoch_second d.utc in
    let l = epoch_second planned in
    let sooner : l <ℤ epoch_second local = later_second planned local last.exists last.earlier is.past in
    let there = last_there s clock z.policy from until stop (epoch_second local) l c stretch.holds begun high is.second sooner (planned_at s planned last.exists last.due) found.shows found.settled (IsEpochSecond-moment d.utc found.local.exists) in
    let greatest : (u : ℤ) → u <ℤ stop → Fires s clock z.policy u → u ≤ℤ c = λ u before f.
    settled_greatest s clock z.policy l c u found.settled found.shows f
    (all_within s clock z.policy from until stop (epoch_second local) local planned stretch.holds stretch.near begun high is.second refl is.exists last.greatest last.exists u before f) in
    let lies = lies_in ahead z planned d last.due found in (
      holds_there (Fires s clock z.policy) c d.utc lies refl there.1,
      found.local.zone,
      earlier_there end d.utc c there.0 lies first refl i,
      none_between_back (Fires s clock z.policy) end d.utc c greatest lies first refl i,
    )
