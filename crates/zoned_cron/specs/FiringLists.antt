-- The instants at which a schedule fires, one after another.
use Rattle.std.specs.Prelude.{◌≡◌, ℕ, ℤ, pos, ◌-ℤ◌, unsigned_abs, List, [], ◌∷◌, Option, Some, None, MatchOption}
use Rattle.std.specs.Iterator.{Count, at_most}
use Rattle.chrono_datetime.specs.Moment.{IsBefore, Moment}
use Rattle.chrono_instant.specs.Instants.{epoch_second}
use Rattle.chrono_zoned.specs.Zoned.{Zoned}
use Rattle.zoned_cron.specs.declared.schedule.ZonedSchedule.{ZonedSchedule}
use Rattle.zoned_cron.specs.Fires.{FiresAt, NotFiringAfter, NotFiringBetween}

-- what an iterator has left: the instants of a schedule in its zone after the last one, and none once there is no last one
pub record FiringsLeft (Z : Type 0) : Type 0 where
  pub schedule : ZonedSchedule Z
  pub last : Option (Zoned Z)

-- In what follows `ahead zone u` tells how many seconds the clock of a zone is ahead of UTC at the second u.

module _ {Z : Type 0} (ahead : Z → ℤ → ℤ) where
  -- r is the first instant after UTC's `start` at which z fires, and there is none if r is `None`
  abbrev pub IsNextFiring : ZonedSchedule Z → Moment → Option (Zoned Z) → Type 0
  IsNextFiring z start None = NotFiringAfter z.schedule.sets (ahead z.zone) z.policy start
  IsNextFiring z start (Some d) =
      FiresAt z.schedule.sets (ahead z.zone) z.policy d.utc × (d.zone ≡ z.zone) × IsBefore start d.utc
      × NotFiringBetween z.schedule.sets (ahead z.zone) z.policy start d.utc

  -- the instants after `start` at which z fires, in order: each is the first after the one before it, and none is left behind the last
  abbrev pub AreFirings : ZonedSchedule Z → Moment → List (Zoned Z) → Type 0
  AreFirings z start [] = IsNextFiring z start None
  AreFirings z start (d ∷ rest) = IsNextFiring z start (Some d) × AreFirings z d.utc rest

  -- a call gave the next instant after the last one, which it now is; once none came, none comes
  pub record GivesNext (it : FiringsLeft Z) (r : Option (Zoned Z)) (rest : FiringsLeft Z) : Type 0 where
    pub kept : rest.schedule ≡ it.schedule
    pub moved : rest.last ≡ r
    pub next : MatchOption it.last (r ≡ None) (λ start. IsNextFiring it.schedule start.utc r)

-- how many seconds begin after an instant, up to the end of UTC's last date
abbrev pub seconds_after : {Z : Type 0} → Option (Zoned Z) → ℕ
seconds_after None = 0
seconds_after (Some d) = unsigned_abs (pos 8_210_266_876_799 -ℤ epoch_second d.utc)

-- no more instants come than that
abbrev pub instants_left : {Z : Type 0} → FiringsLeft Z → Count
instants_left it = at_most (seconds_after it.last)
