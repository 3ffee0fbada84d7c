-- The instants of a recurrence set in a zone, one after another.
use Rattle.std.specs.Prelude.{◌≡◌, ℤ, List, [], ◌∷◌, Option, Some, None, MatchOption}
use Rattle.std.specs.Iterator.{Count, at_most}
use Rattle.chrono_datetime.specs.Moment.{IsBefore, Moment}
use Rattle.chrono_zoned.specs.HeldSeconds.{HoldsAt, HoldsNotAfter, HoldsNotBetween}
use Rattle.chrono_zoned.specs.Zoned.{Zoned}
use Rattle.zoned_rules.specs.ZonedInstanceLists.{seconds_until_end}
use Rattle.zoned_rules.specs.ZonedSets.{IsInZonedSet}
use Rattle.zoned_rules.specs.declared.zoned_recurrence.ZonedRecurrence.{ZonedRecurrence}
use Rattle.zoned_rules.specs.declared.search.zoned_members.ZonedMembers.{ZonedMembers}

-- In what follows `ahead zone u` tells how many seconds the clock of a zone is ahead of UTC at the second u.

module _ {Z : Type 0} (ahead : Z → ℤ → ℤ) where
  -- the second u is in the set s
  abbrev pub HasSecond : ZonedRecurrence Z → ℤ → Type 0
  HasSecond s = IsInZonedSet s.rule.local (ahead s.rule.zone) s.rule.bound s.dates.now s.exceptions.now

  -- d is the first instant of s after UTC's `start`, and there is none if it is `None`
  abbrev pub IsNextMember : ZonedRecurrence Z → Moment → Option (Zoned Z) → Type 0
  IsNextMember s start None = HoldsNotAfter (HasSecond s) start
  IsNextMember s start (Some d) = HoldsAt (HasSecond s) d.utc × (d.zone ≡ s.rule.zone) × IsBefore start d.utc × HoldsNotBetween (HasSecond s) start d.utc

  -- the instants of s after `start`, in order: each is the first after the one before it, and none is left behind the last
  abbrev pub AreZonedMembers : ZonedRecurrence Z → Moment → List (Zoned Z) → Type 0
  AreZonedMembers s start [] = IsNextMember s start None
  AreZonedMembers s start (d ∷ rest) = IsNextMember s start (Some d) × AreZonedMembers s d.utc rest

  -- a call gave the next instant after the last one, which it now is; once none came, none comes
  pub record GivesMember (it : ZonedMembers Z) (given : Option (Zoned Z)) (rest : ZonedMembers Z) : Type 0 where
    pub kept : rest.set ≡ it.set
    pub moved : rest.last ≡ given
    pub next : MatchOption it.last (given ≡ None) (λ start. IsNextMember it.set start.utc given)

-- no more instants come than seconds are left
abbrev pub zoned_members_left : {Z : Type 0} → ZonedMembers Z → Count
zoned_members_left it = at_most (seconds_until_end it.last)
