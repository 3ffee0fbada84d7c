-- The instances of a rule in a zone, one after another.
use Rattle.std.specs.Prelude.{◌≡◌, ℕ, ℤ, pos, ◌-ℤ◌, unsigned_abs, List, [], ◌∷◌, Option, Some, None, MatchOption}
use Rattle.std.specs.Iterator.{Count, at_most}
use Rattle.chrono_datetime.specs.Moment.{IsBefore, Moment}
use Rattle.chrono_instant.specs.Instants.{epoch_second}
use Rattle.chrono_zoned.specs.Zoned.{Zoned}
use Rattle.zoned_rules.specs.Recurs.{IsInstanceAt, NoInstanceAfter, NoInstanceBetween}
use Rattle.zoned_rules.specs.declared.zoned_rule.ZonedRule.{ZonedRule}
use Rattle.zoned_rules.specs.declared.search.zoned_instances.ZonedInstances.{ZonedInstances}

-- In what follows `ahead zone u` tells how many seconds the clock of a zone is ahead of UTC at the second u.

module _ {Z : Type 0} (ahead : Z → ℤ → ℤ) where
  -- d is the first instance of z after UTC's `start`, and there is none if it is `None`
  abbrev pub IsNextInstance : ZonedRule Z → Moment → Option (Zoned Z) → Type 0
  IsNextInstance z start None = NoInstanceAfter z.local (ahead z.zone) z.bound start
  IsNextInstance z start (Some d) =
      IsInstanceAt z.local (ahead z.zone) z.bound d.utc × (d.zone ≡ z.zone) × IsBefore start d.utc × NoInstanceBetween z.local (ahead z.zone) z.bound start d.utc

  -- the instances of z after `start`, in order: each is the first after the one before it, and none is left behind the last
  abbrev pub AreZonedInstances : ZonedRule Z → Moment → List (Zoned Z) → Type 0
  AreZonedInstances z start [] = IsNextInstance z start None
  AreZonedInstances z start (d ∷ rest) = IsNextInstance z start (Some d) × AreZonedInstances z d.utc rest

  -- a call gave the next instance after the last one, which it now is; once none came, none comes
  pub record GivesInstance (it : ZonedInstances Z) (given : Option (Zoned Z)) (rest : ZonedInstances Z) : Type 0 where
    pub kept : rest.rule ≡ it.rule
    pub moved : rest.last ≡ given
    pub next : MatchOption it.last (given ≡ None) (λ start. IsNextInstance it.rule start.utc given)

-- how many seconds begin after an instant, up to the end of UTC's last date
abbrev pub seconds_until_end : {Z : Type 0} → Option (Zoned Z) → ℕ
seconds_until_end None = 0
seconds_until_end (Some d) = unsigned_abs (pos 8_210_266_876_799 -ℤ epoch_second d.utc)

-- no more instances come than that
abbrev pub zoned_instances_left : {Z : Type 0} → ZonedInstances Z → Count
zoned_instances_left it = at_most (seconds_until_end it.last)
