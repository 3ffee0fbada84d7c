-- What a walk over the days of a rule keeps of the past. Private functions alone use it.
use Rattle.std.specs.Prelude.{◌≡◌, ℕ, ◌+◌, nat_lt, Bool, true, false, ℤ, ◌≤ℤ◌}
use Rattle.chrono_datetime.specs.Recurrence.{count_between}
use Rattle.chrono_rules.specs.Instances.{is_instance, is_member}
use Rattle.chrono_rules.specs.declared.rule.End.{End}
use Rattle.chrono_rules.specs.declared.rule.End.TheVariants.{Count, Never, Until}
use Rattle.chrono_rules.specs.declared.rule.Rule.{Rule}

-- what a walk keeps of the past: how many members came before the day, from the start on. Without COUNT it need not count
unfoldable pub seen_before : End → Rule → ℤ → ℤ → ℕ
seen_before Never r start n = 0
seen_before (Until u) r start n = 0
seen_before (Count c) r start n = count_between (is_member r start) start n

-- after `seen` members one more may be an instance: without COUNT always, and with COUNT if they are fewer
unfoldable pub may_follow : End → ℕ → Bool
may_follow Never seen = true
may_follow (Until u) seen = true
may_follow (Count c) seen = nat_lt seen c

-- what a walk keeps of the past behind one more member
unfoldable pub seen_with : End → ℕ → ℕ
seen_with Never seen = seen
seen_with (Until u) seen = seen
seen_with (Count c) seen = seen + 1

-- a walk at the day n has seen as many members as came before it, or so many that no instance is left from it on
pub record IsKept (r : Rule) (start n : ℤ) (seen : ℕ) : Type 0 where
  pub counted : may_follow r.end seen ≡ true → seen ≡ seen_before r.end r start n
  pub ended : may_follow r.end seen ≡ false → (d : ℤ) → n ≤ℤ d → is_instance r start d ≡ false
