-- An instance that is found, as the number that stands for it.
use Rattle.std.proofs.Common.{◌≡◌, Option, refl, ℕ, ℤ}
use Rattle.chrono_calendar.specs.Days.{date_of_day}
use Rattle.chrono_rules.specs.declared.rule.Rule.{Rule}
use Rattle.layers_c.specs.Rules.{IsLastInstance, IsNextInstance, instances_up_to}

pub next-is : (r s : Rule) (start first day from n : ℤ) (o : Option ℤ) → s ≡ r → first ≡ start → from ≡ day → date_of_day n ≡ o → IsNextInstance s first from o
    → IsNextInstance r start day (date_of_day n)
next-is r s start first day from n o a b c e h = rw (e, ← a, ← b, ← c) h

pub last-is : (r s : Rule) (start first day from n : ℤ) (o : Option ℤ) → s ≡ r → first ≡ start → from ≡ day → date_of_day n ≡ o → IsLastInstance s first from o
    → IsLastInstance r start day (date_of_day n)
last-is r s start first day from n o a b c e h = rw (e, ← a, ← b, ← c) h

pub same_instances : (r s : Rule) (start first from since until last : ℤ) (room : ℕ) → s ≡ r → first ≡ start → since ≡ from → last ≡ until
    → instances_up_to s first since last room ≡ instances_up_to r start from until room
same_instances r s start first from since until last room a b c d = rw (a, b, c, d) refl
