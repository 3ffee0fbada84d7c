use Rattle.std.proofs.Common.{◌≡◌, ap, ℤ, Bool, true, IsTrue, ◌↔◌, int_eq, arith, rules}
use Rattle.std.proofs.lemmas.Int.{ints}
use Rattle.chrono_naive.specs.DateLists.{days_of_week}
use Rattle.chrono_naive.proofs.DateListLemmas.{days_of_week-same}
use Rattle.chrono_naive.proofs.naive_week.NaiveWeekPartialEq.eq.Goals as goal

equal : (a b : ℤ) → int_eq a b ≡ true → a ≡ b
equal a b e = grind (arith, ints)

tested : (a b : ℤ) → a ≡ b → int_eq a b ≡ true
tested a b e = grind (arith, ints)

same_days : (a b : ℤ) (r : Bool) → r ≡ int_eq a b → IsTrue r ↔ (days_of_week a ≡ days_of_week b)
same_days a b r e = rw e ((λ t. ap days_of_week (equal a b t)), (λ d. tested a b (days_of_week-same a b d)))

pub returns-clause-number : goal.returns-clause-number
returns-clause-number c = search rules

pub returns-clause-days : goal.returns-clause-days
returns-clause-days c = same_days c.args.self.now c.args.other.now _ (returns-clause-number c)
