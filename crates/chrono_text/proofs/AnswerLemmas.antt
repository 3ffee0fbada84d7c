-- Answers that exist exactly under a fact, what follows where there is none, and answers that are the same.
use Rattle.std.proofs.Common.{◌≡◌, Bool, true, false, cond, Option, Some, None, IfNone, Result, Ok, refl, ap, ◌∙◌}
use Rattle.std.proofs.lemmas.Bool.{false≢true}
use Rattle.std.proofs.lemmas.Option.{none-some, same_Some}
use Rattle.std.specs.Option.{SomeIff}

-- an answer that exists exactly under a fact is the one that a test for the fact gives
pub by_test : {A : Type 0} (t : Bool) (o : Option A) (v : A) (P : Type 0) → (t ≡ true → P) → (P → t ≡ true) → SomeIff o P v → o ≡ cond t (Some v) None
by_test true (Some x) v P f g given = ap Some given.1
by_test true None v P f g given = absurd (given (f refl))
by_test false (Some x) v P f g given = absurd (false≢true (g given.0))
by_test false None v P f g given = refl

-- what follows where there is no answer
pub if_none : {A : Type 0} (o : Option A) (P Q : Type 0) → (P → Q) → IfNone o P → IfNone o Q
if_none None P Q so p = so p
if_none (Some v) P Q so p = tt

-- the values of answers that are the same
pub same_Ok : {T E : Type 0} (a b : T) → ◌≡◌ {A = Result T E} (Ok a) (Ok b) → a ≡ b
same_Ok a b e = cc

-- one answer has one value
pub the_one : {A : Type 0} (o : Option A) (a b : A) → Some a ≡ o → o ≡ Some b → a ≡ b
the_one o a b e f = same_Some a b (e ∙ f)

-- and none is no value
pub no_one : {A : Type 0} (o : Option A) (b : A) → None ≡ o → o ≡ Some b → ⊥
no_one o b e f = none-some b (e ∙ f)
