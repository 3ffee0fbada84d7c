-- Facts of values that may be missing.
use Rattle.std.proofs.Common.{◌≡◌, ◌⊎◌, ⊎_elim, ℤ, Option, Some, None, IfNone, IfSome, IsSome, IsSomeAnd, subst, sym}

pub if_none : {X A B : Type 0} (r : Option X) → IfNone r A → (A → B) → IfNone r B
if_none None h f = f h
if_none (Some x) h f = tt

pub if_any : {X B : Type 0} (r : Option X) → B → IfNone r B
if_any None b = b
if_any (Some x) b = tt

pub if_never : {X : Type 0} (B : Type 0) (r : Option X) → IsSome r → IfNone r B
if_never B None h = absurd cc
if_never B (Some x) h = tt

pub none_then : {X B : Type 0} (r : Option X) → ((IsSome r → ⊥) → B) → IfNone r B
none_then None f = f (λ some. absurd cc)
none_then (Some x) f = tt

pub some_and : {X : Type 0} {P Q : X → Type 0} (r : Option X) → IsSomeAnd r P → ((x : X) → P x → Q x) → IsSomeAnd r Q
some_and None h f = absurd h
some_and (Some x) h f = f x h

-- of two values of which P holds, either is one
pub one_of : (P : ℤ → Type 0) (a b r : Option ℤ) → (r ≡ a) ⊎ (r ≡ b) → IfSome a P → IfSome b P → IfSome r P
one_of P a b r is h k = ⊎_elim (λ e. subst (λ (o : Option ℤ). IfSome o P) (sym e) h) (λ e. subst (λ (o : Option ℤ). IfSome o P) (sym e) k) is
