-- What a refused conversion says.
use Rattle.std.proofs.Common.{◌≡◌, false, Result, Ok, Err, is_ok, OkIff}

pub no_value : {A E : Type 0} (r : Result A E) (P : Type 0) (v : A) → OkIff r P v → false ≡ is_ok r → P → ⊥
no_value (Ok x) P v h e p = cc
no_value (Err x) P v h e p = h p
