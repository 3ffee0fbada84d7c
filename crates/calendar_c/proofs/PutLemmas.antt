-- The bytes that are put are the text of the value that was found.
use Rattle.std.proofs.Common.{◌≡◌, ◌∙◌, ◌++◌, ap, [], List, ℕ, Option, Some}
use Rattle.std.specs.Option.{option_map}

pub put-found : {A : Type 0} (text_of : A → List ℕ) (o : Option A) (v : A) (bytes text start : List ℕ) → Some v ≡ o → bytes ≡ text → text ≡ start ++ text_of v → start ≡ [] → Some bytes ≡ option_map text_of o
put-found text_of o v bytes text start e f g h = rw (← e) (ap Some (f ∙ g ∙ ap (λ s. s ++ text_of v) h))
