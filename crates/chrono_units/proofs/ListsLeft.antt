-- A call that takes an item from a list leaves fewer.
use Rattle.std.proofs.Common.{◌≡◌, suc, ◌<◌, ap, List, [], ◌∷◌, ◌++◌, length, arith, Option, Some, None}
use Rattle.std.specs.Bool.{⊤}
use Rattle.std.specs.Iterator.{MakesProgress, YieldsFirst, item_count}
use Rattle.std.proofs.lemmas.List.{length-append}

taken : {A : Type 0} (xs ys : List A) (x : A) → length xs ≡ suc (length ys) → MakesProgress (λ _. ⊤) (item_count (λ left. left)) xs (Some x) ys
taken xs ys x fewer =
    let less : length ys < length xs = omega (arith, fewer) in
    record { on = λ _. (tt, tt, less); keeps = tt; rests = λ _. tt }

pub MakesProgress-first : {A : Type 0} (xs ys : List A) (x : A) → xs ≡ x ∷ ys → MakesProgress (λ _. ⊤) (item_count (λ left. left)) xs (Some x) ys
MakesProgress-first xs ys x e = taken xs ys x (ap length e)

pub MakesProgress-last : {A : Type 0} (xs ys : List A) (x : A) → xs ≡ ys ++ x ∷ [] → MakesProgress (λ _. ⊤) (item_count (λ left. left)) xs (Some x) ys
MakesProgress-last xs ys x e = taken xs ys x (omega (arith, ap length e, length-append ys (x ∷ [])))

-- and so does a step that gives the first of what is left
pub YieldsFirst-goes : {S A : Type 0} (rest : S → List A) (s : S) (o : Option A) (t : S) → YieldsFirst rest s o t → MakesProgress (λ _. ⊤) (item_count rest) s o t
YieldsFirst-goes rest s None t h = record { on = λ _. tt; keeps = tt; rests = λ _. tt }
YieldsFirst-goes rest s (Some x) t h =
    let fewer : length (rest t) < length (rest s) = omega (arith, ap length h) in
    record { on = λ _. (tt, tt, fewer); keeps = tt; rests = λ _. tt }
