-- The parts of a list between the places where a byte stands.
use Rattle.std.proofs.Common.{◌≢◌, ◌==◌, ℕ, All, inl, inr, List, [], ◌∷◌}
use Rattle.std.specs.List.{slice_split, onto_first, AllByRecursion}
use Rattle.std.proofs.lemmas.Bool.{cases_eq, eq-eqb, ne_eqb}
use Rattle.std.proofs.lemmas.List.Elements.{All-cons, All-nil}

-- the byte stands in no part
module _ (c : ℕ) where
  abbrev Other : ℕ → Type 0
  Other x = x ≢ c

  plain_onto : (x : ℕ) (parts : List (List ℕ)) → x ≢ c → AllByRecursion (All Other) parts → AllByRecursion (All Other) (onto_first x parts)
  plain_onto x [] ne h = (All-cons Other x [] ne (All-nil Other), tt)
  plain_onto x (part ∷ parts) ne h = (All-cons Other x part ne h.0, h.1)

  pub plain_parts : (xs : List ℕ) → AllByRecursion (All (λ x. x ≢ c)) (slice_split (λ x. x == c) xs)
  plain_parts [] = (All-nil Other, tt)
  plain_parts (x ∷ xs) = elim (cases_eq x c) as (λ _. AllByRecursion (All Other) (slice_split (λ y. y == c) (x ∷ xs))) [
    | inl is ↦ rw (eq-eqb x c is) (All-nil Other, plain_parts xs)
    | inr ne ↦ rw (ne_eqb x c ne) (plain_onto x (slice_split (λ y. y == c) xs) ne (plain_parts xs))
  ]
