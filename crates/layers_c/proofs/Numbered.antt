-- The value of a list with a number.
use Rattle.std.proofs.Common.{◌≡◌, ◌-◌, ◌≤◌, ◌<◌, ℕ, true, nat_le, List, length, get_or, Some, None, sym, arith}
use Rattle.std.proofs.lemmas.Bool.{le-leb}
use Rattle.std.proofs.lemmas.Option.{slice_get_past, slice_get-get_or}
use Rattle.layers_c.specs.Faults.{numbered}

pub numbered_past : {A : Type 0} (list : List A) (n : ℕ) → (n ≡ 0 → ⊥) → length list ≤ n - 1 → None ≡ numbered list n
numbered_past list n some past =
    let first : nat_le 1 n ≡ true = le-leb 1 n (omega (arith, some)) in
    rw first (sym (slice_get_past list (n - 1) past))

pub numbered_within : {A : Type 0} (list : List A) (n : ℕ) (d : A) → (n ≡ 0 → ⊥) → n - 1 < length list → Some (get_or list (n - 1) d) ≡ numbered list n
numbered_within list n d some within =
    let first : nat_le 1 n ≡ true = le-leb 1 n (omega (arith, some)) in
    rw first (sym (slice_get-get_or list (n - 1) d within))
