-- A list that is written place by place: what is written, and what is to be written behind it, stay the same list.
use Rattle.std.proofs.Common.{◌≡◌, ◌∙◌, ◌+◌, ◌-◌, ◌≤◌, ◌<◌, ◌++◌, ℕ, zero, suc, Bool, true, false, List, [], ◌∷◌, length, map, take, drop, refl, ap, sym, arith}
use Rattle.std.specs.Prelude.{slice_set, take_while}
use Rattle.std.specs.List.{prefix_len}
use Rattle.std.proofs.lemmas.List.{append-nil, append_assoc, drop-drop, drop-set-lt, length-take-le, take_more_set}

pub nothing : {X : Type 0} (k : ℕ) → take {A = X} k [] ≡ []
nothing zero = refl
nothing (suc k) = refl

one_more : (n : ℕ) → 1 + n ≡ suc n
one_more n = omega arith

module _ {M C : Type 0} (f : M → C) (p : M → Bool) where
  -- the first k values of those in front that pass
  abbrev pub shown : ℕ → List M → List C
  shown k ms = take k (map f (take_while p ms))

  pub shown-none : (k : ℕ) (ms : List M) → ms ≡ [] → shown k ms ≡ []
  shown-none k ms e = ap (shown k) e ∙ nothing k

  pub shown-failing : (k : ℕ) (ms : List M) (m : M) (rest : List M) → ms ≡ m ∷ rest → p m ≡ false → shown k ms ≡ []
  shown-failing k ms m rest e fails = ap (shown k) e ∙ failing k m rest fails
    where
      failing : (k : ℕ) (m : M) (rest : List M) → p m ≡ false → shown k (m ∷ rest) ≡ []
      failing k m rest fails = rw fails (nothing k)

  pub shown-passing : (k : ℕ) (ms : List M) (m : M) (rest : List M) → ms ≡ m ∷ rest → p m ≡ true → shown (suc k) ms ≡ f m ∷ shown k rest
  shown-passing k ms m rest e passes = ap (shown (suc k)) e ∙ passing k m rest passes
    where
      passing : (k : ℕ) (m : M) (rest : List M) → p m ≡ true → shown (suc k) (m ∷ rest) ≡ f m ∷ shown k rest
      passing k m rest passes = rw (passes, one_more (prefix_len p rest)) refl

  -- one value more is written
  pub one-written : (room count : ℕ) (out : List C) (ms : List M) (m : M) (rest : List M) → count < room → length out ≡ room → ms ≡ m ∷ rest → p m ≡ true
      → take count out ++ shown (room - count) ms ≡ take (count + 1) (slice_set out count (f m)) ++ shown (room - (count + 1)) rest
  one-written room count out ms m rest lt all e passes =
      let left_over : room - count ≡ suc (room - (count + 1)) = omega (arith, lt) in
      ap (λ k. take count out ++ shown k ms) left_over
      ∙ ap (λ l. take count out ++ l) (shown-passing (room - (count + 1)) ms m rest e passes)
      ∙ sym (append_assoc (take count out) (f m ∷ []) (shown (room - (count + 1)) rest))
      ∙ ap (λ l. l ++ shown (room - (count + 1)) rest) (sym (take_more_set out count (f m) (omega (arith, lt, all))))

-- what lies behind stays
pub rest-kept : {C : Type 0} (out begun : List C) (count : ℕ) (x : C) → drop count out ≡ drop count begun → drop (count + 1) (slice_set out count x) ≡ drop (count + 1) begun
rest-kept out begun count x same =
    drop-set-lt (count + 1) out count x (omega arith) ∙ sym (drop-drop 1 count out) ∙ ap (drop 1) same ∙ drop-drop 1 count begun

-- nothing is left to write
pub all-written : {C : Type 0} (whole out left : List C) (count : ℕ) → whole ≡ take count out ++ left → left ≡ [] → take count out ≡ whole
all-written whole out left count e none = sym (e ∙ ap (λ l. take count out ++ l) none ∙ append-nil (take count out))

pub written-count : {C : Type 0} (whole out left : List C) (count : ℕ) → whole ≡ take count out ++ left → left ≡ [] → count ≤ length out → count ≡ length whole
written-count whole out left count e none few = sym (length-take-le count out few) ∙ ap length (all-written whole out left count e none)
