-- Walks over lists of instants.
use Rattle.std.proofs.Common.{◌≡◌, ◌⊎◌, ⊎_elim, inl, inr, ◌||◌, true, ℤ, Option, Some, None, IfSome, List, ◌∷◌, ap, subst, sym, ◌∙◌}
use Rattle.std.specs.Ordering.{int_eq}
use Rattle.std.proofs.lemmas.Bool.{or_cases}
use Rattle.std.proofs.lemmas.Bool.Decides.{Decides-int_eq}
use Rattle.std.proofs.Math.Bool.{or-true}
use Rattle.chrono_instant.specs.Instants.{epoch_second}
use Rattle.chrono_zoned.specs.Zoned.{Zoned}
use Rattle.chrono_zoned.proofs.OptionLemmas.{one_of}
use Rattle.zoned_rules.specs.LocalInstants.{HasDates}
use Rattle.zoned_rules.specs.ZonedSets.{lists_second}

-- R tells what was reached, and N which seconds count
module _ {Z : Type 0} (R : Option ℤ → ℤ → Type 0) (N : ℤ → Type 0) (ahead : ℤ → ℤ) (all : List (Zoned Z)) where
  -- of all instants, what was found is reached from each but the rest, and is one of them
  pub record IsWalkedOver (rest : List (Zoned Z)) (found : Option ℤ) : Type 0 where
    pub part : (u : ℤ) → lists_second rest u ≡ true → lists_second all u ≡ true
    pub seen : (u : ℤ) → N u → HasDates ahead u → lists_second all u ≡ true → (lists_second rest u ≡ true) ⊎ R found u
    pub one : IfSome found (λ c. N c × HasDates ahead c × (lists_second all c ≡ true))

  -- of the second s, what was found is that one if it counts
  pub record IsThatSecond (s : ℤ) (found : Option ℤ) : Type 0 where
    pub found_it : IfSome found (λ c. (c ≡ s) × N c × HasDates ahead c)
    pub only : N s → HasDates ahead s → R found s

  counts : (s : ℤ) (found : Option ℤ) → lists_second all s ≡ true → IfSome found (λ c. (c ≡ s) × N c × HasDates ahead c) → IfSome found (λ c. N c × HasDates ahead c × (lists_second all c ≡ true))
  counts s None listed h = tt
  counts s (Some c) listed h = (h.1, h.2, ap (lists_second all) h.0 ∙ listed)

  pub walks_on : (s : ℤ) (first : Zoned Z) (rest others : List (Zoned Z)) (best this found : Option ℤ) → rest ≡ (first ∷ others) → s ≡ epoch_second first.utc → IsWalkedOver rest best → IsThatSecond s this → ((u : ℤ) → R best u ⊎ R this u → R found u) → (found ≡ best) ⊎ (found ≡ this) → IsWalkedOver others found
  walks_on s first rest others best this found is at h that both either =
      let part : (u : ℤ) → lists_second (first ∷ others) u ≡ true → lists_second all u ≡ true =
      λ u listed. h.part u (ap (λ l. lists_second l u) is ∙ listed) in
      let head : lists_second (first ∷ others) s ≡ true =
      ap (λ b. b || lists_second others s) ((Decides-int_eq (epoch_second first.utc) s).1 (sym at)) in
      record {
        part = λ u listed. part u (ap (λ b. int_eq (epoch_second first.utc) u || b) listed ∙ or-true (int_eq (epoch_second first.utc) u));
        seen = λ u counted dates listed. ⊎_elim
            (λ in_rest. ⊎_elim
            (λ same.
            let same_second : s ≡ u = at ∙ (Decides-int_eq (epoch_second first.utc) u).0 same in
            inr (both u (inr (subst (λ (x : ℤ). R this x) same_second (that.only (subst N (sym same_second) counted) (subst (λ (x : ℤ). HasDates ahead x) (sym same_second) dates))))))
            (λ behind. inl behind)
            (or_cases (int_eq (epoch_second first.utc) u) (lists_second others u) (ap (λ l. lists_second l u) (sym is) ∙ in_rest)))
            (λ reached. inr (both u (inl reached)))
            (h.seen u counted dates listed);
        one = one_of (λ c. N c × HasDates ahead c × (lists_second all c ≡ true)) best this found either h.one (counts s this (part s head) that.found_it);
      }
