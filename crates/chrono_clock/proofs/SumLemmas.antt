-- Lemmas on sums of durations, of which each beginning is in range.
use Rattle.std.proofs.Common.{lit≤, zero, suc, ◌≡◌, List, [], ◌∷◌, ◌++◌, length, take, ℤ, pos, ◌+ℤ◌, arith, sym, ap, ◌∙◌, subst, length-append, map, Bor, Option, None, Some, MatchOption}
use Rattle.std.specs.Iterator.Runs.{SomeRun, WholeRun, EachRunFrom, IsCopiedRun}
use Rattle.std.proofs.lemmas.List.{take-append-le}
use Rattle.std.proofs.Math.Seq.{take-length}
use Rattle.std.proofs.lemmas.List.Sums.{fold-append}
use Rattle.chrono_text.proofs.DigitLemmas.{by_size}
use Rattle.chrono_clock.specs.Duration.{IsDuration, total, StaysInRange}

pub total-append_one : (xs : List ℤ) (x : ℤ) → total (xs ++ x ∷ []) ≡ total xs +ℤ x
total-append_one xs x = fold-append (λ sum y. sum +ℤ y) (pos 0) xs (x ∷ [])

pub StaysInRange-append_one : (xs : List ℤ) (x : ℤ) → StaysInRange xs → IsDuration (total xs +ℤ x) → StaysInRange (xs ++ x ∷ [])
StaysInRange-append_one xs x stays in_range k h =
    let P : List ℤ → Type 0 = λ ys. IsDuration (total ys) in
    by_size k (length xs)
    (λ a.
    let whole : k ≡ length (xs ++ x ∷ []) = omega (arith, length-append xs (x ∷ [])) in
    let all : take k (xs ++ x ∷ []) ≡ xs ++ x ∷ [] = ap (λ n. take n (xs ++ x ∷ [])) whole ∙ take-length (xs ++ x ∷ []) in
    let D : ℤ → Type 0 = IsDuration in
    subst P (sym all) (subst D (sym (total-append_one xs x)) in_range))
    (λ a. subst P (sym (take-append-le k xs (x ∷ []) a)) (stays k a))

pub StaysInRange-none : StaysInRange []
StaysInRange-none zero h = lit≤ tt
StaysInRange-none (suc k) h = lit≤ tt

-- a run of copies stands on a run of the references, with the same numbers: what is said of the one holds of the other
module _ {S T : Type 0} {source : S → Option (Bor ℤ) → S → Type 0} {copies : T → Option ℤ → T → Type 0} (s : S) (t : T) (runs : EachRunFrom copies t (λ p. SomeRun source s (λ q. IsCopiedRun p q (λ r. r.now)))) where
  pub sum-of_copies : (sum : Option ℤ) → MatchOption sum (SomeRun copies t (λ p. ¬ IsDuration (total p.items))) (λ x. WholeRun copies t (λ p. StaysInRange p.items × (x ≡ total p.items))) → MatchOption sum (SomeRun source s (λ q. ¬ IsDuration (total (map (λ r. r.now) q.items)))) (λ x. WholeRun source s (λ q. StaysInRange (map (λ r. r.now) q.items) × (x ≡ total (map (λ r. r.now) q.items))))
  sum-of_copies None (p, from, out) =
      let P : List ℤ → Type 0 = λ xs. ¬ IsDuration (total xs) in
      let (q, q_from, same) = runs p p.seen from in
      (q, q_from, subst P same.2 out)
  sum-of_copies (Some x) (p, from, ended, within) =
      let P : List ℤ → Type 0 = λ xs. StaysInRange xs × (x ≡ total xs) in
      let (q, q_from, same) = runs p p.seen from in
      (q, q_from, same.0 ∙ ended, subst P same.2 within)
