-- Lists of days that rise, and the place of a day among them.
use Rattle.std.proofs.Common.{◌≡◌, ℕ, ◌+◌, ◌-◌, ◌<◌, ◌≤◌, true, false, List, length, sym, ap, ◌∙◌, inl, inr, arith, ℤ, ◌≤ℤ◌, ◌<ℤ◌}
use Rattle.std.specs.Prelude.{slice_index_or}
use Rattle.std.specs.Ordering.{int_eq}
use Rattle.std.proofs.lemmas.Bool.{cases_lt, false_from_ne_true}
use Rattle.std.proofs.lemmas.Bool.Decides.{Decides-int_eq}
use Rattle.std.proofs.lemmas.List.{get_or_default}
use Rattle.std.proofs.lemmas.List.Folds.{list_any_at, list_any_none}
use Rattle.chrono_calendar.proofs.Signed.{signed}
use Rattle.chrono_naive.specs.RisingDates.{AreRising, is_listed}

-- no day comes before one in front of it
pub in_order : (xs : List ℤ) (d : ℤ) (i j : ℕ) → AreRising xs → j ≤ i → i < length xs → slice_index_or xs j d ≤ℤ slice_index_or xs i d
in_order xs d i j rising le within = elim (cases_lt j i) [
  | inl less ↦ omega (arith, signed, rising j i d less within)
  | inr same ↦
      let here : j ≡ i = omega (arith, le, same) in
      let at : slice_index_or xs j d ≡ slice_index_or xs i d = ap (λ k. slice_index_or xs k d) here in
      omega (arith, signed, at)
]

-- what stands behind a day that is read, and in front of it
pub later_listed : (xs : List ℤ) (i k : ℕ) (x d : ℤ) → AreRising xs → i < length xs → x ≡ slice_index_or xs i x → i ≤ k → k < length xs → x ≤ℤ slice_index_or xs k d
later_listed xs i k x d rising within here le inside =
    omega (arith, signed, here ∙ get_or_default xs i x d within, in_order xs d k i rising le inside)

pub earlier_listed : (xs : List ℤ) (i k : ℕ) (x d : ℤ) → AreRising xs → i < length xs → x ≡ slice_index_or xs i x → k ≤ i → slice_index_or xs k d ≤ℤ x
earlier_listed xs i k x d rising within here le =
    omega (arith, signed, here ∙ get_or_default xs i x d within, in_order xs d i k rising le within)

-- one day more, later than the last of those that rise
pub rising-next : (xs : List ℤ) (k : ℕ) (x y : ℤ) → 1 ≤ k → k < length xs → y ≡ slice_index_or xs k y → x ≡ slice_index_or xs (k - 1) x → x <ℤ y → ((i j : ℕ) (d : ℤ) → i < j → j < k → j < length xs → slice_index_or xs i d <ℤ slice_index_or xs j d) → (i j : ℕ) (d : ℤ) → i < j → j < k + 1 → j < length xs → slice_index_or xs i d <ℤ slice_index_or xs j d
rising-next xs k x y some within here before less rising i j d order high inside = elim (cases_lt j k) [
  | inl lt ↦ rising i j d order lt inside
  | inr ge ↦
      let same : j ≡ k = omega (arith, high, ge) in
      let at : slice_index_or xs j d ≡ y = ap (λ m. slice_index_or xs m d) same ∙ sym (here ∙ get_or_default xs k y d within) in
      let last : slice_index_or xs (k - 1) d ≡ x = sym (before ∙ get_or_default xs (k - 1) x d (omega (arith, within))) in
      elim (cases_lt i (k - 1)) [
        | inl front ↦ omega (arith, signed, at, last, less, rising i (k - 1) d front (omega (arith, some)) (omega (arith, within)))
        | inr end ↦
            let is : i ≡ k - 1 = omega (arith, order, same, end) in
            let first : slice_index_or xs i d ≡ slice_index_or xs (k - 1) d = ap (λ m. slice_index_or xs m d) is in
            omega (arith, signed, at, last, less, first)
      ]
]

-- a day that is not later than the one in front of it
pub not_rising : (xs : List ℤ) (k : ℕ) (x y : ℤ) → 1 ≤ k → k < length xs → y ≡ slice_index_or xs k y → x ≡ slice_index_or xs (k - 1) x → y ≤ℤ x → AreRising xs → ⊥
not_rising xs k x y some within here before le rising =
    omega (arith, signed, le, here, before ∙ get_or_default xs (k - 1) x y (omega (arith, within)), rising (k - 1) k y (omega (arith, some)) within)

-- ---- which days are listed

pub int_eq-other : (x n : ℤ) → (x ≡ n → ⊥) → int_eq x n ≡ false
int_eq-other x n differ = false_from_ne_true (int_eq x n) (λ yes. differ ((Decides-int_eq x n).0 yes))

pub listed-at : (xs : List ℤ) (i : ℕ) (x : ℤ) → i < length xs → x ≡ slice_index_or xs i x → is_listed xs x ≡ true
listed-at xs i x within here =
    list_any_at (λ d. int_eq d x) xs i x within ((Decides-int_eq (slice_index_or xs i x) x).1 (sym here))

-- none is the day n, if those in front come before it and those behind are later
pub not_listed : (xs : List ℤ) (i : ℕ) (n : ℤ) → ((k : ℕ) (d : ℤ) → k < i → k < length xs → slice_index_or xs k d <ℤ n) → ((k : ℕ) (d : ℤ) → i ≤ k → k < length xs → n <ℤ slice_index_or xs k d) → is_listed xs n ≡ false
not_listed xs i n front behind =
    list_any_none (λ d. int_eq d n) xs
    (λ k d within. int_eq-other (slice_index_or xs k d) n (λ same. elim (cases_lt k i) [
      | inl lt ↦ omega (arith, signed, same, front k d lt within)
      | inr ge ↦ omega (arith, signed, same, behind k d ge within)
    ]))
