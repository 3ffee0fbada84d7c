-- Columns that are filled element by element, and block by block.
use Rattle.std.proofs.Common.{◌≡◌, ◌∙◌, ℕ, ◌+◌, ◌-◌, ◌<◌, ◌≤◌, ℤ, pos, List, [], ◌++◌, length, take, map, get_or, slice_set, inl, inr, ap, sym, arith}
use Rattle.std.proofs.lemmas.Bool.{cases_lt}
use Rattle.std.proofs.lemmas.List.{ext_get_or, get_or_append_left, get_or-append_right, get_or-map, get_or-set_other, get_or-set_same, get_or-take, length-map, length-take-le}
use Rattle.std.proofs.lemmas.List.Edits.{get_or-between, length-between}
use Rattle.std.proofs.lemmas.Slice.{take-put_mid}
use Rattle.std.specs.List.{between}
use borrow.Rule.Slice.PartMut.{put_mid}
use Rattle.chrono_columns.specs.Columns.{day_entry, month_entry, year_entry}
use Rattle.chrono_columns.proofs.Blocks.{named_at}
use Rattle.pattern_columns.specs.Layouts.{AreNameTexts, entry_by, name_text_by}
use Rattle.pattern_columns.proofs.LayoutEntries.{entry-named}

-- one element more is written
pub more-written : {X Y : Type 0} (p : X → Y → Type 0) (x : X) (y : Y) (xs : List X) (out : List Y) (i : ℕ) (z : Y) → i < length out → ((k : ℕ) → k < i → p (get_or xs k x) (get_or out k y))
    → p (get_or xs i x) z → (k : ℕ) → k < i + 1 → p (get_or xs k x) (get_or (slice_set out i z) k y)
more-written p x y xs out i z within before now k below = elim (cases_lt k i) [
  | inl less ↦ rw (get_or-set_other out i k z y (omega (arith, less))) (before k less)
  | inr more ↦ let same : k ≡ i = omega (arith, more, below) in rw (same, get_or-set_same out i z y within) now
]

-- the text of one name more
pub more-named : (size : ℕ) (f : ℤ → ℕ → ℕ → List ℕ) (years : List ℤ) (months days : List ℕ) (texts : List (List ℕ)) (i : ℕ) (z : List ℕ) → i < length texts
    → ((k : ℕ) → k < i → get_or texts k [] ≡ name_text_by size f (get_or years k (pos 0)) (get_or months k 0) (get_or days k 0))
    → z ≡ name_text_by size f (get_or years i (pos 0)) (get_or months i 0) (get_or days i 0)
    → (k : ℕ) → k < i + 1 → get_or (slice_set texts i z) k [] ≡ name_text_by size f (get_or years k (pos 0)) (get_or months k 0) (get_or days k 0)
more-named size f years months days texts i z within before now k below = elim (cases_lt k i) [
  | inl less ↦ get_or-set_other texts i k z [] (omega (arith, less)) ∙ before k less
  | inr more ↦ let same : k ≡ i = omega (arith, more, below) in rw (same, get_or-set_same texts i z [] within) now
]

-- one block more is written
pub block-written : {X Y : Type 0} (p : X → Y → Type 0) (x : X) (y : Y) (xs : List X) (out ys : List Y) (a e : ℕ) → a ≤ e → e ≤ length xs → length out ≡ length xs → length ys ≡ e - a
    → ((k : ℕ) → k < a → p (get_or xs k x) (get_or out k y))
    → ((i : ℕ) → i < length (between a e xs) → p (get_or (between a e xs) i x) (get_or ys i y))
    → (k : ℕ) → k < e → p (get_or xs k x) (get_or (put_mid a (e - a) out ys) k y)
block-written p x y xs out ys a e begun end long count before now k below =
    let front : take e (put_mid a (e - a) out ys) ≡ take a out ++ ys = take-put_mid a (e - a) out ys e (omega (arith, begun, count)) (omega (arith, begun, end, long)) in
    let old : length (take a out) ≡ a = length-take-le a out (omega (arith, begun, end, long)) in
    let shown : get_or (put_mid a (e - a) out ys) k y ≡ get_or (take a out ++ ys) k y =
    sym (get_or-take e (put_mid a (e - a) out ys) k y below) ∙ ap (λ l. get_or l k y) front in
    elim (cases_lt k a) [
      | inl less ↦
          rw (shown, get_or_append_left (take a out) ys y k (omega (arith, less, old)), get_or-take a out k y less) (before k less)
      | inr more ↦
          let place : a + (k - a) ≡ k = omega (arith, more) in
          let inside : k - a < length (between a e xs) = omega (arith, more, below, length-between xs a e end) in
          let element : get_or (between a e xs) (k - a) x ≡ get_or xs k x = get_or-between xs a e (k - a) x (omega (arith, more, below)) ∙ ap (λ j. get_or xs j x) place in
          rw (shown, get_or-append_right (take a out) ys a k y old more, ← element) (now (k - a) inside)
    ]

-- every element is written
pub all-written : (size : ℕ) (f : ℤ → ℕ → ℕ → List ℕ) (dates : List ℤ) (texts : List (List ℕ)) → length texts ≡ length dates
    → ((k : ℕ) → k < length dates → get_or texts k [] ≡ entry_by size f (get_or dates k (pos 0))) → texts ≡ map (entry_by size f) dates
all-written size f dates texts long each =
    ext_get_or [] texts (map (entry_by size f) dates) (long ∙ sym (length-map dates (entry_by size f)))
    (λ k h. let here : k < length dates = omega (arith, h, long) in each k here ∙ sym (get_or-map (entry_by size f) dates k (pos 0) [] here))

-- the texts of a block by its names
pub names-laid_out : (size : ℕ) (f : ℤ → ℕ → ℕ → List ℕ) (dates years : List ℤ) (months days : List ℕ) (texts : List (List ℕ)) → years ≡ map year_entry dates
    → months ≡ map month_entry dates → days ≡ map day_entry dates → AreNameTexts size f years months days texts
    → (i : ℕ) → i < length dates → get_or texts i [] ≡ entry_by size f (get_or dates i (pos 0))
names-laid_out size f dates years months days texts p q r each i h =
    let name = named_at dates years months days p q r i h in
    let within : i < length years = omega (arith, h, ap (λ (l : List ℤ). length l) p, length-map dates year_entry) in
    each i within ∙ rw (name.year, name.month, name.day) (entry-named size f (get_or dates i (pos 0)))
