-- Texts in pieces between separators.
use Rattle.std.proofs.Common.{◌≡◌, ◌==◌, ℕ, suc, ◌+◌, ◌-◌, ◌<◌, ◌≤◌, Bool, true, false, cond, not, ◌&&◌, List, [], ◌∷◌, ◌++◌, length, take, drop, refl, sym, ap, ap₂, ◌∙◌, arith, length-drop, append_assoc, append-nil, ◌||◌}
use Rattle.std.specs.List.{before_first, join_with_byte, list_all, onto_first, position_or_len, prefix_len, list_any, slice_split}
use Rattle.std.proofs.Math.ListN.{drop_of_length-le}
use Rattle.std.proofs.lemmas.Bool.{and_from, and_parts, eq-eqb, not-true, or_parts}
use Rattle.std.proofs.lemmas.List.{take_all}
use Rattle.std.proofs.lemmas.List.Folds.{list_all-append}
use Rattle.std.proofs.lemmas.List.Sums.{count_by-le-length, length-filter}
use Rattle.std.specs.Prelude.{filter}
use Rattle.std.proofs.lemmas.List.Splits.{slice_split_first, slice_split-cons_no, slice_split-cons_yes}
use Rattle.chrono_text.specs.Lists.{each_behind, pieces, pieces_behind}

-- what stands behind a place, as a slice has it
back_is : (text : List ℕ) (n : ℕ) → take (length text - n) (drop n text) ≡ drop n text
back_is text n = take_all (length text - n) (drop n text) (omega (arith, length-drop n text))

-- the bytes before the first separator are the first piece
piece_step : (separator b : ℕ) (bs : List ℕ) (t : Bool) (n : ℕ) → pieces separator bs ≡ take n bs ∷ pieces_behind separator (drop n bs)
    → cond t ([] ∷ pieces separator bs) (onto_first b (pieces separator bs)) ≡ take (cond (not t) (1 + n) 0) (b ∷ bs) ∷ pieces_behind separator (drop (cond (not t) (1 + n) 0) (b ∷ bs))
piece_step separator b bs true n rest = refl
piece_step separator b bs false n rest =
    let one : suc n ≡ 1 + n = omega arith in
    ap (onto_first b) rest ∙ ap (λ k. take k (b ∷ bs) ∷ pieces_behind separator (drop k (b ∷ bs))) one

pub piece_first : (separator : ℕ) (text : List ℕ)
    → pieces separator text ≡ before_first (λ x. x == separator) text ∷ pieces_behind separator (drop (position_or_len (λ x. x == separator) text) text)
piece_first separator [] = refl
piece_first separator (b ∷ bs) = piece_step separator b bs (b == separator) (position_or_len (λ x. x == separator) bs) (piece_first separator bs)

-- a text in which no separator stands is one piece
pub one_piece : (separator : ℕ) (text : List ℕ) → position_or_len (λ x. x == separator) text ≡ length text → pieces separator text ≡ text ∷ []
one_piece separator text none =
    let n = position_or_len (λ x. x == separator) text in
    let front : take n text ≡ text = take_all n text (omega (arith, none)) in
    let back : drop n text ≡ [] = drop_of_length-le text {i = n} (omega (arith, none)) in
    piece_first separator text ∙ ap (λ t. t ∷ pieces_behind separator (drop n text)) front ∙ ap (λ t. text ∷ pieces_behind separator t) back

-- and another is what stands before the first of them, and the pieces of the rest
pub two_pieces : (separator : ℕ) (text : List ℕ) (n : ℕ) → position_or_len (λ x. x == separator) text ≡ n → n < length text
    → pieces separator text ≡ take n text ∷ pieces separator (take (length text - (n + 1)) (drop (n + 1) text))
two_pieces separator text n at inside =
    slice_split_first (λ x. x == separator) text 0 (omega (arith, at, inside))
    ∙ ap (λ k. take k text ∷ pieces separator (drop (k + 1) text)) at
    ∙ ap (λ t. take n text ∷ pieces separator t) (sym (back_is text (n + 1)))

-- ---- texts that are joined are cut there

-- a text in which no byte passes the test is one piece
pub split_none : (p : ℕ → Bool) (text : List ℕ) → list_any p text ≡ false → slice_split p text ≡ text ∷ []
split_none p [] none = refl
split_none p (b ∷ bs) none =
    let parts = or_parts (p b) (list_any p bs) none in
    slice_split-cons_no p b bs parts.0 ∙ ap (onto_first b) (split_none p bs parts.1)

-- and it is the first piece in front of a byte that passes
pub split_at : (p : ℕ → Bool) (text : List ℕ) (b : ℕ) (rest : List ℕ) → list_any p text ≡ false → p b ≡ true → slice_split p (text ++ b ∷ rest) ≡ text ∷ slice_split p rest
split_at p [] b rest none is = slice_split-cons_yes p b rest is
split_at p (first ∷ text) b rest none is =
    let parts = or_parts (p first) (list_any p text) none in
    slice_split-cons_no p first (text ++ b ∷ rest) parts.0 ∙ ap (onto_first first) (split_at p text b rest parts.1 is)

-- no such byte stands in the text
abbrev pub lacks : ℕ → List ℕ → Bool
lacks separator text = list_all (λ b. not (b == separator)) text

pub none_is : (separator : ℕ) (text : List ℕ) → lacks separator text ≡ true → list_any (λ b. b == separator) text ≡ false
none_is separator [] lack = refl
none_is separator (b ∷ bs) lack =
    let parts = and_parts (not (b == separator)) (lacks separator bs) lack in
    ap₂ (λ x y. x || y) (not-true (b == separator) parts.0) (none_is separator bs parts.1)

pieces_at : (separator : ℕ) (text rest : List ℕ) → lacks separator text ≡ true → pieces separator (text ++ separator ∷ rest) ≡ text ∷ pieces separator rest
pieces_at separator text rest lack = split_at (λ b. b == separator) text separator rest (none_is separator text lack) (eq-eqb separator separator refl)

pub pieces_end : (separator : ℕ) (text : List ℕ) → lacks separator text ≡ true → pieces separator text ≡ text ∷ []
pieces_end separator text lack = split_none (λ b. b == separator) text (none_is separator text lack)

pub pieces_joined : (separator : ℕ) (texts : List (List ℕ)) → (texts ≡ [] → ⊥) → list_all (lacks separator) texts ≡ true → pieces separator (join_with_byte separator texts) ≡ texts
pieces_joined separator [] some lack = absurd (some refl)
pieces_joined separator (text ∷ []) some lack = pieces_end separator text (and_parts (lacks separator text) true lack).0
pieces_joined separator (text ∷ next ∷ texts) some lack =
    let parts = and_parts (lacks separator text) (list_all (lacks separator) (next ∷ texts)) lack in
    pieces_at separator text (join_with_byte separator (next ∷ texts)) parts.0
    ∙ ap (λ ps. text ∷ ps) (pieces_joined separator (next ∷ texts) (λ none. not_nothing next texts none) parts.1)
  where
    not_nothing : (x : List ℕ) (xs : List (List ℕ)) → (x ∷ xs) ≡ [] → ⊥
    not_nothing x xs e = let size = ap length e in omega (arith, size)

-- ---- tests of the items of a list

-- if the items of two lists pass, so do those of both
pub all_of : {A : Type 0} (p : A → Bool) (xs ys : List A) → list_all p xs ≡ true → list_all p ys ≡ true → list_all p (xs ++ ys) ≡ true
all_of p xs ys a b = list_all-append p xs ys ∙ ap₂ (λ x y. x && y) a b

-- if each item passes p, and what passes p passes q, then each passes q
pub weaker : {A : Type 0} (p q : A → Bool) (xs : List A) → ((x : A) → p x ≡ true → q x ≡ true) → list_all p xs ≡ true → list_all q xs ≡ true
weaker p q [] follows all = refl
weaker p q (x ∷ xs) follows all =
    let parts = and_parts (p x) (list_all p xs) all in
    and_from (q x) (list_all q xs) (follows x parts.0) (weaker p q xs follows parts.1)

-- those that pass a test are no more than all
pub filter-few : {A : Type 0} (p : A → Bool) (xs : List A) → length (filter p xs) ≤ length xs
filter-few p xs = omega (arith, length-filter p xs, count_by-le-length p xs)

-- the items in front that pass a test end where the rest begins with none
pub prefix_ends : {A : Type 0} (p : A → Bool) (front rest : List A) → list_all p front ≡ true → prefix_len p rest ≡ 0 → prefix_len p (front ++ rest) ≡ length front
prefix_ends p [] rest all none = none
prefix_ends p (b ∷ bs) rest all none =
    let parts = and_parts (p b) (list_all p bs) all in
    rw parts.0 (omega (arith, prefix_ends p bs rest parts.1 none))

-- ---- texts with a separator in front of each

-- items that are joined are the first, and the others with a separator in front of each
pub join-behind : (separator : ℕ) (item : List ℕ) (items : List (List ℕ)) → join_with_byte separator (item ∷ items) ≡ item ++ each_behind separator items
join-behind separator item [] = sym (append-nil item)
join-behind separator item (next ∷ items) = ap (λ rest. item ++ (separator ∷ rest)) (join-behind separator next items)

pub each_behind-append : (separator : ℕ) (items others : List (List ℕ)) → each_behind separator (items ++ others) ≡ each_behind separator items ++ each_behind separator others
each_behind-append separator [] others = refl
each_behind-append separator (item ∷ items) others =
    ap (λ rest. (separator ∷ item) ++ rest) (each_behind-append separator items others)
    ∙ sym (append_assoc (separator ∷ item) (each_behind separator items) (each_behind separator others))
