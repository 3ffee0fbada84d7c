-- Texts of eight digits, and the ISO texts of which they are made.
use Rattle.std.proofs.Common.{◌≡◌, ◌∙◌, ℕ, ℤ, List, [], ◌∷◌, ◌++◌, length, length-append, drop, get_or, slice_set, ap, sym, refl, arith}
use Rattle.std.proofs.lemmas.List.{drop_all}
use Rattle.chrono_text.specs.Text.{calendar_text, two_digits, year_text}
use Rattle.chrono_columns.proofs.TenBytes.{next_byte}
use Rattle.pattern_columns.specs.Layouts.{NamesSame, compact_text}
use Rattle.pattern_columns.specs.declared.layout.DateOrder.TheVariants.{YearMonthDay}
use Rattle.pattern_columns.proofs.DateOrders.{HasParts, four_bytes, in_order, parts_of, same_parts_as, text_of_parts}

eight_bytes : (t : List ℕ) → length t ≡ 8 → t ≡ get_or t 0 0 ∷ get_or t 1 0 ∷ get_or t 2 0 ∷ get_or t 3 0 ∷ get_or t 4 0 ∷ get_or t 5 0 ∷ get_or t 6 0 ∷ get_or t 7 0 ∷ []
eight_bytes t l =
    let end : drop 8 t ≡ [] = drop_all 8 t (omega (arith, l)) in
    next_byte t 0 _ (omega (arith, l)) (next_byte t 1 _ (omega (arith, l)) (next_byte t 2 _ (omega (arith, l)) (next_byte t 3 _ (omega (arith, l))
    (next_byte t 4 _ (omega (arith, l)) (next_byte t 5 _ (omega (arith, l)) (next_byte t 6 _ (omega (arith, l)) (next_byte t 7 _ (omega (arith, l)) end)))))))

-- eight bytes in place of a text of eight
pub eight-put : (t : List ℕ) → length t ≡ 8 → (a b c d e f g h : ℕ)
    → slice_set (slice_set (slice_set (slice_set (slice_set (slice_set (slice_set (slice_set t 0 a) 1 b) 2 c) 3 d) 4 e) 5 f) 6 g) 7 h ≡ a ∷ b ∷ c ∷ d ∷ e ∷ f ∷ g ∷ h ∷ []
eight-put t l a b c d e f g h =
    ap (λ s. slice_set (slice_set (slice_set (slice_set (slice_set (slice_set (slice_set (slice_set s 0 a) 1 b) 2 c) 3 d) 4 e) 5 f) 6 g) 7 h) (eight_bytes t l)

three_joined : (a b c d e f : List ℕ) → a ≡ d → b ≡ e → c ≡ f → a ++ (b ++ c) ≡ d ++ (e ++ f)
three_joined a b c d e f p q r = rw (p, q, r) refl

-- the parts of an ISO text
iso_parts : (t : List ℕ) → length t ≡ 10 → (y : ℤ) → (m d : ℕ) → calendar_text y m d ≡ t → HasParts YearMonthDay 45 (year_text y) (two_digits m) (two_digits d) t
iso_parts t l y m d e = parts_of YearMonthDay 45 (year_text y) _ _ _ _ t l (sym (in_order (year_text y) m d) ∙ e)

-- an ISO text without its `-`
pub unmarked : (t : List ℕ) → length t ≡ 10 → (y : ℤ) → (m d : ℕ) → calendar_text y m d ≡ t
    → compact_text y m d ≡ get_or t 0 0 ∷ get_or t 1 0 ∷ get_or t 2 0 ∷ get_or t 3 0 ∷ get_or t 5 0 ∷ get_or t 6 0 ∷ get_or t 8 0 ∷ get_or t 9 0 ∷ []
unmarked t l y m d e = let p = iso_parts t l y m d e in three_joined _ _ _ _ _ _ p.year p.month p.day

-- a text of eight bytes with `-` between its parts
abbrev marked_text : List ℕ → List ℕ
marked_text t = get_or t 0 0 ∷ get_or t 1 0 ∷ get_or t 2 0 ∷ get_or t 3 0 ∷ 45 ∷ get_or t 4 0 ∷ get_or t 5 0 ∷ 45 ∷ get_or t 6 0 ∷ get_or t 7 0 ∷ []

bytes_marked : (a b c e m n d f : ℕ) → HasParts YearMonthDay 45 (a ∷ b ∷ c ∷ e ∷ []) (m ∷ n ∷ []) (d ∷ f ∷ []) (marked_text (a ∷ b ∷ c ∷ e ∷ m ∷ n ∷ d ∷ f ∷ []))
bytes_marked a b c e m n d f = record { year = refl; month = refl; day = refl; first = refl; second = refl }

parts_marked : (year : List ℕ) (m n d f : ℕ) (t : List ℕ) → length t ≡ 8 → year ++ (m ∷ n ∷ d ∷ f ∷ []) ≡ t → HasParts YearMonthDay 45 year (m ∷ n ∷ []) (d ∷ f ∷ []) (marked_text t)
parts_marked year m n d f t l e =
    let four : length year ≡ 4 = omega (arith, l, length-append year (m ∷ n ∷ d ∷ f ∷ []), ap (λ (c : List ℕ). length c) e) in
    let bytes = four_bytes year four in
    same_parts_as YearMonthDay 45 year _ (m ∷ n ∷ []) (d ∷ f ∷ []) (marked_text t) _ bytes
    (ap (λ (c : List ℕ). marked_text c) (sym (ap (λ (c : List ℕ). c ++ (m ∷ n ∷ d ∷ f ∷ [])) bytes) ∙ e))
    (bytes_marked (get_or year 0 0) (get_or year 1 0) (get_or year 2 0) (get_or year 3 0) m n d f)

pub marked-same : (t : List ℕ) → length t ≡ 8 → NamesSame compact_text t (marked_text t)
marked-same t l y m d = (
  λ e. let p = iso_parts (marked_text t) refl y m d e in three_joined _ _ _ _ _ _ p.year p.month p.day ∙ sym (eight_bytes t l),
  λ e. in_order (year_text y) m d ∙ text_of_parts YearMonthDay 45 _ _ _ (marked_text t) refl (parts_marked (year_text y) _ _ _ _ t l e),
)
