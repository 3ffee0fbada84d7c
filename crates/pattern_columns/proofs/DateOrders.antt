-- The parts of a date's text of ten bytes in each order, and how the text of one order leads to that of another.
use Rattle.std.proofs.Common.{◌≡◌, ◌≢◌, ◌∙◌, ◌↔◌, ℕ, ◌+◌, ℤ, List, [], ◌∷◌, ◌++◌, length, length-append, drop, get_or, codes, ap, sym, refl, arith}
use Rattle.std.proofs.lemmas.List.{drop_all}
use Rattle.chrono_text.specs.Text.{calendar_text, two_digits, year_text}
use Rattle.chrono_columns.proofs.TenBytes.{next_byte, ten_bytes}
use Rattle.pattern_columns.specs.Layouts.{NamesSame, layout_text, ordered_text}
use Rattle.pattern_columns.specs.declared.layout.DateLayout.{DateLayout}
use Rattle.pattern_columns.specs.declared.layout.DateOrder.{DateOrder}
use Rattle.pattern_columns.specs.declared.layout.DateOrder.TheVariants.{YearMonthDay, DayMonthYear, MonthDayYear}

-- ---- the parts

abbrev pub year_bytes : DateOrder → List ℕ → List ℕ
year_bytes YearMonthDay t = get_or t 0 0 ∷ get_or t 1 0 ∷ get_or t 2 0 ∷ get_or t 3 0 ∷ []
year_bytes DayMonthYear t = get_or t 6 0 ∷ get_or t 7 0 ∷ get_or t 8 0 ∷ get_or t 9 0 ∷ []
year_bytes MonthDayYear t = get_or t 6 0 ∷ get_or t 7 0 ∷ get_or t 8 0 ∷ get_or t 9 0 ∷ []

abbrev pub month_bytes : DateOrder → List ℕ → List ℕ
month_bytes YearMonthDay t = get_or t 5 0 ∷ get_or t 6 0 ∷ []
month_bytes DayMonthYear t = get_or t 3 0 ∷ get_or t 4 0 ∷ []
month_bytes MonthDayYear t = get_or t 0 0 ∷ get_or t 1 0 ∷ []

abbrev pub day_bytes : DateOrder → List ℕ → List ℕ
day_bytes YearMonthDay t = get_or t 8 0 ∷ get_or t 9 0 ∷ []
day_bytes DayMonthYear t = get_or t 0 0 ∷ get_or t 1 0 ∷ []
day_bytes MonthDayYear t = get_or t 3 0 ∷ get_or t 4 0 ∷ []

-- the places of the two separators
abbrev pub first_place : DateOrder → ℕ
first_place YearMonthDay = 4
first_place DayMonthYear = 2
first_place MonthDayYear = 2

abbrev pub second_place : DateOrder → ℕ
second_place YearMonthDay = 7
second_place DayMonthYear = 5
second_place MonthDayYear = 5

-- a text has these parts
pub record HasParts (o : DateOrder) (s : ℕ) (y m d t : List ℕ) : Type 0 where
  pub year : y ≡ year_bytes o t
  pub month : m ≡ month_bytes o t
  pub day : d ≡ day_bytes o t
  pub first : get_or t (first_place o) 0 ≡ s
  pub second : get_or t (second_place o) 0 ≡ s

-- ---- a text and its parts

pub four_bytes : (t : List ℕ) → length t ≡ 4 → t ≡ get_or t 0 0 ∷ get_or t 1 0 ∷ get_or t 2 0 ∷ get_or t 3 0 ∷ []
four_bytes t l =
    let end : drop 4 t ≡ [] = drop_all 4 t (omega (arith, l)) in
    next_byte t 0 _ (omega (arith, l)) (next_byte t 1 _ (omega (arith, l)) (next_byte t 2 _ (omega (arith, l)) (next_byte t 3 _ (omega (arith, l)) end)))

-- the parts of a text that is made of bytes
parts_made : (o : DateOrder) (s a b c e m n d f : ℕ) → HasParts o s (a ∷ b ∷ c ∷ e ∷ []) (m ∷ n ∷ []) (d ∷ f ∷ []) (ordered_text o s (a ∷ b ∷ c ∷ e ∷ []) (m ∷ n ∷ []) (d ∷ f ∷ []))
parts_made YearMonthDay s a b c e m n d f = record { year = refl; month = refl; day = refl; first = refl; second = refl }
parts_made DayMonthYear s a b c e m n d f = record { year = refl; month = refl; day = refl; first = refl; second = refl }
parts_made MonthDayYear s a b c e m n d f = record { year = refl; month = refl; day = refl; first = refl; second = refl }

length-ordered_text : (o : DateOrder) (s : ℕ) (year : List ℕ) (m n d f : ℕ) → length (ordered_text o s year (m ∷ n ∷ []) (d ∷ f ∷ [])) ≡ length year + 6
length-ordered_text YearMonthDay s year m n d f = length-append year (s ∷ m ∷ n ∷ s ∷ d ∷ f ∷ [])
length-ordered_text DayMonthYear s year m n d f = omega arith
length-ordered_text MonthDayYear s year m n d f = omega arith

pub same_parts_as : (o : DateOrder) (s : ℕ) (year other month day t u : List ℕ) → year ≡ other → u ≡ t → HasParts o s other month day u → HasParts o s year month day t
same_parts_as o s year other month day t u e g p = rw (e, ← g) p

pub parts_of : (o : DateOrder) (s : ℕ) (year : List ℕ) (m n d f : ℕ) (t : List ℕ) → length t ≡ 10 → ordered_text o s year (m ∷ n ∷ []) (d ∷ f ∷ []) ≡ t → HasParts o s year (m ∷ n ∷ []) (d ∷ f ∷ []) t
parts_of o s year m n d f t long e =
    let four : length year ≡ 4 = omega (arith, long, length-ordered_text o s year m n d f, ap (λ (l : List ℕ). length l) e) in
    let bytes = four_bytes year four in
    same_parts_as o s year _ (m ∷ n ∷ []) (d ∷ f ∷ []) t _ bytes
    (sym (ap (λ (l : List ℕ). ordered_text o s l (m ∷ n ∷ []) (d ∷ f ∷ [])) bytes) ∙ e)
    (parts_made o s (get_or year 0 0) (get_or year 1 0) (get_or year 2 0) (get_or year 3 0) m n d f)

placed : (a b c d e f : List ℕ) (s x y : ℕ) → a ≡ d → b ≡ e → c ≡ f → x ≡ s → y ≡ s → a ++ (s ∷ (b ++ (s ∷ c))) ≡ d ++ (x ∷ (e ++ (y ∷ f)))
placed a b c d e f s x y p q r g h = rw (p, q, r, g, h) refl

pub text_of_parts : (o : DateOrder) (s : ℕ) (year month day t : List ℕ) → length t ≡ 10 → HasParts o s year month day t → ordered_text o s year month day ≡ t
text_of_parts YearMonthDay s year month day t l p = placed year month day _ _ _ s _ _ p.year p.month p.day p.first p.second ∙ sym (ten_bytes t l)
text_of_parts DayMonthYear s year month day t l p = placed day month year _ _ _ s _ _ p.day p.month p.year p.first p.second ∙ sym (ten_bytes t l)
text_of_parts MonthDayYear s year month day t l p = placed month day year _ _ _ s _ _ p.month p.day p.year p.first p.second ∙ sym (ten_bytes t l)

-- ---- from one order to another

-- the ISO text has the order of year, month and day, with `-` between
pub in_order : (year : List ℕ) (m d : ℕ) → year ++ codes "-" ++ two_digits m ++ codes "-" ++ two_digits d ≡ ordered_text YearMonthDay 45 year (two_digits m) (two_digits d)
in_order [] m d = refl
in_order (x ∷ xs) m d = ap (λ (l : List ℕ). x ∷ l) (in_order xs m d)

-- two texts have the same parts in their orders
pub record PartsAgree (o : DateOrder) (t : List ℕ) (p : DateOrder) (r : List ℕ) : Type 0 where
  pub year : year_bytes o t ≡ year_bytes p r
  pub month : month_bytes o t ≡ month_bytes p r
  pub day : day_bytes o t ≡ day_bytes p r

moved_parts : (o p : DateOrder) (s q : ℕ) (year : List ℕ) (m d : ℕ) (t r : List ℕ) → length t ≡ 10 → length r ≡ 10 → PartsAgree o t p r
    → (get_or t (first_place o) 0 ≡ s → get_or t (second_place o) 0 ≡ s → (get_or r (first_place p) 0 ≡ q) × (get_or r (second_place p) 0 ≡ q))
    → ordered_text o s year (two_digits m) (two_digits d) ≡ t → ordered_text p q year (two_digits m) (two_digits d) ≡ r
moved_parts o p s q year m d t r long also agree marks e =
    let parts = parts_of o s year _ _ _ _ t long e in
    let both = marks parts.first parts.second in
    text_of_parts p q year _ _ r also
    (record {
      year = parts.year ∙ agree.year;
      month = parts.month ∙ agree.month;
      day = parts.day ∙ agree.day;
      first = both.0;
      second = both.1;
    })

-- an ISO text moved into a layout
pub laid_out : (layout : DateLayout) (o : DateOrder) (t r : List ℕ) → layout.order ≡ o → length t ≡ 10 → length r ≡ 10 → PartsAgree YearMonthDay t o r
    → (get_or t 4 0 ≡ 45 → get_or t 7 0 ≡ 45 → (get_or r (first_place o) 0 ≡ layout.separator) × (get_or r (second_place o) 0 ≡ layout.separator))
    → (y : ℤ) → (m d : ℕ) → calendar_text y m d ≡ t → layout_text layout y m d ≡ r
laid_out layout o t r is long also agree marks y m d e =
    ap (λ k. ordered_text k layout.separator (year_text y) (two_digits m) (two_digits d)) is
    ∙ moved_parts YearMonthDay o 45 layout.separator (year_text y) m d t r long also agree marks (sym (in_order (year_text y) m d) ∙ e)

back : {o p : DateOrder} {t r : List ℕ} → PartsAgree o t p r → PartsAgree p r o t
back h = record { year = sym h.year; month = sym h.month; day = sym h.day }

-- a text and the ISO text made of it
pub same_names : (layout : DateLayout) (o : DateOrder) (t r : List ℕ) → layout.order ≡ o → length t ≡ 10 → length r ≡ 10 → PartsAgree YearMonthDay r o t
    → (get_or t (first_place o) 0 ≡ layout.separator) ↔ (get_or r 4 0 ≡ 45) → (get_or t (second_place o) 0 ≡ layout.separator) ↔ (get_or r 7 0 ≡ 45) → NamesSame (layout_text layout) t r
same_names layout o t r is long also agree first second y m d = (
  laid_out layout o r t is also long agree (λ a b. (first.1 a, second.1 b)) y m d,
  λ e. in_order (year_text y) m d
      ∙ moved_parts o YearMonthDay layout.separator 45 (year_text y) m d t r long also (back agree) (λ a b. (first.0 a, second.0 b))
      (sym (ap (λ k. ordered_text k layout.separator (year_text y) (two_digits m) (two_digits d)) is) ∙ e),
)

-- a separator that was exchanged for `-`
pub exchanged_both : (byte wanted result : ℕ) → (byte ≡ wanted → result ≡ 45) → (result ≢ 0 → byte ≡ wanted) → (byte ≡ wanted) ↔ (result ≡ 45)
exchanged_both byte wanted result same other = (same, λ e. other (λ z. absurd (omega (arith, e, z))))
