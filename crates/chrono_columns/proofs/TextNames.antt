-- Texts of ten bytes, and the pairs of digits of which they are made.
use Rattle.std.proofs.Common.{◌≡◌, ◌≢◌, ◌∙◌, ℕ, suc, ◌+◌, ◌*◌, ◌/◌, ◌%◌, ◌^◌, ◌<◌, ℤ, pos, negsuc, unsigned_abs, List, [], ◌∷◌, ◌++◌, length, get_or, Option, Some, None, ap, sym, refl, arith}
use Rattle.chrono_calendar.specs.Days.{date_of_ymd}
use Rattle.chrono_calendar.proofs.GivenNames.{given_ymd}
use Rattle.chrono_calendar.proofs.Months.{month_length_in-bounds}
use Rattle.chrono_units.specs.Years.{is_leap_year}
use Rattle.chrono_text.specs.Text.{calendar_text, two_digits, year_text}
use Rattle.chrono_text.proofs.DigitLemmas.{by_size}
use Rattle.chrono_text.proofs.TextLemmas.{calendar_text_injective, length-calendar_text, year_digits-least, year_text-four, year_text-more}
use Rattle.chrono_reading.specs.DateTexts.{IsDateText}
use Rattle.chrono_columns.proofs.TenBytes.{ten_bytes}
use Rattle.chrono_columns.specs.Columns.{IsTextEntry, date_entry, number_entry}
use Rattle.chrono_calendar.proofs.Years.{IsYear-small}

-- ---- which names have ten bytes

-- a year of four bytes has no sign
record FourDigits (y : ℤ) : Type 0 where
  size : ℕ
  is : y ≡ pos size
  below : size < 10_000

four_digit_year : (y : ℤ) → unsigned_abs y < 1_000_000 → length (year_text y) ≡ 4 → FourDigits y
four_digit_year (negsuc n) h e = absurd (omega (arith, e, year_digits-least (suc n) h))
four_digit_year (pos n) h e = by_size 10_000 n
    (λ low. record { size = n; is = refl; below = low })
    (λ high. absurd (omega (arith, ap (λ (c : List ℕ). length c) (year_text-more n high), e, year_digits-least n h)))

-- the parts of the name of a date are small
record SmallName (y : ℤ) (m d : ℕ) : Type 0 where
  year : unsigned_abs y < 1_000_000
  month : m < 100
  day : d < 100

small_name : (y : ℤ) (m d : ℕ) (n : ℤ) → date_of_ymd y m d ≡ Some n → SmallName y m d
small_name y m d n e =
    let named = (given_ymd (Some n) y m d (sym e)).0.0 refl in
    let last = (month_length_in-bounds (is_leap_year y) m).1 in
    record { year = IsYear-small y named.0; month = omega (arith, named.1.0); day = omega (arith, named.1.1, last) }

-- ---- the ten bytes

-- the bytes of a year of v hundreds and w, a month and a day
abbrev bytes : ℕ → ℕ → ℕ → ℕ → List ℕ
bytes v w m d = two_digits v ++ two_digits w ++ 45 ∷ two_digits m ++ 45 ∷ two_digits d

four_same : (a b c d e f g h : ℕ) (r : List ℕ) → a ≡ e → b ≡ f → c ≡ g → d ≡ h → a ∷ b ∷ c ∷ d ∷ r ≡ e ∷ f ∷ g ∷ h ∷ r
four_same a b c d e f g h r p q s t = rw (p, q, s, t) refl

text_is : (v w m d : ℕ) → v < 100 → w < 100 → calendar_text (pos (100 * v + w)) m d ≡ bytes v w m d
text_is v w m d h i =
    let k = 100 * v + w in
    ap (λ (y : List ℕ). y ++ 45 ∷ [] ++ two_digits m ++ 45 ∷ [] ++ two_digits d) (year_text-four k (omega (arith, h, i)))
    ∙ four_same (48 + k / 1000) (48 + k % 1000 / 100) (48 + k % 1000 % 100 / 10) (48 + k % 1000 % 100 % 10 / 1) (48 + v / 10) (48 + v % 10) (48 + w / 10) (48 + w % 10) (45 ∷ two_digits m ++ 45 ∷ two_digits d)
    (omega (arith, h, i)) (omega (arith, h, i)) (omega (arith, h, i)) (omega (arith, h, i))

-- the four pairs of digits that a text of ten bytes is made of, with `-` between
pub record IsPairs (t : List ℕ) (v w m d : ℕ) : Type 0 where
  pub small : (v < 100) × (w < 100) × (m < 100) × (d < 100)
  pub hundreds : two_digits v ≡ get_or t 0 0 ∷ get_or t 1 0 ∷ []
  pub years : two_digits w ≡ get_or t 2 0 ∷ get_or t 3 0 ∷ []
  pub month : two_digits m ≡ get_or t 5 0 ∷ get_or t 6 0 ∷ []
  pub day : two_digits d ≡ get_or t 8 0 ∷ get_or t 9 0 ∷ []
  pub first : get_or t 4 0 ≡ 45
  pub second : get_or t 7 0 ≡ 45

joined : (a b c d e f g h : List ℕ) (x y p q : ℕ) → a ≡ e → b ≡ f → c ≡ g → d ≡ h → p ≡ x → q ≡ y → a ++ b ++ x ∷ c ++ y ∷ d ≡ e ++ f ++ p ∷ g ++ q ∷ h
joined a b c d e f g h x y p q i j k l m n = rw (i, j, k, l, m, n) refl

written_by_pairs : (t : List ℕ) (v w m d : ℕ) → length t ≡ 10 → IsPairs t v w m d → calendar_text (pos (100 * v + w)) m d ≡ t
written_by_pairs t v w m d l p =
    text_is v w m d p.small.0 p.small.1
    ∙ joined (two_digits v) (two_digits w) (two_digits m) (two_digits d) _ _ _ _ 45 45 (get_or t 4 0) (get_or t 7 0) p.hundreds p.years p.month p.day p.first p.second
    ∙ sym (ten_bytes t l)

-- ---- what is read

entry_is : (o : Option ℤ) (z : ℤ) → z ≡ number_entry o → z ≢ number_entry None → o ≡ Some z
entry_is None z e some = absurd (some e)
entry_is (Some n) z e some = rw e refl

pub entry-read : (t : List ℕ) (v w m d : ℕ) (y z : ℤ) → length t ≡ 10 → IsPairs t v w m d → y ≡ pos (100 * v + w) → z ≡ date_entry y m d → IsTextEntry t z
unfolding date_entry
entry-read t v w m d y z l p year entry =
    let written : calendar_text y m d ≡ t = ap (λ x. calendar_text x m d) year ∙ written_by_pairs t v w m d l p in
    let size : unsigned_abs y < 2 ^ 64 = rw year (omega (arith, p.small)) in
    record {
      read = λ some. record { year = y; month = m; day = d; names = entry_is (date_of_ymd y m d) z entry some; written = written };
      every = λ n is.
          let small = small_name is.year is.month is.day n is.names in
          let same = calendar_text_injective y is.year m is.month d is.day size (omega (arith, small.year)) p.small.2 small.month p.small.3 small.day (written ∙ sym is.written) in
          entry ∙ rw (same.0, same.1, same.2, is.names) refl;
    }

pub record HasPairs (t : List ℕ) : Type 0 where
  pub v : ℕ
  pub w : ℕ
  pub m : ℕ
  pub d : ℕ
  pub pairs : IsPairs t v w m d

pub pairs_of : (t : List ℕ) (n : ℤ) → length t ≡ 10 → IsDateText t n → HasPairs t
pairs_of t n l is =
    let small = small_name is.year is.month is.day n is.names in
    let long = ap (λ (c : List ℕ). length c) is.written in
    let four = four_digit_year is.year small.year (omega (arith, l, long, length-calendar_text is.year is.month is.day)) in
    let v = four.size / 100 in
    let w = four.size % 100 in
    let year : is.year ≡ pos (100 * v + w) = four.is ∙ ap (λ k. pos k) (omega arith) in
    let below : v < 100 = omega (arith, four.below) in
    let also : w < 100 = omega arith in
    let text : bytes v w is.month is.day ≡ t = sym (text_is v w is.month is.day below also) ∙ ap (λ y. calendar_text y is.month is.day) (sym year) ∙ is.written in
    record {
      v = v;
      w = w;
      m = is.month;
      d = is.day;
      pairs = record {
        small = (below, also, small.month, small.day);
        hundreds = ap (λ (c : List ℕ). get_or c 0 0 ∷ get_or c 1 0 ∷ []) text;
        years = ap (λ (c : List ℕ). get_or c 2 0 ∷ get_or c 3 0 ∷ []) text;
        month = ap (λ (c : List ℕ). get_or c 5 0 ∷ get_or c 6 0 ∷ []) text;
        day = ap (λ (c : List ℕ). get_or c 8 0 ∷ get_or c 9 0 ∷ []) text;
        first = sym (ap (λ (c : List ℕ). get_or c 4 0) text);
        second = sym (ap (λ (c : List ℕ). get_or c 7 0) text);
      };
    }
