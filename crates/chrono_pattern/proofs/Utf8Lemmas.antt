-- A specifier is ASCII, so what is behind it is UTF-8, and so is the text of a pattern of UTF-8.
use lib.Utf8.{encode, encodes, next, scalar, scalars}
use Rattle.std.proofs.Common.{◌≡◌, ◌≢◌, ℕ, suc, ◌+◌, ◌-◌, ◌/◌, ◌<◌, ◌≤◌, ◌==◌, ◌||◌, inl, inr, cond, ltb, Bool, true, false, if◌then◌else◌, List, [], ◌∷◌, ◌++◌, append_assoc, length, length-append, drop, slice_index, take, All, Option, None, Some, ℤ, refl, ap, sym, ◌∙◌, subst, arith, IsCharBoundary}
use Rattle.std.proofs.Math.Seq.{drop-append_seam, get_or-append_seam, take-append_seam}
use Rattle.std.proofs.lemmas.Bool.{and_parts, cases_lt, false≢true, ltb-true}
use Rattle.std.proofs.lemmas.Bool.Decides.{nat_tests}
use Rattle.std.proofs.lemmas.Str.{IsAscii-append, IsCharBoundary-before_ascii, IsCharBoundary-from_drop, IsUtf8-append, IsUtf8-encode, IsUtf8-from_ascii, IsUtf8-nil, IsUtf8-past_char, encode_ascii}
use Rattle.std.proofs.lemmas.Str.Ascii.{IsAscii-cons, IsAscii-nil}
use Rattle.std.specs.Char.{IsScalar}
use Rattle.std.specs.Prelude.{⊤}
use Rattle.std.specs.Str.{IsAscii, IsUtf8, byte}
use Rattle.chrono_datetime.specs.Days.{IsDate}
use Rattle.chrono_datetime.specs.Moment.{Moment}
use Rattle.chrono_datetime.specs.Time.{IsTime}
use Rattle.chrono_instant.specs.Offsets.{IsOffset}
use Rattle.chrono_pattern.specs.PatternItems.{IsAsciiItem, IsSpecifier, is_within, item_before, items_from}
use Rattle.chrono_pattern.specs.Patterns.{text_at_offset, text_from, text_of_item}
use Rattle.chrono_pattern.specs.PatternSteps.{colon_step, date_number_at, digits_at, group_at, grouped_step, named_step, opened_step, padding_at, pattern_step, single_step, stamped_step, time_number_at, timed_step, unless_padded, unpadded_step, word_at}
use Rattle.chrono_pattern.specs.declared.item.GroupField.{GroupField}
use Rattle.chrono_pattern.specs.declared.item.Item.{Item}
use Rattle.chrono_pattern.specs.declared.item.Item.TheVariants.{Byte, Empty, Number, Word, Group}
use Rattle.chrono_pattern.specs.declared.item.NumberField.{NumberField}
use Rattle.chrono_pattern.specs.declared.item.OffsetForm.{OffsetForm}
use Rattle.chrono_pattern.specs.declared.item.OffsetForm.TheVariants.{Plain, Colon, Seconds, Hours, Loose}
use Rattle.chrono_pattern.specs.declared.item.Padding.{Padding}
use Rattle.chrono_pattern.specs.declared.item.Padding.TheVariants.{Usual, Nothing, Spaces, Zeros}
use Rattle.chrono_pattern.specs.declared.item.State.{State}
use Rattle.chrono_pattern.specs.declared.item.State.TheVariants.{Outside, Opened, Digits, Marked}
use Rattle.chrono_pattern.specs.declared.item.WordField.{WordField}
use Rattle.chrono_pattern.proofs.AsciiLemmas.{Steps, item_ascii, step_small}
use Rattle.chrono_pattern.proofs.FrontLemmas.{begins, front_goes_on, stands_for_itself}
use Rattle.chrono_pattern.proofs.ItemLemmas.{text_of_front}
use Rattle.chrono_pattern.proofs.PatternLemmas.{text_from-more, text_from-none, text_from-nothing}

-- ---- within a specifier each byte is ASCII

abbrev IsNamed : {X : Type 0} → ℕ → Option X → Type 0
IsNamed c None = ⊤
IsNamed c (Some x) = c < 128

named : {X : Type 0} (c : ℕ) (o : Option X) → c < 128 → IsNamed c o
named c None small = tt
named c (Some x) small = small

same : (c k : ℕ) → k < 128 → (c == k) ≡ true → c < 128
same c k small e = let is : c ≡ k = grind (arith, nat_tests, e) in omega (arith, is, small)

one_of : {X : Type 0} (c k : ℕ) (x y : Option X) → k < 128 → IsNamed c y → IsNamed c (if c == k then x else y)
one_of {X} c k x y small other = by_test (c == k) refl
  where
    by_test : (b : Bool) → (c == k) ≡ b → IsNamed c (if b then x else y)
    by_test true e = named c x (same c k small e)
    by_test false e = other

one_of_two : {X : Type 0} (c k l : ℕ) (x y : Option X) → k < 128 → l < 128 → IsNamed c y → IsNamed c (if (c == k) || (c == l) then x else y)
one_of_two {X} c k l x y small few other = by_test (c == k) (c == l) refl refl
  where
    by_test : (a b : Bool) → (c == k) ≡ a → (c == l) ≡ b → IsNamed c (if a || b then x else y)
    by_test true b e f = named c x (same c k small e)
    by_test false true e f = named c x (same c l few f)
    by_test false false e f = other

dates_named : (c : ℕ) → IsNamed c (date_number_at c)
unfolding date_number_at
dates_named c =
    one_of c 89 _ _ (omega arith) (one_of c 67 _ _ (omega arith) (one_of c 121 _ _ (omega arith) (one_of c 113 _ _ (omega arith) (one_of c 109 _ _ (omega arith)
    (one_of c 100 _ _ (omega arith) (one_of c 101 _ _ (omega arith) (one_of c 106 _ _ (omega arith) (one_of c 117 _ _ (omega arith) (one_of c 119 _ _ (omega arith)
    (one_of c 71 _ _ (omega arith) (one_of c 103 _ _ (omega arith) (one_of c 86 _ _ (omega arith) (one_of c 85 _ _ (omega arith) (one_of c 87 _ _ (omega arith) tt))))))))))))))

times_named : (c : ℕ) → IsNamed c (time_number_at c)
unfolding time_number_at
times_named c =
    one_of c 72 _ _ (omega arith) (one_of c 107 _ _ (omega arith) (one_of c 73 _ _ (omega arith) (one_of c 108 _ _ (omega arith) (one_of c 77 _ _ (omega arith)
    (one_of c 83 _ _ (omega arith) (one_of c 102 _ _ (omega arith) tt))))))

words_named : (c : ℕ) → IsNamed c (word_at c)
unfolding word_at
words_named c =
    one_of c 66 _ _ (omega arith) (one_of_two c 98 104 _ _ (omega arith) (omega arith) (one_of c 65 _ _ (omega arith) (one_of c 97 _ _ (omega arith)
    (one_of c 112 _ _ (omega arith) (one_of c 80 _ _ (omega arith) tt)))))

groups_named : (c : ℕ) → IsNamed c (group_at c)
unfolding group_at
groups_named c =
    one_of c 70 _ _ (omega arith) (one_of_two c 68 120 _ _ (omega arith) (omega arith) (one_of c 82 _ _ (omega arith) (one_of_two c 84 88 _ _ (omega arith) (omega arith)
    (one_of c 114 _ _ (omega arith) (one_of c 118 _ _ (omega arith) (one_of c 99 _ _ (omega arith) tt))))))

digits_named : (point : Bool) (c : ℕ) → IsNamed c (digits_at point c)
digits_named point c = one_of c 51 _ _ (omega arith) (one_of c 54 _ _ (omega arith) (one_of c 57 _ _ (omega arith) tt))

single_named : (c : ℕ) → IsNamed c (single_step c)
single_named c =
    one_of c 37 _ _ (omega arith) (one_of c 110 _ _ (omega arith) (one_of c 116 _ _ (omega arith) (one_of c 46 _ _ (omega arith)
    (one_of c 122 _ _ (omega arith) (one_of c 90 _ _ (omega arith) (one_of c 43 _ _ (omega arith) (one_of c 58 _ _ (omega arith) (one_of c 35 _ _ (omega arith) (digits_named false c)))))))))

grouped_named : (c : ℕ) (o : Option GroupField) → IsNamed c o
    → IsNamed c (elim o as (λ _. Option (State × Item)) [ None ↦ single_step c | Some g ↦ Some (Outside, Group g) ])
grouped_named c None h = single_named c
grouped_named c (Some g) small = small

worded : (c : ℕ) (o : Option WordField) → IsNamed c o
    → IsNamed c (elim o as (λ _. Option (State × Item)) [ None ↦ grouped_step c | Some w ↦ Some (Outside, Word w) ])
worded c None h = grouped_named c (group_at c) (groups_named c)
worded c (Some w) small = small

unpadded_named : (c : ℕ) (o : Option Padding) → IsNamed c o
    → IsNamed c (elim o as (λ _. Option (State × Item)) [ None ↦ named_step c | Some p ↦ Some (Opened p, Empty) ])
unpadded_named c None h = worded c (word_at c) (words_named c)
unpadded_named c (Some p) small = small

padded_named : (p : Padding) (c : ℕ) → IsNamed c (unless_padded p c)
unfolding unpadded_step
padded_named Usual c =
    unpadded_named c (padding_at c) (one_of c 45 _ _ (omega arith) (one_of c 95 _ _ (omega arith) (one_of c 48 _ _ (omega arith) tt)))
padded_named Nothing c = tt
padded_named Spaces c = tt
padded_named Zeros c = tt

timed_named : (p : Padding) (c : ℕ) (o : Option NumberField) → IsNamed c o
    → IsNamed c (elim o as (λ _. Option (State × Item)) [ None ↦ stamped_step p c | Some n ↦ Some (Outside, Number n p) ])
timed_named p c None h = one_of c 115 _ _ (omega arith) (padded_named p c)
timed_named p c (Some n) small = small

opened_named : (p : Padding) (c : ℕ) (o : Option NumberField) → IsNamed c o
    → IsNamed c (elim o as (λ _. Option (State × Item)) [ None ↦ timed_step p c | Some n ↦ Some (Outside, Number n p) ])
opened_named p c None h = timed_named p c (time_number_at c) (times_named c)
opened_named p c (Some n) small = small

colon_named : (form : OffsetForm) (c : ℕ) → c < 128 → IsNamed c (colon_step form)
colon_named Plain c small = small
colon_named Colon c small = small
colon_named Seconds c small = small
colon_named Hours c small = tt
colon_named Loose c small = tt

marked_named : (form : OffsetForm) (c : ℕ) → IsNamed c (if c == byte ":" then colon_step form else None)
marked_named form c = by_test (c == 58) refl
  where
    by_test : (b : Bool) → (c == 58) ≡ b → IsNamed c (if b then colon_step form else None)
    by_test true e = colon_named form c (same c 58 (omega arith) e)
    by_test false e = tt

step_named : (s : State) (c : ℕ) → is_within s ≡ true → IsNamed c (pattern_step s c)
unfolding opened_step
step_named Outside c within = absurd (false≢true within)
step_named (Opened p) c within = opened_named p c (date_number_at c) (dates_named c)
step_named (Digits point count) c within = one_of c 102 _ _ (omega arith) (by_test (count == 0))
  where
    by_test : (b : Bool) → IsNamed c (if b then digits_at point c else None)
    by_test true = digits_named point c
    by_test false = tt
step_named (Marked form) c within = one_of c 122 _ _ (omega arith) (marked_named form c)

pub within_ascii : (s : State) (c : ℕ) (next : State × Item) → is_within s ≡ true → pattern_step s c ≡ Some next → c < 128
within_ascii s c next within step = subst (IsNamed c) step (step_named s c within)

pub written_ascii : (s : State) (c : ℕ) (next : State × Item) → is_within s ≡ true → pattern_step s c ≡ Some next → IsAsciiItem next.1
written_ascii s c next within step = subst Steps step (step_small s c (within_ascii s c next within step))

-- ---- the bytes of a specifier

pub ascii_grows : (bytes front rest behind : List ℕ) (c : ℕ) → bytes ≡ front ++ rest → IsAscii front → rest ≡ c ∷ behind → c < 128
    → (next : List ℕ) × (bytes ≡ next ++ behind) × IsAscii next
ascii_grows bytes front rest behind c whole are is small = (
  front ++ (c ∷ []),
  whole ∙ ap (λ (l : List ℕ). front ++ l) is ∙ sym (append_assoc front (c ∷ []) behind),
  IsAscii-append front (c ∷ []) are (IsAscii-cons c [] small IsAscii-nil),
)

pub specifier_ends : (bytes front rest behind : List ℕ) (s : State) (c : ℕ) (next : State × Item) → bytes ≡ front ++ rest → IsAscii front → is_within s ≡ true
    → rest ≡ c ∷ behind → pattern_step s c ≡ Some next → IsSpecifier bytes next.1 behind
specifier_ends bytes front rest behind s c next whole are within is step =
    let grown = ascii_grows bytes front rest behind c whole are is (within_ascii s c next within step) in
    record { front = grown.0; whole = grown.1; ascii = grown.2; writes = written_ascii s c next within step }

pub specifier_longer : (bytes rest behind : List ℕ) (c : ℕ) (item : Item) → bytes ≡ c ∷ rest → c < 128 → IsSpecifier rest item behind → IsSpecifier bytes item behind
specifier_longer bytes rest behind c item is small found = record {
  front = c ∷ found.front;
  whole = is ∙ ap (λ (l : List ℕ). c ∷ l) found.whole;
  ascii = IsAscii-cons c found.front small found.ascii;
  writes = found.writes;
}

pub utf8_behind : (front behind : List ℕ) → IsAscii front → IsUtf8 (front ++ behind) → IsUtf8 behind
utf8_behind [] behind are utf8 = utf8
utf8_behind (c ∷ front) behind are utf8 =
    utf8_behind front behind (λ i. are (suc i))
    (IsUtf8-past_char (c ∷ (front ++ behind)) (front ++ behind) c utf8 (ap (λ (l : List ℕ). l ++ (front ++ behind)) (sym (encode_ascii c (are 0)))))

-- the text may be cut behind a specifier, and what is behind it stays
pub cut_behind : (bytes behind : List ℕ) (item : Item) → IsUtf8 bytes → IsSpecifier bytes item behind
    → IsCharBoundary bytes (length bytes - length behind) × (drop (length bytes - length behind) bytes ≡ behind)
cut_behind bytes behind item utf8 found =
    let count : length bytes - length behind ≡ length found.front =
    omega (arith, ap (λ (l : List ℕ). length l) found.whole, length-append found.front behind) in
    let is : drop (length bytes - length behind) bytes ≡ behind =
    ap (λ (k : ℕ). drop k bytes) count ∙ ap (λ (l : List ℕ). drop (length found.front) l) found.whole ∙ drop-append_seam found.front behind in (
      IsCharBoundary-from_drop bytes (length bytes - length behind) (omega arith)
          (subst IsUtf8 (sym is) (utf8_behind found.front behind found.ascii (subst IsUtf8 found.whole utf8))),
      is,
    )

-- ---- the text of bytes that stand for themselves

-- a text that begins with `%` begins with a specifier
head_is : (text rest : List ℕ) (h : ℕ) → text ≡ h ∷ rest → (0 < length text → slice_index text 0 ≡ byte "%") → h ≡ byte "%"
head_is text rest h is opens = sym (ap (λ (l : List ℕ). slice_index l 0) is) ∙ opens (omega (arith, ap (λ (l : List ℕ). length l) is))

pub opened : (text rest : List ℕ) (h : ℕ) → text ≡ h ∷ rest → (0 < length text → slice_index text 0 ≡ byte "%")
    → items_from Outside text ≡ items_from (Opened Usual) rest
opened text rest h is opens = front_goes_on Outside h text rest (Opened Usual, Empty) is (begins h (head_is text rest h is opens))

pub specifier_of : (text rest behind : List ℕ) (h : ℕ) (item : Item) → text ≡ h ∷ rest → (0 < length text → slice_index text 0 ≡ byte "%")
    → IsSpecifier rest item behind → IsSpecifier text item behind
specifier_of text rest behind h item is opens found =
    specifier_longer text rest behind h item is (omega (arith, head_is text rest h is opens)) found

-- a text may be cut before `%`
pub cut_before : (text literal rest : List ℕ) → text ≡ literal ++ (37 ∷ rest)
    → IsCharBoundary text (length literal) × (take (length literal) text ≡ literal) × (drop (length literal) text ≡ 37 ∷ rest)
cut_before text literal rest is =
    let at : slice_index text (length literal) ≡ 37 = ap (λ (l : List ℕ). slice_index l (length literal)) is ∙ get_or-append_seam literal 37 rest 0 in (
      IsCharBoundary-before_ascii text (length literal) (omega (arith, ap (λ (l : List ℕ). length l) is, length-append literal (37 ∷ rest))) (omega (arith, at)),
      ap (λ (l : List ℕ). take (length literal) l) is ∙ take-append_seam literal (37 ∷ rest),
      ap (λ (l : List ℕ). drop (length literal) l) is ∙ drop-append_seam literal (37 ∷ rest),
    )

pub literal_text : (literal rest : List ℕ) (m : Moment) (x : ℤ) → All (λ c. c ≢ byte "%") literal
    → text_from Outside (literal ++ rest) m x ≡ literal ++ text_from Outside rest m x
literal_text [] rest m x none = refl
literal_text (c ∷ literal) rest m x none =
    text_from-more Outside c (literal ++ rest) m x (Outside, Byte c) (stands_for_itself c (none 0 0 (omega arith)))
    ∙ ap (λ (l : List ℕ). c ∷ l) (literal_text literal rest m x (λ k d low. none (suc k) d (omega (arith, low))))

-- ---- a pattern of UTF-8 writes UTF-8

high_stands : (b : ℕ) (rest : List ℕ) (m : Moment) (x : ℤ) → 128 ≤ b → text_from Outside (b ∷ rest) m x ≡ b ∷ text_from Outside rest m x
high_stands b rest m x high = text_from-more Outside b rest m x (Outside, Byte b) (stands_for_itself b (λ (e : b ≡ 37). absurd (omega (arith, e, high))))

high_stops : (s : State) (b : ℕ) (rest : List ℕ) (m : Moment) (x : ℤ) → is_within s ≡ true → 128 ≤ b → text_from s (b ∷ rest) m x ≡ []
high_stops s b rest m x within high = by_step (pattern_step s b) refl
  where
    by_step : (o : Option (State × Item)) → pattern_step s b ≡ o → text_from s (b ∷ rest) m x ≡ []
    by_step None e = text_from-none s b rest m x e
    by_step (Some next) e = absurd (omega (arith, high, within_ascii s b next within e))

-- a character that is not ASCII stands for itself, and ends a specifier that goes on
abbrev StandsHigh : List ℕ → List ℕ → Moment → ℤ → Type 0
StandsHigh bytes rest m x = (b : ℕ) × (tail : List ℕ) × (bytes ≡ b ∷ tail) × (128 ≤ b) × (text_from Outside (bytes ++ rest) m x ≡ bytes ++ text_from Outside rest m x)

two_stand : (a b : ℕ) (rest : List ℕ) (m : Moment) (x : ℤ) → 128 ≤ a → 128 ≤ b → StandsHigh (a ∷ b ∷ []) rest m x
two_stand a b rest m x one two =
    (a, b ∷ [], refl, one, high_stands a (b ∷ rest) m x one ∙ ap (λ (l : List ℕ). a ∷ l) (high_stands b rest m x two))

more_stand : (a : ℕ) (bytes rest : List ℕ) (m : Moment) (x : ℤ) → 128 ≤ a → StandsHigh bytes rest m x → StandsHigh (a ∷ bytes) rest m x
more_stand a bytes rest m x one more =
    (a, bytes, refl, one, high_stands a (bytes ++ rest) m x one ∙ ap (λ (l : List ℕ). a ∷ l) more.4)

chosen : (P : List ℕ → Type 0) (t u v : Bool) (one two three four : List ℕ) → t ≡ false → P two → P three → P four → P (cond t one (cond u two (cond v three four)))
chosen P true u v one two three four not h i j = absurd (false≢true (sym not))
chosen P false true v one two three four not h i j = h
chosen P false false true one two three four not h i j = i
chosen P false false false one two three four not h i j = j

not_below : (c k : ℕ) → k ≤ c → ltb c k ≡ false
not_below c k le = by_test (ltb c k) refl
  where
    by_test : (b : Bool) → ltb c k ≡ b → b ≡ false
    by_test false e = refl
    by_test true e = absurd (omega (arith, ltb-true c k e, le))

spelt : (c : ℕ) (rest : List ℕ) (m : Moment) (x : ℤ) → 128 ≤ c → StandsHigh (encode c) rest m x
unfolding encode
spelt c rest m x high =
    let third = two_stand (next (c / 64)) (next c) rest m x (omega arith) (omega arith) in
    chosen (λ (l : List ℕ). StandsHigh l rest m x) (ltb c 128) (ltb c 2_048) (ltb c 65_536) _ _ _ _ (not_below c 128 high)
    (two_stand (192 + c / 64) (next c) rest m x (omega arith) (omega arith))
    (more_stand (224 + c / 4_096) _ rest m x (omega arith) third)
    (more_stand (240 + c / 262_144) _ rest m x (omega arith) (more_stand (next (c / 4_096)) _ rest m x (omega arith) third))

abbrev WritesUtf8 : List ℕ → Moment → ℤ → Type 0
WritesUtf8 bytes m x = (s : State) → IsUtf8 (text_from s bytes m x)

stopped : (s : State) (bytes rest : List ℕ) (m : Moment) (x : ℤ) → is_within s ≡ true → StandsHigh bytes rest m x → IsUtf8 (text_from s (bytes ++ rest) m x)
stopped s bytes rest m x within high =
    subst IsUtf8 (sym (ap (λ (l : List ℕ). text_from s (l ++ rest) m x) high.2 ∙ high_stops s high.0 (high.1 ++ rest) m x within high.3)) IsUtf8-nil

wide_utf8 : (c : ℕ) (rest : List ℕ) (m : Moment) (x : ℤ) → IsScalar c → StandsHigh (encode c) rest m x → WritesUtf8 rest m x → (s : State)
    → IsUtf8 (text_from s (encode c ++ rest) m x)
wide_utf8 c rest m x is high written Outside =
    subst IsUtf8 (sym high.4) (IsUtf8-append (encode c) (text_from Outside rest m x) (IsUtf8-encode c is) (written Outside))
wide_utf8 c rest m x is high written (Opened p) = stopped (Opened p) (encode c) rest m x refl high
wide_utf8 c rest m x is high written (Digits point count) = stopped (Digits point count) (encode c) rest m x refl high
wide_utf8 c rest m x is high written (Marked form) = stopped (Marked form) (encode c) rest m x refl high

step_utf8 : (c : ℕ) (bytes : List ℕ) (m : Moment) (x : ℤ) → IsOffset x → c < 128 → IsDate m.date → IsTime m.time → WritesUtf8 bytes m x → (s : State)
    → (o : Option (State × Item)) → pattern_step s c ≡ o → IsUtf8 (text_from s (c ∷ bytes) m x)
step_utf8 c bytes m x near small date time rest s None e = subst IsUtf8 (sym (text_from-none s c bytes m x e)) IsUtf8-nil
step_utf8 c bytes m x near small date time rest s (Some next) e =
    let item : IsAsciiItem next.1 = subst Steps e (step_small s c small) in
    let put = item_ascii next.1 m x near item date time in
    subst IsUtf8 (sym (text_from-more s c bytes m x next e))
    (IsUtf8-append (text_of_item next.1 m x) (text_from next.0 bytes m x) (IsUtf8-from_ascii (text_of_item next.1 m x) put) (rest next.0))

character_utf8 : (c : ℕ) (rest : List ℕ) (m : Moment) (x : ℤ) → IsOffset x → IsDate m.date → IsTime m.time → IsScalar c → WritesUtf8 rest m x → (s : State)
    → IsUtf8 (text_from s (encode c ++ rest) m x)
character_utf8 c rest m x near date time is written s = elim (cases_lt c 128) [
  | inl small ↦
      subst (λ (l : List ℕ). IsUtf8 (text_from s (l ++ rest) m x)) (sym (encode_ascii c small))
      (step_utf8 c rest m x near small date time written s (pattern_step s c) refl)
  | inr high ↦ wide_utf8 c rest m x is (spelt c rest m x high) written s
]

characters_utf8 : (cs : List ℕ) (m : Moment) (x : ℤ) → IsOffset x → IsDate m.date → IsTime m.time → scalars cs ≡ true → WritesUtf8 (encodes cs) m x
characters_utf8 [] m x near date time are s = subst IsUtf8 (sym (text_from-nothing s m x)) IsUtf8-nil
characters_utf8 (c ∷ cs) m x near date time are s =
    let both = and_parts (scalar c) (scalars cs) are in
    character_utf8 c (encodes cs) m x near date time both.0 (characters_utf8 cs m x near date time both.1) s

pub utf8_text : (bytes : List ℕ) (m : Moment) (x : ℤ) → IsOffset x → IsUtf8 bytes → IsDate m.date → IsTime m.time → IsUtf8 (text_at_offset bytes m x)
utf8_text bytes m x near utf8 date time =
    subst (λ (l : List ℕ). IsUtf8 (text_at_offset l m x)) utf8.1.1 (characters_utf8 utf8.0 m x near date time utf8.1.0 Outside)

-- ---- a text that is printed in pieces

pub added_grows : (done printed left waits added rest total : List ℕ) → printed ++ left ≡ waits ++ added → (done ++ waits) ++ (added ++ rest) ≡ total
    → ((done ++ printed) ++ left) ++ rest ≡ total
added_grows done printed left waits added rest total is whole =
    ap (λ (l : List ℕ). l ++ rest) (append_assoc done printed left ∙ ap (λ (l : List ℕ). done ++ l) is ∙ sym (append_assoc done waits added))
    ∙ append_assoc (done ++ waits) added rest
    ∙ whole

pub literal_grows : (text literal specifiers total : List ℕ) (m : Moment) (x : ℤ) (bytes : List ℕ) → text ++ text_from Outside bytes m x ≡ total
    → bytes ≡ literal ++ specifiers → All (λ c. c ≢ byte "%") literal → text ++ (literal ++ text_from Outside specifiers m x) ≡ total
literal_grows text literal specifiers total m x bytes whole is none =
    ap (λ (l : List ℕ). text ++ l) (sym (literal_text literal specifiers m x none) ∙ ap (λ (l : List ℕ). text_from Outside l m x) (sym is)) ∙ whole

pub item_grows : (text specifiers behind total : List ℕ) (item : Item) (m : Moment) (x : ℤ) → text ++ text_from Outside specifiers m x ≡ total
    → items_from Outside specifiers ≡ item_before item (items_from Outside behind) → text ++ (text_of_item item m x ++ text_from Outside behind m x) ≡ total
item_grows text specifiers behind total item m x whole front =
    ap (λ (l : List ℕ). text ++ l) (sym (text_of_front specifiers behind item m x front)) ∙ whole
