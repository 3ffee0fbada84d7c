-- Fractions of a second: digits behind a point, and the nanoseconds that they write.
use Rattle.std.proofs.Common.{◌↔◌, ◌⊎◌, get_or, length-append, inl, inr, Some, ◌≡◌, pow-add, take, drop, ℕ, zero, suc, ◌+◌, ◌-◌, ◌*◌, ◌/◌, ◌%◌, ◌^◌, ◌<◌, ◌≤◌, List, [], ◌∷◌, ◌++◌, length, replicate, subst, arith, refl, sym, ap, ◌∙◌}
use Rattle.std.proofs.Math.Nat.{eq_of_mul-eq-mul_right, mul-lt-mul_of_pos_right}
use Rattle.std.proofs.lemmas.Nat.{div-add-mod', mod_below}
use Rattle.std.proofs.lemmas.List.{append-nil, length-replicate, take_all}
use Rattle.chrono_text.specs.Text.{all_digits}
use Rattle.chrono_text.specs.Fractions.{HasMoreZeros, IsFractionText, IsPointText, SameFraction}
use Rattle.chrono_text.proofs.DigitLemmas.{all_digits-one, by_size, digits_more, pow_pos}

-- so many places have so many digits
pub length-all_digits : (k n : ℕ) → length (all_digits k n) ≡ k
length-all_digits zero n = refl
length-all_digits (suc k) n = ap suc (length-all_digits k _)

-- a count of places, in nanoseconds, is below a second
pub nanos_below : (places count : ℕ) → places ≤ 9 → count < 10 ^ places → count * 10 ^ (9 - places) < 1_000_000_000
nanos_below places count few below =
    let whole : 10 ^ (places + (9 - places)) ≡ 10 ^ places * 10 ^ (9 - places) = pow-add 10 places (9 - places) in
    let sum : places + (9 - places) ≡ 9 = omega arith in
    let size : 10 ^ places * 10 ^ (9 - places) ≡ 1_000_000_000 = sym whole ∙ ap (λ k. 10 ^ k) sum in
    let step = mul-lt-mul_of_pos_right {k = 10 ^ (9 - places)} below (pow_pos (9 - places)) in
    omega arith

-- the digits behind a point are those of a count of as many places
pub record IsCount (digits : List ℕ) (nanos : ℕ) : Type 0 where
  pub count : ℕ
  pub some : 1 ≤ length digits
  pub few : length digits ≤ 9
  pub below : count < 10 ^ length digits
  pub written : all_digits (length digits) count ≡ digits
  pub worth : count * 10 ^ (9 - length digits) ≡ nanos

pub IsCount-point : (digits : List ℕ) (n : ℕ) → IsPointText (46 ∷ digits) n → IsCount digits n
IsCount-point digits n is =
    let behind : all_digits is.places is.count ≡ digits = ap (drop 1) is.written in
    let size : is.places ≡ length digits = sym (length-all_digits is.places is.count) ∙ ap length behind in
    record {
      count = is.count;
      some = omega (arith, is.some.0);
      few = omega (arith, is.some.1);
      below = rw size at is.below;
      written = rw size at behind;
      worth = rw size at is.worth;
    }

pub IsPointText-count : (digits : List ℕ) (count : ℕ) → 1 ≤ length digits → length digits ≤ 9 → count < 10 ^ length digits → all_digits (length digits) count ≡ digits
    → IsPointText (46 ∷ digits) (count * 10 ^ (9 - length digits))
IsPointText-count digits count some few below written = record {
  places = length digits;
  count = count;
  some = (some, few);
  below = below;
  worth = refl;
  written = ap (λ (t : List ℕ). 46 ∷ t) written;
}

-- the same count is worth the same
pub nanos_same : (digits : List ℕ) (count other unit n : ℕ) → count ≡ other → unit ≡ 10 ^ (9 - length digits) → other * 10 ^ (9 - length digits) ≡ n → Some (count * unit) ≡ Some n
nanos_same digits count other unit n same is worth = rw (same, is, worth) refl

-- a text that is not empty is a fraction by its point and what follows it
behind_point : (digits text : List ℕ) → 46 ∷ digits ≡ text → 46 ∷ take (length text - 1) (drop 1 text) ≡ text
behind_point digits text e =
    let size : length digits ≡ length text - 1 = omega (arith, ap length e) in
    let rest : digits ≡ drop 1 text = ap (drop 1) e in
    ap (λ (t : List ℕ). 46 ∷ t) (ap (take (length text - 1)) (sym rest) ∙ ap (λ n. take n digits) (sym size) ∙ take_all (length digits) digits (omega arith)) ∙ e

pub IsFractionText-some : (text : List ℕ) (n : ℕ) → 0 < length text → IsFractionText text n → IsPointText (46 ∷ take (length text - 1) (drop 1 text)) n
IsFractionText-some text n some (inl is) = absurd (omega (arith, ap length is.0))
IsFractionText-some text n some (inr is) = rw (sym (behind_point _ text is.written)) at is

-- a fraction is below a second
pub IsFractionText-below : (text : List ℕ) (n : ℕ) → IsFractionText text n → n < 1_000_000_000
IsFractionText-below text n (inl is) = omega (arith, is.1)
IsFractionText-below text n (inr is) = rw is.worth at (nanos_below is.places is.count is.some.1 is.below)

-- ---- the texts of one fraction

all_zeros : (k : ℕ) → all_digits k 0 ≡ replicate k 48
all_zeros zero = refl
all_zeros (suc k) =
    let none : 0 ≡ 0 * 10 ^ k + 0 = omega arith in
    ap (all_digits (suc k)) none ∙ digits_more k 0 0 (pow_pos k) ∙ ap (λ (t : List ℕ). 48 ∷ t) (all_zeros k)

none_below : (count : ℕ) → count < 10 ^ 0 → count ≡ 0
none_below count below = omega arith

rest_of : (total places more : ℕ) → suc total ≡ suc places + more → total ≡ places + more
rest_of total places more sum = omega arith

-- zeros behind the digits of a count: those of ten times the count for each of them
all_digits-zeros : (places more total count : ℕ) → total ≡ places + more → count < 10 ^ places
    → all_digits total (count * 10 ^ more) ≡ all_digits places count ++ replicate more 48
all_digits-zeros zero more total count sum below =
    let none : count * 10 ^ more ≡ 0 = omega (arith, ap (λ c. c * 10 ^ more) (none_below count below)) in
    let size : total ≡ more = omega arith in
    ap (all_digits total) none ∙ ap (λ k. all_digits k 0) size ∙ all_zeros more
all_digits-zeros (suc places) more zero count sum below = absurd (omega arith)
all_digits-zeros (suc places) more (suc total) count sum below =
    let unit : 10 ^ total ≡ 10 ^ places * 10 ^ more = ap (λ k. 10 ^ k) (rest_of total places more sum) ∙ pow-add 10 places more in
    let rest : count % 10 ^ places < 10 ^ places = mod_below count (10 ^ places) (pow_pos places) in
    let small : count % 10 ^ places * 10 ^ more < 10 ^ total = rw unit (mul-lt-mul_of_pos_right {k = 10 ^ more} rest (pow_pos more)) in
    let whole : count * 10 ^ more ≡ count / 10 ^ places * 10 ^ total + count % 10 ^ places * 10 ^ more =
    omega (arith, ap (λ z. z * 10 ^ more) (div-add-mod' count (10 ^ places)), ap (λ z. count / 10 ^ places * z) unit) in
    ap (all_digits (suc total)) whole
    ∙ digits_more total (count / 10 ^ places) (count % 10 ^ places * 10 ^ more) small
    ∙ ap (λ (t : List ℕ). (48 + count / 10 ^ places) ∷ t) (all_digits-zeros places more total (count % 10 ^ places) (rest_of total places more sum) rest)

-- of two counts worth the same, that of more places has zeros behind it
point_zeros : (text other : List ℕ) (n : ℕ) (is : IsPointText text n) (also : IsPointText other n) → is.places ≤ also.places → HasMoreZeros text other
point_zeros text other n is also fewer =
    let more = also.places - is.places in
    let sum : also.places ≡ is.places + more = omega arith in
    let units : 9 - is.places ≡ more + (9 - also.places) = omega (arith, also.some.1) in
    let split : 10 ^ (9 - is.places) ≡ 10 ^ more * 10 ^ (9 - also.places) = ap (λ k. 10 ^ k) units ∙ pow-add 10 more (9 - also.places) in
    let scaled : is.count * 10 ^ more * 10 ^ (9 - also.places) ≡ also.count * 10 ^ (9 - also.places) = omega (arith, ap (λ z. is.count * z) split, is.worth, also.worth) in
    let count = eq_of_mul-eq-mul_right (10 ^ (9 - also.places)) (pow_pos (9 - also.places)) (is.count * 10 ^ more) also.count scaled in
    let digits = all_digits-zeros is.places more also.places is.count sum is.below in
    record {
      zeros = more;
      written = inl (ap (λ (t : List ℕ). t ++ replicate more 48) (sym is.written) ∙ ap (λ (t : List ℕ). 46 ∷ t) (sym digits ∙ ap (all_digits also.places) count) ∙ also.written);
    }

-- no nanoseconds behind a point are zeros alone
no_nanos : (other : List ℕ) (is : IsPointText other 0) → HasMoreZeros [] other
no_nanos other is =
    let none : is.count ≡ 0 = eq_of_mul-eq-mul_right (10 ^ (9 - is.places)) (pow_pos (9 - is.places)) is.count 0 (omega (arith, is.worth)) in
    record {
      zeros = is.places;
      written = inr (refl, ap (λ (t : List ℕ). 46 ∷ t) (sym (all_zeros is.places) ∙ ap (all_digits is.places) (sym none)) ∙ is.written);
    }

no_zeros : (text : List ℕ) → HasMoreZeros text text
no_zeros text = record { zeros = 0; written = inl (append-nil text) }

behind_nothing : (text other : List ℕ) (n : ℕ) → text ≡ [] → n ≡ 0 → IsPointText other n → HasMoreZeros text other
behind_nothing text other n empty none is =
    subst (λ (t : List ℕ). HasMoreZeros t other) (sym empty) (no_nanos other (subst (λ k. IsPointText other k) none is))

-- two texts of one fraction differ in the zeros at the end
pub IsFractionText-same : (text other : List ℕ) (n : ℕ) → IsFractionText text n → IsFractionText other n → SameFraction text other
IsFractionText-same text other n (inl is) (inl also) = inl (rw (is.0, also.0) (no_zeros []))
IsFractionText-same text other n (inl is) (inr also) = inl (behind_nothing text other n is.0 is.1 also)
IsFractionText-same text other n (inr is) (inl also) = inr (behind_nothing other text n also.0 also.1 is)
IsFractionText-same text other n (inr is) (inr also) = by_size also.places is.places
    (λ fewer. inl (point_zeros text other n is also (omega arith)))
    (λ more. inr (point_zeros other text n also is more))

-- ---- and of one fraction alone

-- zeros behind nothing are no fraction, and a point and zeros are one of no nanoseconds
zeros_alone : (other : List ℕ) (zeros m : ℕ) → 46 ∷ replicate zeros 48 ≡ other → IsPointText other m → m ≡ 0
zeros_alone other zeros m e is =
    let digits : all_digits is.places is.count ≡ replicate zeros 48 = ap (drop 1) (is.written ∙ sym e) in
    let size : is.places ≡ zeros = sym (length-all_digits is.places is.count) ∙ ap length digits ∙ length-replicate {A = ℕ} zeros 48 in
    let none = all_digits-one is.places is.count 0 is.below (pow_pos is.places) (digits ∙ ap (λ k. replicate k 48) (sym size) ∙ sym (all_zeros is.places)) in
    omega (arith, is.worth, ap (λ c. c * 10 ^ (9 - is.places)) none)

no_point : (other : List ℕ) (zeros m : ℕ) → replicate zeros 48 ≡ other → IsPointText other m → ⊥
no_point other zero m e is = omega (arith, ap length (e ∙ sym is.written))
no_point other (suc more) m e is = omega (arith, ap (λ (t : List ℕ). get_or t 0 0) (e ∙ sym is.written))

-- a count with zeros behind its digits is worth the same
point_worth : (text other : List ℕ) (zeros n m : ℕ) (is : IsPointText text n) (also : IsPointText other m) → text ++ replicate zeros 48 ≡ other → n ≡ m
point_worth text other zeros n m is also e =
    let digits : all_digits is.places is.count ++ replicate zeros 48 ≡ all_digits also.places also.count =
    ap (drop 1) (ap (λ (t : List ℕ). t ++ replicate zeros 48) is.written ∙ e ∙ sym also.written) in
    let sum : also.places ≡ is.places + zeros =
    omega (arith, ap length digits, length-append (all_digits is.places is.count) (replicate zeros 48), length-all_digits is.places is.count, length-all_digits also.places also.count, length-replicate {A = ℕ} zeros 48) in
    let scaled = all_digits-zeros is.places zeros also.places is.count sum is.below in
    let split : 10 ^ also.places ≡ 10 ^ is.places * 10 ^ zeros = ap (λ k. 10 ^ k) sum ∙ pow-add 10 is.places zeros in
    let below : is.count * 10 ^ zeros < 10 ^ also.places = rw split (mul-lt-mul_of_pos_right {k = 10 ^ zeros} is.below (pow_pos zeros)) in
    let count = all_digits-one also.places (is.count * 10 ^ zeros) also.count below also.below (scaled ∙ digits) in
    let units : 9 - is.places ≡ zeros + (9 - also.places) = omega (arith, also.some.1) in
    let unit : 10 ^ (9 - is.places) ≡ 10 ^ zeros * 10 ^ (9 - also.places) = ap (λ k. 10 ^ k) units ∙ pow-add 10 zeros (9 - also.places) in
    omega (arith, is.worth, also.worth, ap (λ z. is.count * z) unit, ap (λ z. z * 10 ^ (9 - also.places)) count)

not_empty : (text : List ℕ) (n : ℕ) → IsPointText text n → text ≡ [] → ⊥
not_empty text n is e = omega (arith, ap length (is.written ∙ e))

more_zeros_same : (text other : List ℕ) (n m : ℕ) → IsFractionText text n → IsFractionText other m → (more : HasMoreZeros text other)
    → (text ++ replicate more.zeros 48 ≡ other) ⊎ ((text ≡ []) × (46 ∷ replicate more.zeros 48 ≡ other)) → n ≡ m
more_zeros_same text other n m (inl is) (inl also) more written = is.1 ∙ sym also.1
more_zeros_same text other n m (inl is) (inr also) more (inl e) =
    absurd (no_point other more.zeros m (ap (λ (t : List ℕ). t ++ replicate more.zeros 48) (sym is.0) ∙ e) also)
more_zeros_same text other n m (inl is) (inr also) more (inr e) = is.1 ∙ sym (zeros_alone other more.zeros m e.1 also)
more_zeros_same text other n m (inr is) (inl also) more (inl e) =
    omega (arith, ap length is.written, ap length (e ∙ also.0), length-append text (replicate more.zeros 48))
more_zeros_same text other n m (inr is) (inl also) more (inr e) = absurd (not_empty text n is e.0)
more_zeros_same text other n m (inr is) (inr also) more (inl e) = point_worth text other more.zeros n m is also e
more_zeros_same text other n m (inr is) (inr also) more (inr e) = absurd (not_empty text n is e.0)

pub IsFractionText-one : (text other : List ℕ) (n m : ℕ) → IsFractionText text n → IsFractionText other m → SameFraction text other → n ≡ m
IsFractionText-one text other n m is also (inl more) = more_zeros_same text other n m is also more more.written
IsFractionText-one text other n m is also (inr more) = sym (more_zeros_same other text m n also is more more.written)

-- the texts of two fractions differ in zeros at the end exactly if they are the same
pub IsFractionText-told : (text other : List ℕ) (n m : ℕ) → IsFractionText text n → IsFractionText other m → SameFraction text other ↔ (n ≡ m)
IsFractionText-told text other n m is also = (
  IsFractionText-one text other n m is also,
  λ same. IsFractionText-same text other n is (subst (λ k. IsFractionText other k) (sym same) also),
)

-- three digits behind a point are those of a count of milliseconds
pub IsCount-millis : (digits : List ℕ) (n : ℕ) → length digits ≡ 3 → (c : IsCount digits n) → (c.count < 1_000) × (all_digits 3 c.count ≡ digits) × (c.count * 1_000_000 ≡ n)
IsCount-millis digits n three c =
    let below : c.count < 10 ^ 3 = rw three at c.below in
    let written : all_digits 3 c.count ≡ digits = rw three at c.written in
    let worth : c.count * 10 ^ (9 - 3) ≡ n = rw three at c.worth in
    (below, written, worth)

-- and a count of milliseconds is worth as many nanoseconds
pub IsPointText-millis : (digits : List ℕ) (count : ℕ) → count < 1_000 → all_digits 3 count ≡ digits → IsPointText (46 ∷ digits) (count * 1_000_000)
IsPointText-millis digits count below written = record {
  places = 3;
  count = count;
  some = (omega arith, omega arith);
  below = below;
  worth = refl;
  written = ap (λ (t : List ℕ). 46 ∷ t) written;
}

-- a fraction of four bytes is a point and the three behind it
pub IsFractionText-millis : (text : List ℕ) (n : ℕ) → length text ≡ 4 → IsFractionText text n → IsPointText (46 ∷ get_or text 1 0 ∷ get_or text 2 0 ∷ get_or text 3 0 ∷ []) n
IsFractionText-millis [] n e is = absurd (omega (arith, e))
IsFractionText-millis (p ∷ []) n e is = absurd (omega (arith, e))
IsFractionText-millis (p ∷ a ∷ []) n e is = absurd (omega (arith, e))
IsFractionText-millis (p ∷ a ∷ b ∷ []) n e is = absurd (omega (arith, e))
IsFractionText-millis (p ∷ a ∷ b ∷ d ∷ []) n e is = IsFractionText-some (p ∷ a ∷ b ∷ d ∷ []) n (omega arith) is
IsFractionText-millis (p ∷ a ∷ b ∷ d ∷ x ∷ rest) n e is = absurd (omega (arith, e))
