-- The fraction of a second is read back where it has no more digits than are written.
use Rattle.std.proofs.Common.{◌≡◌, ◌≢◌, ℕ, zero, suc, ◌+◌, ◌-◌, ◌*◌, ◌%◌, ◌^◌, ◌<◌, ◌≤◌, ◌==◌, min, Bool, true, false, ◌&&◌, if◌then◌else◌, nat_le, nat_lt, List, [], ◌∷◌, ◌++◌, codes, drop, length, length-append, length-drop, length-take, take, take-append-drop, ℤ, pos, Option, Result, Ok, Err, refl, ap, sym, subst, ◌∙◌, arith}
use Rattle.std.proofs.lemmas.Bool.{and_from, and_parts, false≢true}
use Rattle.std.proofs.lemmas.Bool.Decides.{nat_tests}
use Rattle.std.proofs.lemmas.Nat.{mod-mul-add}
use Rattle.std.proofs.lemmas.Str.Parse.{digits_value_short}
use Rattle.std.specs.Char.{is_ascii_digit}
use Rattle.std.specs.Str.{all_ascii_digits}
use Rattle.chrono_text.proofs.Decimals.{nine_places}
use Rattle.chrono_text.proofs.DigitLemmas.{to_digits, value_append}
use Rattle.chrono_text.proofs.TextLemmas.{front_is}
use Rattle.chrono_text.specs.Numbers.{digits_of, value_of}
use Rattle.chrono_text.specs.Text.{all_digits}
use Rattle.chrono_datetime.specs.Duration.{nanos_per_second}
use Rattle.chrono_datetime.specs.Moment.{Moment}
use Rattle.chrono_datetime.specs.Time.{TimeOfDay}
use Rattle.chrono_pattern.specs.Kept.{keeps_subsecond, with_few}
use Rattle.chrono_pattern.specs.NamedParts.{with_named}
use Rattle.chrono_pattern.specs.OffsetReads.{at_rest}
use Rattle.chrono_pattern.specs.Parts.{put}
use Rattle.chrono_pattern.specs.Progress.{behind_blanks, class_len, is_pattern_blank, progress, put_behind, stopped}
use Rattle.chrono_pattern.specs.ReadBack.{parts_of}
use Rattle.chrono_pattern.specs.SubsecondReads.{fixed_read, places_read, places_value, point_behind, subsecond_read}
use Rattle.chrono_pattern.specs.Subseconds.{digit_count, fraction_with, nine_digits, subsecond_of}
use Rattle.chrono_pattern.specs.declared.class.Class.TheVariants.{Digit}
use Rattle.chrono_pattern.specs.declared.error.ReadFault.{ReadFault}
use Rattle.chrono_pattern.specs.declared.error.ReadFault.TheVariants.{TooShort}
use Rattle.chrono_pattern.specs.declared.item.Bar.TheVariants.{NoFraction}
use Rattle.chrono_pattern.specs.declared.parsed.Parsed.{Parsed}
use Rattle.chrono_pattern.specs.declared.parsed.Part.TheVariants.{NanosecondOfSecond}
use Rattle.chrono_pattern.proofs.BackDigits.{Ends, IsDigits, begins_point, digits_are, digits_counted, digits_stay, own, skip}
use Rattle.chrono_pattern.proofs.BackNumbers.{front_stays}
use Rattle.chrono_pattern.proofs.BackParts.{put_nanosecond}

-- ---- the first digits of a fraction

-- so many digits hold all of the fraction
pub record IsHeld (k f : ℕ) : Type 0 where
  pub some : 0 < k
  pub few : k ≤ 9
  pub below : f < 10 ^ 9
  pub whole : f % 10 ^ (9 - k) ≡ 0

take_tested : (ds : List ℕ) (k : ℕ) → all_ascii_digits ds ≡ true → all_ascii_digits (take k ds) ≡ true
take_tested ds zero all = refl
take_tested [] (suc k) all = refl
take_tested (c ∷ cs) (suc k) all =
    let parts = and_parts (is_ascii_digit c) (all_ascii_digits cs) all in
    and_from (is_ascii_digit c) (all_ascii_digits (take k cs)) parts.0 (take_tested cs k parts.1)

drop_tested : (ds : List ℕ) (k : ℕ) → all_ascii_digits ds ≡ true → all_ascii_digits (drop k ds) ≡ true
drop_tested ds zero all = all
drop_tested [] (suc k) all = refl
drop_tested (c ∷ cs) (suc k) all = drop_tested cs k (and_parts (is_ascii_digit c) (all_ascii_digits cs) all).1

abbrev pub places : ℕ → ℕ → List ℕ
places k f = take k (all_digits 9 f)

nine_tested : (f : ℕ) → f < 10 ^ 9 → all_ascii_digits (all_digits 9 f) ≡ true
nine_tested f small = own.from (all_digits 9 f) (to_digits 9 f small).1

places_long : (k f : ℕ) → k ≤ 9 → length (places k f) ≡ k
places_long k f few = omega (arith, length-take k (all_digits 9 f), few)

-- what they are worth
places_worth : (k f : ℕ) → IsHeld k f → value_of (places k f) * 10 ^ (9 - k) ≡ f
places_worth k f held =
    let ds = all_digits 9 f in
    let v = value_of (take k ds) in
    let w = value_of (drop k ds) in
    let behind : length (drop k ds) ≡ 9 - k = omega (arith, length-drop k ds) in
    let all : v * 10 ^ length (drop k ds) + w ≡ f = sym (value_append (take k ds) (drop k ds)) ∙ ap (λ (l : List ℕ). value_of l) (take-append-drop k ds) ∙ (to_digits 9 f held.below).2 in
    let sum : v * 10 ^ (9 - k) + w ≡ f = ap (λ (j : ℕ). v * 10 ^ j + w) (sym behind) ∙ all in
    let small : w < 10 ^ (9 - k) = digits_value_short own (drop k ds) (9 - k) (drop_tested ds k (nine_tested f held.below)) (omega (arith, behind)) in
    let none : w ≡ 0 = sym (mod-mul-add v (10 ^ (9 - k)) w small) ∙ ap (λ (j : ℕ). j % 10 ^ (9 - k)) sum ∙ held.whole in
    omega (arith, sum, none)

pub places_are : (k f : ℕ) → IsHeld k f → IsDigits (places k f) (value_of (places k f))
places_are k f held = record {
  tested = take_tested (all_digits 9 f) k (nine_tested f held.below);
  some = omega (arith, places_long k f held.few, held.some);
  value = refl;
}

-- they are read back
places_back : (k f : ℕ) (rest : List ℕ) (p q : Parsed) → IsHeld k f → put NanosecondOfSecond (pos f) p ≡ Ok q
    → places_read k k (places k f ++ rest) p ≡ Ok (at_rest rest q)
unfolding places_read
places_back k f rest p q held done =
    let ds = places k f in
    let text = ds ++ rest in
    let split = front_is text ds rest k (places_long k f held.few) refl in
    let are = places_are k f held in
    ap (λ (o : Option ℕ). places_value o k k text p)
    (ap (λ (l : List ℕ). digits_of k l) split.0 ∙ digits_are k (value_of ds) ds are (omega (arith, places_long k f held.few)))
    ∙ ap (λ (n : ℕ). put_behind k text NanosecondOfSecond (pos n) p) (places_worth k f held)
    ∙ ap (λ (l : List ℕ). progress (put NanosecondOfSecond (pos f) p) l text) split.1
    ∙ ap (λ (o : Result Parsed ReadFault). progress o rest text) done

-- ---- with a point, and with none

not_less : (a b : ℕ) → b ≤ a → nat_lt a b ≡ false
not_less a b h = grind (arith, nat_tests, h)

fixed_back : (k f : ℕ) (rest : List ℕ) (p q : Parsed) → IsHeld k f → put NanosecondOfSecond (pos f) p ≡ Ok q
    → fixed_read k (at_rest (places k f ++ rest) p) ≡ Ok (at_rest rest q)
fixed_back k f rest p q held done =
    let text = places k f ++ rest in
    ap (λ (b : Bool). if b then Err (stopped TooShort text) else places_read k k text p)
    (not_less (length text) k (omega (arith, length-append (places k f) rest, places_long k f held.few)))
    ∙ places_back k f rest p q held done

point_back : (k f : ℕ) (rest : List ℕ) (p q : Parsed) → IsHeld k f → class_len Digit rest ≡ 0 → put NanosecondOfSecond (pos f) p ≡ Ok q
    → point_behind (46 ∷ (places k f ++ rest)) p ≡ Ok (at_rest rest q)
point_back k f rest p q held none done =
    let text = places k f ++ rest in
    let counted : class_len Digit text ≡ k = omega (arith, digits_counted (places k f) rest (places_are k f held).tested, places_long k f held.few, none) in
    let nine : min k 9 ≡ k = omega (arith, held.few) in
    ap (λ (j : ℕ). places_read (min j 9) j text p) counted
    ∙ ap (λ (j : ℕ). places_read j k text p) nine
    ∙ places_back k f rest p q held done

-- where no point is, nothing is read
no_point_read : (text : List ℕ) (p : Parsed) → begins_point text ≡ false → point_behind text p ≡ Ok (at_rest text p)
no_point_read [] p h = refl
no_point_read (c ∷ text) p h = ap (λ (b : Bool). if b then places_read (min (class_len Digit text) 9) (class_len Digit text) text p else Ok (at_rest (c ∷ text) p)) h

point_no_blank : (c : ℕ) → (c == 46) ≡ true → is_pattern_blank c ≡ false
point_no_blank c h = grind (arith, nat_tests)

no_point_here : (text : List ℕ) → begins_point (behind_blanks text) ≡ false → begins_point text ≡ false
no_point_here [] h = refl
no_point_here (c ∷ text) h = by_test (c == 46) refl
  where
    by_test : (b : Bool) → (c == 46) ≡ b → (c == 46) ≡ false
    by_test false e = e
    by_test true e = sym (ap (λ (l : List ℕ). begins_point l) (front_stays c text (point_no_blank c e))) ∙ h

pub nothing_back : (b : Bool) (rest : List ℕ) (p : Parsed) → Ends NoFraction rest → point_behind (skip b rest) p ≡ Ok (at_rest (skip b rest) p)
nothing_back true rest p ends = no_point_read (behind_blanks rest) p ends.1
nothing_back false rest p ends = no_point_read rest p (no_point_here rest ends.1)

-- ---- how many digits are written

held_by : (f : ℕ) → f < 10 ^ 9 → f ≢ 0 → (a b : Bool) → (f % 1_000_000 == 0) ≡ a → (f % 1_000 == 0) ≡ b
    → IsHeld (if a then 3 else if b then 6 else 9) f
held_by f small not true b x y = record { some = omega arith; few = omega arith; below = small; whole = grind (arith, nat_tests) }
held_by f small not false true x y = record { some = omega arith; few = omega arith; below = small; whole = grind (arith, nat_tests) }
held_by f small not false false x y = record { some = omega arith; few = omega arith; below = small; whole = omega arith }

pub few_held : (f : ℕ) → f < 10 ^ 9 → f ≢ 0 → (b : Bool) → (f == 0) ≡ b → IsHeld (digit_count 0 f) f
few_held f small not true e = absurd (not (grind (arith, nat_tests)))
few_held f small not false e =
    subst (λ (k : ℕ). IsHeld k f) (sym (ap (λ (b : Bool). if b then 0 else if f % 1_000_000 == 0 then 3 else if f % 1_000 == 0 then 6 else 9) e))
    (held_by f small not (f % 1_000_000 == 0) (f % 1_000 == 0) refl refl)

above_zero : (k : ℕ) → 0 < k → nat_lt 0 k ≡ true
above_zero k some = grind (arith, nat_tests, some)

pub asked : (count f : ℕ) → 0 < count → digit_count count f ≡ min count 9
asked count f some =
    ap (λ (b : Bool). if b then (if nat_le count 9 then count else 9) else digit_count 0 f) (above_zero count some) ∙ by_size (nat_le count 9) refl
  where
    by_size : (b : Bool) → nat_le count 9 ≡ b → (if b then count else 9) ≡ min count 9
    by_size true e = let few : count ≤ 9 = grind (arith, nat_tests) in omega (arith, few)
    by_size false e = let many : 9 < count = grind (arith, nat_tests) in omega (arith, many)

-- ---- the text

pub nine_same : (f : ℕ) → f < 10 ^ 9 → nine_digits f ≡ all_digits 9 f
nine_same f small = sym (nine_places f small)

pub pointed : (k f : ℕ) (rest : List ℕ) → 0 < k → f < 10 ^ 9 → fraction_with true k f ++ rest ≡ 46 ∷ (places k f ++ rest)
pointed k f rest some small =
    ap (λ (b : Bool). ((if true && b then codes "." else []) ++ take k (nine_digits f)) ++ rest) (above_zero k some)
    ∙ ap (λ (l : List ℕ). 46 ∷ (take k l ++ rest)) (nine_same f small)

pub unpointed : (k f : ℕ) (rest : List ℕ) → f < 10 ^ 9 → fraction_with false k f ++ rest ≡ places k f ++ rest
unpointed k f rest small = ap (λ (l : List ℕ). take k l ++ rest) (nine_same f small)

abbrev pub fraction_of : TimeOfDay → ℕ
fraction_of t = t.fraction % nanos_per_second

pub below : (t : TimeOfDay) → fraction_of t < 10 ^ 9
below t = omega arith

-- a point and digits are read back
pub point_text_back : (b : Bool) (k : ℕ) (rest : List ℕ) (q : Parsed) (m : Moment) (x : ℤ) → IsHeld k (fraction_of m.time) → class_len Digit rest ≡ 0
    → point_behind (skip b (fraction_with true k (fraction_of m.time) ++ rest)) (parts_of q m x) ≡ Ok (at_rest rest (parts_of (with_named NanosecondOfSecond q) m x))
point_text_back b k rest q m x held none =
    let f = fraction_of m.time in
    ap (λ (l : List ℕ). point_behind (skip b l) (parts_of q m x)) (pointed k f rest held.some held.below)
    ∙ ap (λ (l : List ℕ). point_behind l (parts_of q m x)) (skips b)
    ∙ point_back k f rest (parts_of q m x) (parts_of (with_named NanosecondOfSecond q) m x) held none (put_nanosecond q m x)
  where
    skips : (s : Bool) → skip s (46 ∷ (places k (fraction_of m.time) ++ rest)) ≡ 46 ∷ (places k (fraction_of m.time) ++ rest)
    skips true = front_stays 46 _ refl
    skips false = refl

-- a fraction of as few digits as hold it
pub few_back : (b : Bool) (rest : List ℕ) (q : Parsed) (m : Moment) (x : ℤ) → Ends NoFraction rest
    → subsecond_read true 0 (at_rest (skip b (subsecond_of true 0 m.time ++ rest)) (parts_of q m x))
    ≡ Ok (at_rest (skip (if fraction_of m.time == 0 then b else false) rest) (parts_of (with_few m.time q) m x))
unfolding subsecond_read subsecond_of
few_back b rest q m x ends = by_test (fraction_of m.time == 0) refl
  where
    by_test : (z : Bool) → (fraction_of m.time == 0) ≡ z
        → point_behind (skip b (fraction_with true (digit_count 0 (fraction_of m.time)) (fraction_of m.time) ++ rest)) (parts_of q m x)
        ≡ Ok (at_rest (skip (if z then b else false) rest) (parts_of (if z then q else with_named NanosecondOfSecond q) m x))
    by_test true e =
        let none : fraction_of m.time ≡ 0 = grind (arith, nat_tests) in
        ap (λ (f : ℕ). point_behind (skip b (fraction_with true (digit_count 0 f) f ++ rest)) (parts_of q m x)) none
        ∙ nothing_back b rest (parts_of q m x) ends
    by_test false e =
        let some : fraction_of m.time ≢ 0 = λ z. false≢true (sym e ∙ grind (arith, nat_tests, z)) in
        point_text_back b (digit_count 0 (fraction_of m.time)) rest q m x (few_held (fraction_of m.time) (below m.time) some false e) ends.0

-- a fraction of so many digits
pub held_asked : (count : ℕ) (t : TimeOfDay) → 0 < count → keeps_subsecond count t ≡ true → IsHeld (min count 9) (fraction_of t)
held_asked count t some keeps = by_zero (count == 0) refl keeps
  where
    by_zero : (z : Bool) → (count == 0) ≡ z → (if z then true else fraction_of t % 10 ^ (9 - min count 9) == 0) ≡ true → IsHeld (min count 9) (fraction_of t)
    by_zero true e h = let none : count ≡ 0 = grind (arith, nat_tests) in absurd (omega (arith, none, some))
    by_zero false e h = record { some = omega (arith, some); few = omega arith; below = below t; whole = grind (arith, nat_tests, h) }

pub asked_back : (b : Bool) (count : ℕ) (rest : List ℕ) (q : Parsed) (m : Moment) (x : ℤ) → 0 < count → keeps_subsecond count m.time ≡ true
    → class_len Digit rest ≡ 0
    → subsecond_read true count (at_rest (skip b (subsecond_of true count m.time ++ rest)) (parts_of q m x))
    ≡ Ok (at_rest rest (parts_of (with_named NanosecondOfSecond q) m x))
unfolding subsecond_read subsecond_of
asked_back b count rest q m x some keeps none =
    ap (λ (k : ℕ). point_behind (skip b (fraction_with true k (fraction_of m.time) ++ rest)) (parts_of q m x)) (asked count (fraction_of m.time) some)
    ∙ point_text_back b (min count 9) rest q m x (held_asked count m.time some keeps) none

places_skip : (b : Bool) (k f : ℕ) (rest : List ℕ) → IsHeld k f → skip b (places k f ++ rest) ≡ places k f ++ rest
places_skip true k f rest held = digits_stay (places k f) rest (value_of (places k f)) (places_are k f held)
places_skip false k f rest held = refl

pub fixed_text_back : (b : Bool) (count : ℕ) (rest : List ℕ) (q : Parsed) (m : Moment) (x : ℤ) → 0 < count → keeps_subsecond count m.time ≡ true
    → subsecond_read false count (at_rest (skip b (subsecond_of false count m.time ++ rest)) (parts_of q m x))
    ≡ Ok (at_rest rest (parts_of (with_named NanosecondOfSecond q) m x))
unfolding subsecond_read subsecond_of
fixed_text_back b count rest q m x some keeps =
    let f = fraction_of m.time in
    let k = min count 9 in
    let held = held_asked count m.time some keeps in
    ap (λ (j : ℕ). fixed_read k (at_rest (skip b (fraction_with false j f ++ rest)) (parts_of q m x))) (asked count f some)
    ∙ ap (λ (l : List ℕ). fixed_read k (at_rest (skip b l) (parts_of q m x))) (unpointed k f rest held.below)
    ∙ ap (λ (l : List ℕ). fixed_read k (at_rest l (parts_of q m x))) (places_skip b k f rest held)
    ∙ fixed_back k f rest (parts_of q m x) (parts_of (with_named NanosecondOfSecond q) m x) held (put_nanosecond q m x)
