-- Where texts are cut that are put together.
use Rattle.std.proofs.Common.{◌≡◌, ◌==◌, ℕ, suc, ◌+◌, Bool, true, false, cond, not, ◌&&◌, List, [], ◌∷◌, ◌++◌, length, take, drop, refl, sym, ap, ◌∙◌, append-nil, arith}
use Rattle.std.specs.List.{list_all, position_or_len, prefix_len}
use Rattle.std.proofs.Math.Seq.{drop-append_seam, take-append_seam}
use Rattle.std.proofs.lemmas.Bool.{and_from, le-ltb, ne_eqb, not_from_false}
use Rattle.std.proofs.lemmas.Bool.Decides.{nat_tests}
use Rattle.chrono_text.specs.Lists.{stands_in}
use Rattle.chrono_text.proofs.ListLemmas.{lacks, prefix_ends, weaker}
use Rattle.zone_text.specs.NameTexts.{behind_front, front_of}

-- a byte that fails is none of them
pub is_other : (p : ℕ → Bool) (other b : ℕ) → p other ≡ false → p b ≡ true → (b == other) ≡ false
is_other p other b fails passes = ne_eqb b other (λ same. let wrong : true ≡ false = sym passes ∙ ap p same ∙ fails in absurd cc)

pub others_lack : (p : ℕ → Bool) (other : ℕ) (text : List ℕ) → p other ≡ false → list_all p text ≡ true → lacks other text ≡ true
others_lack p other text fails all =
    weaker p (λ b. not (b == other)) text (λ b passes. not_from_false (b == other) (is_other p other b fails passes)) all

-- ---- the bytes in front that pass a test

-- nothing, or a byte that fails
abbrev pub Stops : (ℕ → Bool) → List ℕ → Type 0
Stops p [] = Unit {0}
Stops p (b ∷ bs) = p b ≡ false

prefix_is : (p : ℕ → Bool) (front rest : List ℕ) → list_all p front ≡ true → Stops p rest → prefix_len p (front ++ rest) ≡ length front
prefix_is p front rest all stops = prefix_ends p front rest all (none rest stops)
  where
    none : (rest : List ℕ) → Stops p rest → prefix_len p rest ≡ 0
    none [] stops = refl
    none (b ∷ bs) stops = rw stops refl

pub front_is : (p : ℕ → Bool) (front rest : List ℕ) → list_all p front ≡ true → Stops p rest → front_of p (front ++ rest) ≡ front
front_is p front rest all stops = ap (λ n. take n (front ++ rest)) (prefix_is p front rest all stops) ∙ take-append_seam front rest

pub behind_is : (p : ℕ → Bool) (front rest : List ℕ) → list_all p front ≡ true → Stops p rest → behind_front p (front ++ rest) ≡ rest
behind_is p front rest all stops = ap (λ n. drop n (front ++ rest)) (prefix_is p front rest all stops) ∙ drop-append_seam front rest

-- they pass it
passes_on : (p : ℕ → Bool) (b : ℕ) (bs : List ℕ) (t : Bool) → p b ≡ t → list_all p (take (prefix_len p bs) bs) ≡ true → list_all p (take (cond t (1 + prefix_len p bs) 0) (b ∷ bs)) ≡ true
passes_on p b bs true is rest = let one : 1 + prefix_len p bs ≡ suc (prefix_len p bs) = omega arith in rw one (and_from (p b) (list_all p (take (prefix_len p bs) bs)) is rest)
passes_on p b bs false is rest = refl

pub front_passes : (p : ℕ → Bool) (text : List ℕ) → list_all p (front_of p text) ≡ true
front_passes p [] = refl
front_passes p (b ∷ bs) = passes_on p b bs (p b) refl (front_passes p bs)

-- as many as there are, if all do
one_more : (t : Bool) (n m : ℕ) (all : Bool) → (n == m) ≡ all → (cond t (1 + n) 0 == suc m) ≡ (t && all)
one_more true n m all is = let same : (1 + n == suc m) ≡ (n == m) = grind (arith, nat_tests) in same ∙ is
one_more false n m all is = ne_eqb 0 (suc m) (λ e. omega (arith, e))

pub all_or_fewer : (p : ℕ → Bool) (text : List ℕ) → (prefix_len p text == length text) ≡ list_all p text
all_or_fewer p [] = refl
all_or_fewer p (b ∷ bs) = one_more (p b) (prefix_len p bs) (length bs) (list_all p bs) (all_or_fewer p bs)

-- no separator stands in a text that lacks it
pub sep_lacks : (sep : ℕ) (text : List ℕ) → lacks sep text ≡ true → stands_in sep text ≡ false
sep_lacks sep text none =
    let same : position_or_len (λ x. x == sep) text ≡ length text =
    ap (λ l. position_or_len (λ x. x == sep) l) (sym (append-nil text)) ∙ prefix_is (λ x. not (x == sep)) text [] none tt in
    le-ltb (position_or_len (λ x. x == sep) text) (length text) (omega (arith, same))
