-- Finite sets of numbers.
use Rattle.std.specs.Prelude.{◌≡◌, ℕ, ◌%◌, ◌^◌, ◌==◌, nat_le, nat_lt, bit_or, Bool, true, false, not, ◌&&◌, List, [], ◌∷◌, refl}
use Rattle.std.specs.Int.{bit_at}
use Rattle.std.specs.List.{list_any}

-- a finite set of numbers: the sum of the powers 2^k of its members k
pub record FiniteSet : Type 0 where
  pub code : ℕ

-- the sum, by which sets are compared
abbrev pub code_of : FiniteSet → ℕ
code_of set = set.code

-- k is a member of the set
unfoldable pub has : FiniteSet → ℕ → Bool
has set k = bit_at set.code k == 1

-- the set without a member
abbrev pub no_numbers : FiniteSet
no_numbers = record { code = 0 }

-- the set has no member
abbrev pub is_empty : FiniteSet → Bool
is_empty set = set.code == 0

-- none of these sets has a member
abbrev pub are_empty : List FiniteSet → Bool
are_empty sets = not (list_any (λ set. not (is_empty set)) sets)

-- the members and n
abbrev pub with_number : FiniteSet → ℕ → FiniteSet
with_number set n = record { code = bit_or set.code (2 ^ n) }

-- the members and the numbers in a list
abbrev pub with_all : FiniteSet → List ℕ → FiniteSet
with_all set [] = set
with_all set (n ∷ ns) = with_all (with_number set n) ns

-- the set of the numbers in a list
abbrev pub numbers : List ℕ → FiniteSet
numbers ns = with_all no_numbers ns

-- each number of the list is below `end`
abbrev pub are_below : ℕ → List ℕ → Bool
are_below end ns = not (list_any (λ n. nat_le end n) ns)

-- each member is `first` or above, and below `end`
abbrev pub lies_within : ℕ → ℕ → FiniteSet → Bool
lies_within first end set = (set.code % 2 ^ first == 0) && nat_lt set.code (2 ^ end)

-- known values: the first and the last day of a month
has-first : has (numbers (1 ∷ 31 ∷ [])) 1 ≡ true
unfolding has
has-first = refl

has-last : has (numbers (1 ∷ 31 ∷ [])) 31 ≡ true
unfolding has
has-last = refl

has-between : has (numbers (1 ∷ 31 ∷ [])) 30 ≡ false
unfolding has
has-between = refl

-- the order of a list does not matter, nor how often a number stands in it
numbers-twice : numbers (31 ∷ 1 ∷ 31 ∷ []) ≡ numbers (1 ∷ 31 ∷ [])
numbers-twice = refl

is_empty-none : is_empty no_numbers ≡ true
is_empty-none = refl

is_empty-zero : is_empty (numbers (0 ∷ [])) ≡ false
is_empty-zero = refl

are_empty-last : are_empty (no_numbers ∷ numbers (0 ∷ []) ∷ []) ≡ false
are_empty-last = refl

lies_within-both_ends : lies_within 1 32 (numbers (1 ∷ 31 ∷ [])) ≡ true
lies_within-both_ends = refl

lies_within-below : lies_within 1 32 (numbers (0 ∷ 31 ∷ [])) ≡ false
lies_within-below = refl

lies_within-past : lies_within 1 32 (numbers (1 ∷ 32 ∷ [])) ≡ false
lies_within-past = refl
