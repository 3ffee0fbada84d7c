-- Whole numbers in text.
use Rattle.std.specs.Prelude.{◌≡◌, ◌<◌, ◌≤◌, ◌==◌, nat_le, ℕ, ◌+◌, ◌-◌, ◌*◌, ◌^◌, Bool, ◌&&◌, ◌⊎◌, List, [], ◌∷◌, ◌++◌, length, slice_index, ℤ, pos, negsuc, neg_ℤ, unsigned_abs, Option, Some, None, true, false, if◌then◌else◌, int_le, codes, refl}
use Rattle.std.specs.Option.{option_map, option_and_then}
use Rattle.std.specs.Char.{is_ascii_digit}
use Rattle.std.specs.List.{AllByRecursion, list_all}
use Rattle.std.specs.Int.{IsInRange}
use Rattle.std.specs.Str.{all_ascii_digits, byte}

-- what digits are worth: each its own value times ten to the number of digits behind it
abbrev pub value_of : List ℕ → ℕ
value_of [] = 0
value_of (digit ∷ digits) = (digit - byte "0") * 10 ^ length digits + value_of digits

-- one digit or more
abbrev pub are_digits : List ℕ → Bool
are_digits text = nat_le 1 (length text) && list_all is_ascii_digit text

-- the value of one digit or more
unfoldable pub natural_of : List ℕ → Option ℕ
natural_of [] = None
natural_of (digit ∷ digits) = if all_ascii_digits (digit ∷ digits) then Some (value_of (digit ∷ digits)) else None

-- the number that one digit or more write, if they are no more than `most`
unfoldable pub digits_of : ℕ → List ℕ → Option ℕ
digits_of most text = if nat_le (length text) most then natural_of text else None

-- the number, if it is no greater
abbrev pub up_to : ℕ → ℕ → Option ℕ
up_to most n = if nat_le n most then Some n else None

-- the number, if it is above 0
abbrev pub above_zero : ℕ → Option ℕ
above_zero n = if nat_le 1 n then Some n else None

-- the number, if it is from `low` to `high`
abbrev pub if_within : ℕ → ℕ → ℕ → Option ℕ
if_within low high n = if nat_le low n && nat_le n high then Some n else None

-- the number that one digit or more write, if it is below 2^32
unfoldable pub count_of : List ℕ → Option ℕ
count_of text = option_and_then (up_to (2 ^ 32 - 1)) (natural_of text)

-- the number of this sign and size
abbrev pub signed : Bool → ℕ → ℤ
signed negative size = if negative then neg_ℤ (pos size) else pos size

-- the value of an optional `-` and one digit or more
unfoldable pub number_of : List ℕ → Option ℤ
number_of [] = None
number_of (first ∷ rest) = if first == byte "-" then option_map (signed true) (natural_of rest) else option_map (signed false) (natural_of (first ∷ rest))

-- one digit or more, from `0` to `9`
pub record AreDigits (text : List ℕ) : Type 0 where
  pub some : 0 < length text
  pub digits : AllByRecursion (IsInRange (byte "0") (byte "9")) text

-- the text writes the number: digits, or `-` and digits
abbrev pub WritesNumber : List ℕ → ℤ → Type 0
WritesNumber text z =
    (AreDigits text × (z ≡ pos (value_of text)))
    ⊎ ((digits : List ℕ) × (text ≡ codes "-" ++ digits) × AreDigits digits × (z ≡ neg_ℤ (pos (value_of digits))))

-- the number, if it is from `low` to `high`
abbrev pub within : ℤ → ℤ → ℤ → Option ℤ
within low high z = if int_le low z && int_le z high then Some z else None

-- the number, if it fits an `i64`
unfoldable pub to_i64 : ℤ → Option ℤ
to_i64 = within (negsuc (2 ^ 63 - 1)) (pos (2 ^ 63 - 1))

-- the number, if it fits an `i32`
unfoldable pub to_i32 : ℤ → Option ℤ
to_i32 = within (negsuc (2 ^ 31 - 1)) (pos (2 ^ 31 - 1))

-- the number, if it fits a `u32`
unfoldable pub to_u32 : ℤ → Option ℕ
to_u32 z = option_map unsigned_abs (within (pos 0) (pos (2 ^ 32 - 1)) z)

-- the number, if it fits a `u8`
unfoldable pub to_u8 : ℤ → Option ℕ
to_u8 z = option_map unsigned_abs (within (pos 0) (pos (2 ^ 8 - 1)) z)

-- the number that a text writes, if it fits an `i64`
abbrev pub i64_of : List ℕ → Option ℤ
i64_of text = option_and_then to_i64 (number_of text)

-- the first `len` bytes of a text are all, or this byte stands behind them
pub record StandsBefore (stop : ℕ) (text : List ℕ) (len : ℕ) : Type 0 where
  pub within : len ≤ length text
  pub stops : len < length text → slice_index text len ≡ stop

-- known values: the first digit and the last, none, and what is no digit
are_digits-ends : are_digits (codes "09") ≡ true
are_digits-ends = refl

are_digits-nothing : are_digits [] ≡ false
are_digits-nothing = refl

are_digits-slash : are_digits (codes "1/") ≡ false
are_digits-slash = refl

are_digits-colon : are_digits (codes "1:") ≡ false
are_digits-colon = refl

-- zeros in front, too many digits, none, and what is no digit
digits_of-zeros : digits_of 3 (codes "031") ≡ Some 31
unfolding digits_of natural_of
digits_of-zeros = refl

digits_of-many : digits_of 2 (codes "031") ≡ None
unfolding digits_of
digits_of-many = refl

digits_of-nothing : digits_of 2 [] ≡ None
unfolding digits_of natural_of
digits_of-nothing = refl

digits_of-colon : digits_of 2 (codes "1:") ≡ None
unfolding digits_of natural_of
digits_of-colon = refl

digits_of-slash : digits_of 2 (codes "/1") ≡ None
unfolding digits_of natural_of
digits_of-slash = refl

count_of-greatest : count_of (codes "4294967295") ≡ Some 4_294_967_295
unfolding count_of natural_of
count_of-greatest = refl

count_of-above : count_of (codes "4294967296") ≡ None
unfolding count_of natural_of
count_of-above = refl

-- signs, zeros in front, and what is no number
number_of-minus_42 : number_of (codes "-42") ≡ Some (neg_ℤ (pos 42))
unfolding number_of natural_of
number_of-minus_42 = refl

number_of-zeros : number_of (codes "007") ≡ Some (pos 7)
unfolding number_of natural_of
number_of-zeros = refl

number_of-nothing : number_of [] ≡ None
unfolding number_of
number_of-nothing = refl

number_of-minus_alone : number_of (codes "-") ≡ None
unfolding number_of natural_of
number_of-minus_alone = refl

number_of-plus : number_of (codes "+5") ≡ None
unfolding number_of natural_of
number_of-plus = refl

number_of-point : number_of (codes "1.5") ≡ None
unfolding number_of natural_of
number_of-point = refl

-- both ends of an `i64`, and the numbers past them
i64_of-least : i64_of (codes "-9223372036854775808") ≡ Some (negsuc 9_223_372_036_854_775_807)
unfolding number_of natural_of to_i64
i64_of-least = refl

i64_of-below : i64_of (codes "-9223372036854775809") ≡ None
unfolding number_of natural_of to_i64
i64_of-below = refl

i64_of-greatest : i64_of (codes "9223372036854775807") ≡ Some (pos 9_223_372_036_854_775_807)
unfolding number_of natural_of to_i64
i64_of-greatest = refl

i64_of-above : i64_of (codes "9223372036854775808") ≡ None
unfolding number_of natural_of to_i64
i64_of-above = refl
