-- What stands in a number of C for an answer, and for that there is none.
use Rattle.std.specs.Prelude.{ℕ, ◌^◌, ℤ, pos, neg_ℤ, Option, Some, None}

-- the least i32, which is no date, stands for none
abbrev pub none_number : ℤ
none_number = neg_ℤ (pos (2 ^ 31))

-- the number that stands for a number, if there is one
abbrev pub or_none : Option ℤ → ℤ
or_none (Some n) = n
or_none None = none_number

-- the number that stands for a count, if there is one
abbrev pub count_or_none : Option ℕ → ℤ
count_or_none (Some n) = pos n
count_or_none None = none_number
