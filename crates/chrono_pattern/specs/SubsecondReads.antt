-- How the fraction of a second is read.
use Rattle.std.specs.Prelude.{ℕ, ◌*◌, ◌-◌, ◌^◌, ◌==◌, Bool, if◌then◌else◌, nat_lt, min, List, [], ◌∷◌, length, take, pos, Option, Some, None, Result, Ok, Err}
use Rattle.std.specs.Str.{byte}
use Rattle.chrono_text.specs.Numbers.{digits_of}
use Rattle.chrono_pattern.specs.Progress.{Progress, class_len, fault_without, put_behind, stopped}
use Rattle.chrono_pattern.specs.declared.class.Class.TheVariants.{Digit}
use Rattle.chrono_pattern.specs.declared.error.ReadFault.TheVariants.{TooShort}
use Rattle.chrono_pattern.specs.declared.parsed.Parsed.{Parsed}
use Rattle.chrono_pattern.specs.declared.parsed.Part.TheVariants.{NanosecondOfSecond}
use Rattle.chrono_pattern.specs.declared.stop.Stop.{Stop}

-- so many places behind the point are worth that many nanoseconds
abbrev pub places_value : Option ℕ → ℕ → ℕ → List ℕ → Parsed → Result Progress Stop
places_value None places count text p = Err (stopped (fault_without 1 text) text)
places_value (Some n) places count text p = put_behind count text NanosecondOfSecond (pos (n * 10 ^ (9 - places))) p

-- the first places of a text are the fraction, and more digits are left out
unfoldable pub places_read : ℕ → ℕ → List ℕ → Parsed → Result Progress Stop
places_read places count text p = places_value (digits_of places (take places text)) places count text p

-- a point and digits, or nothing if there is no point
abbrev pub point_behind : List ℕ → Parsed → Result Progress Stop
point_behind [] p = Ok (record { rest = []; parsed = p })
point_behind (c ∷ digits) p =
    if c == byte "." then places_read (min (class_len Digit digits) 9) (class_len Digit digits) digits p
    else Ok (record { rest = c ∷ digits; parsed = p })

abbrev pub point_read : Progress → Result Progress Stop
point_read r = point_behind r.rest r.parsed

-- so many digits
abbrev pub fixed_read : ℕ → Progress → Result Progress Stop
fixed_read count r = if nat_lt (length r.rest) count then Err (stopped TooShort r.rest) else places_read count count r.rest r.parsed

-- the fraction of a second: with a point, or so many digits
unfoldable pub subsecond_read : Bool → ℕ → Progress → Result Progress Stop
subsecond_read point count r = if point then point_read r else fixed_read (min count 9) r
