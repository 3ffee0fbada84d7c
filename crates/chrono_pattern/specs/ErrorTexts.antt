-- The texts of errors: the byte, and what is wrong there, in one line.
use Rattle.std.specs.Prelude.{ℕ, List, ◌++◌, codes}
use Rattle.std.specs.Fmt.{decimal}
use Rattle.chrono_pattern.specs.declared.error.PatternError.{PatternError}
use Rattle.chrono_pattern.specs.declared.error.PatternFault.{PatternFault}
use Rattle.chrono_pattern.specs.declared.error.PatternFault.TheVariants.{Cut, Unknown}
use Rattle.chrono_pattern.specs.declared.error.PatternReadError.{PatternReadError}
use Rattle.chrono_pattern.specs.declared.error.ReadFault.{ReadFault}
use Rattle.chrono_pattern.specs.declared.error.ReadFault.TheVariants.{Impossible, Invalid, NotEnough, OutOfRange, TooLong, TooShort}

-- what is wrong with bytes that are no pattern
unfoldable pub pattern_fault_text : PatternFault → List ℕ
pattern_fault_text Unknown = codes "an unknown specifier"
pattern_fault_text Cut = codes "the bytes end within a specifier"

-- the line of their error
unfoldable pub pattern_error_text : PatternError → List ℕ
pattern_error_text e = codes "byte " ++ (decimal e.byte ++ (codes ": " ++ pattern_fault_text e.cause))

-- what is wrong with a text that a pattern does not read
unfoldable pub read_fault_text : ReadFault → List ℕ
read_fault_text TooShort = codes "the text ends too soon"
read_fault_text TooLong = codes "the text goes on behind the end of the pattern"
read_fault_text Invalid = codes "the pattern has no such text there"
read_fault_text OutOfRange = codes "the field has no such value"
read_fault_text Impossible = codes "no value fits all fields"
read_fault_text NotEnough = codes "the fields do not suffice for the value"

-- the line of its error
unfoldable pub read_error_text : PatternReadError → List ℕ
read_error_text e = codes "byte " ++ (decimal e.byte ++ (codes ": " ++ read_fault_text e.cause))
