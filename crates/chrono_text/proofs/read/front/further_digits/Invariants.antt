-- The bytes so far are digits, and their value is `total`.
use Rattle.std.proofs.Common.{◌≡◌, ◌≤◌, ◌-◌, ◌^◌, min, length, take}
use Rattle.std.specs.Str.Parse.{AllDigits, digits_value}
use Rattle.chrono_text.proofs.read.front.further_digits.Given as goal

abbrev pub invariant-loop-len : goal.invariant-loop-len
invariant-loop-len l = (l.len ≤ length l.text) × AllDigits 10 (take l.len l.text) × (l.total ≡ min (digits_value 10 (take l.len l.text)) (2 ^ 64 - 1))

abbrev pub decreases-loop-len : goal.decreases-loop-len
decreases-loop-len l = length l.text - l.len
