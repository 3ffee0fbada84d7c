-- Whether a day of known years is open, by the number that says so.
use Rattle.std.proofs.Common.{◌≡◌, Bool, true, false, if◌then◌else◌, Option, Some, None, IfSome, ℤ, pos}
use Rattle.numbers_c.specs.Answers.{none_number}

pub open-answer : (known is : Bool) (answer : Option Bool) (n : ℤ) → answer ≡ (if known then Some is else None)
    → IfSome answer (λ o. n ≡ (if o then pos 1 else pos 0)) → (answer ≡ None → n ≡ none_number)
    → n ≡ (if known then (if is then pos 1 else pos 0) else none_number)
open-answer true is answer n same some none = rw same at some
open-answer false is answer n same some none = none same
