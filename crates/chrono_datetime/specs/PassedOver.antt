-- What a search passes over: days, or numbers, of which none passes a test.
use Rattle.std.specs.Prelude.{◌≡◌, ℕ, ◌≤◌, ◌<◌, Bool, false, ℤ, ◌≤ℤ◌, ◌<ℤ◌}
use Rattle.chrono_naive.specs.Days.{IsDate}
pub use Rattle.chrono_naive.specs.Recurrence.{NoneFrom}

-- no day from one on and before another passes the test
abbrev pub PassedOver : (ℤ → Bool) → ℤ → ℤ → Type 0
PassedOver test from end = (d : ℤ) → from ≤ℤ d → d <ℤ end → test d ≡ false

-- no day after one and before another does
abbrev pub PassedBetween : (ℤ → Bool) → ℤ → ℤ → Type 0
PassedBetween test first end = (d : ℤ) → first <ℤ d → d <ℤ end → test d ≡ false

-- no day after one and up to another does
abbrev pub PassedUpTo : (ℤ → Bool) → ℤ → ℤ → Type 0
PassedUpTo test first last = (d : ℤ) → first <ℤ d → d ≤ℤ last → test d ≡ false

-- no date of the calendar from a day on and before another does
abbrev pub NoDateFrom : (ℤ → Bool) → ℤ → ℤ → Type 0
NoDateFrom test from end = (d : ℤ) → from ≤ℤ d → d <ℤ end → IsDate d → test d ≡ false

-- no date of the calendar after a day and before another does
abbrev pub NoDateAfter : (ℤ → Bool) → ℤ → ℤ → Type 0
NoDateAfter test first end = (d : ℤ) → first <ℤ d → d <ℤ end → IsDate d → test d ≡ false

-- no date of the calendar after a day does
abbrev pub NoneAfter : (ℤ → Bool) → ℤ → Type 0
NoneAfter test first = (d : ℤ) → first <ℤ d → IsDate d → test d ≡ false

-- no date of the calendar before a day does
abbrev pub NoneBefore : (ℤ → Bool) → ℤ → Type 0
NoneBefore test end = (d : ℤ) → d <ℤ end → IsDate d → test d ≡ false

-- no date of the calendar up to a day does
abbrev pub NoneUpTo : (ℤ → Bool) → ℤ → Type 0
NoneUpTo test last = (d : ℤ) → d ≤ℤ last → IsDate d → test d ≡ false

-- no number from one on and before another does
abbrev pub PassedNumbers : (ℕ → Bool) → ℕ → ℕ → Type 0
PassedNumbers test from end = (k : ℕ) → from ≤ k → k < end → test k ≡ false
