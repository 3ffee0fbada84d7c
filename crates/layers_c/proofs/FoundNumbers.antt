-- A day that was found, by the number that stands for it.
use Rattle.std.proofs.Common.{◌≡◌, ◌∙◌, ◌↔◌, Option, Some, None, IfSome, IfNone, IsSome, ℤ, refl, sym, subst, ap, arith}
use Rattle.std.proofs.lemmas.Bool.{false≢true}
use Rattle.chrono_calendar.specs.Days.{IsDate, date_of_day}
use Rattle.chrono_calendar.proofs.NamedDates.{date_of_day-None, date_of_day-Some, date_of_day-number}
use Rattle.chrono_calendar.proofs.Signed.{signed}
use Rattle.numbers_c.specs.Answers.{none_number, or_none}

-- what holds of the day holds of its number
pub found-holds : (o : Option ℤ) (P : ℤ → Type 0) (r : ℤ) → r ≡ or_none o → IfSome o P → (r ≡ none_number → ⊥) → P r
found-holds (Some n) P r e h some = subst P (sym e) h
found-holds None P r e h some = absurd (some e)

-- and of no day what holds if none was found
pub none-holds : (o : Option ℤ) (Q : Type 0) (r : ℤ) → r ≡ or_none o → IfSome o (λ n. IsDate n) → IfNone o Q → r ≡ none_number → Q
none-holds None Q r e dates h none = h
none-holds (Some n) Q r e dates h none = absurd (omega (arith, signed, dates.0, e, none))

-- the number that stands for none is none
pub none-again : none_number ≡ or_none (date_of_day none_number)
none-again = ap or_none (date_of_day-None none_number (λ h. absurd (omega (arith, signed, h.0))))

-- the number that stands for a day stands for what it names
pub named-again : (o : Option ℤ) (n : ℤ) → n ≡ or_none o → (IsDate n ↔ IsSome o) → date_of_day n ≡ o
named-again (Some d) n e dates = date_of_day-Some n (dates.1 refl) ∙ ap Some e
named-again None n e dates = sym (date_of_day-None n (λ h. false≢true (dates.0 h)))

pub number-again : (o : Option ℤ) (n m : ℤ) → m ≡ n → n ≡ or_none o → (IsDate n ↔ IsSome o) → m ≡ or_none (date_of_day m)
number-again o n m same e dates = same ∙ e ∙ sym (ap or_none (ap date_of_day same ∙ named-again o n e dates))

-- a number that names a date is one
pub named-is-date : (n m : ℤ) → date_of_day m ≡ Some n → IsDate m
named-is-date n m e = let found = date_of_day-number n m e in subst IsDate (sym found.1) found.0
