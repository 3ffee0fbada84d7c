-- Pieces of a text that are read one after another, and the first that cannot be.
use Rattle.std.specs.Prelude.{ℕ, ◌+◌, List, [], ◌∷◌, length, Result, Ok, Err}
use Rattle.calendar_text.specs.declared.calendar_error.CalendarTextError.{CalendarTextError}
use Rattle.calendar_text.specs.declared.calendar_error.CalendarTextFault.{CalendarTextFault}

-- the error at a byte
abbrev pub calendar_error_at : ℕ → CalendarTextFault → CalendarTextError
calendar_error_at byte fault = record { byte = byte; fault = fault }

-- what a next step makes of what was read
abbrev pub and_then_read : {A B : Type 0} → Result A CalendarTextError → (A → Result B CalendarTextError) → Result B CalendarTextError
and_then_read (Ok a) next = next a
and_then_read (Err e) next = Err e

-- what is read behind so many bytes: an error is so many bytes further on
abbrev pub behind : {A : Type 0} → ℕ → Result A CalendarTextError → Result A CalendarTextError
behind bytes (Ok a) = Ok a
behind bytes (Err e) = Err (calendar_error_at (bytes + e.byte) e.fault)

-- what a step makes of each piece in turn, from a value on, where the first piece begins at a place. The first error ends it
unfoldable pub placed_through : {S : Type 0} → (S → List ℕ → Result S CalendarTextError) → S → ℕ → List (List ℕ) → Result S CalendarTextError
placed_through step s place [] = Ok s
placed_through step s place (p ∷ ps) = and_then_read (behind place (step s p)) (λ t. placed_through step t (place + length p + 1) ps)
