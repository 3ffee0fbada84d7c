-- Steps over pieces that are read.
use Rattle.std.proofs.Common.{◌≡◌, ℕ, ◌+◌, ◌-◌, List, [], ◌∷◌, length, Ok, Err, refl, ap}
use Rattle.std.specs.Prelude.{Result}
use Rattle.chrono_text.specs.Lists.{pieces}
use Rattle.calendar_text.specs.Reads.{behind, calendar_error_at, placed_through, and_then_read}
use Rattle.calendar_text.specs.declared.calendar_error.CalendarTextError.{CalendarTextError}

pub stops : {S : Type 0} (step : S → List ℕ → Result S CalendarTextError) (s : S) (place : ℕ) (p : List ℕ) (ps : List (List ℕ)) (e : CalendarTextError)
    → step s p ≡ Err e → placed_through step s place (p ∷ ps) ≡ Err (calendar_error_at (place + e.byte) e.fault)
unfolding placed_through
stops step s place p ps e is = ap (λ r. and_then_read (behind place r) (λ t. placed_through step t (place + length p + 1) ps)) is

pub goes_on : {S : Type 0} (step : S → List ℕ → Result S CalendarTextError) (s t : S) (place : ℕ) (p : List ℕ) (ps : List (List ℕ))
    → step s p ≡ Ok t → placed_through step s place (p ∷ ps) ≡ placed_through step t (place + length p + 1) ps
unfolding placed_through
goes_on step s t place p ps is = ap (λ r. and_then_read (behind place r) (λ t. placed_through step t (place + length p + 1) ps)) is

pub ends : {S : Type 0} (step : S → List ℕ → Result S CalendarTextError) (s : S) (place : ℕ) → placed_through step s place [] ≡ Ok s
unfolding placed_through
ends step s place = refl
