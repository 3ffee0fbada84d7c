-- A date some months on is a later date.
use Rattle.std.proofs.Common.{◌≡◌, Option, Some, None, IfSome, arith, ℤ, pos, ◌<ℤ◌}
use Rattle.chrono_calendar.specs.MonthMoves.{month_move}
use Rattle.chrono_calendar.proofs.MonthMoveLaws.{if_month}
use Rattle.chrono_calendar.proofs.Rising.{later_month}
use Rattle.chrono_calendar.proofs.Signed.{signed}

pub if_later : (o : Option ℤ) (n k : ℤ) → o ≡ month_move n k → pos 0 <ℤ k → IfSome o (λ e. n <ℤ e)
if_later None n k h some = tt
if_later (Some e) n k h some = later_month n e (omega (arith, signed, (if_month (Some e) n k h).0, some))

pub if_earlier : (o : Option ℤ) (n k : ℤ) → o ≡ month_move n k → k <ℤ pos 0 → IfSome o (λ e. e <ℤ n)
if_earlier None n k h some = tt
if_earlier (Some e) n k h some = later_month e n (omega (arith, signed, (if_month (Some e) n k h).0, some))
