-- The numbers of a date-time in no leap second stand for it again.
use Rattle.std.proofs.Common.{◌≡◌, Option, Some, None, IfSome, refl, arith}
use Rattle.chrono_clock.specs.Time.{IsPlain}
use Rattle.chrono_datetime.specs.Moment.{Moment, IsMoment}
use Rattle.numbers_c.specs.DateTimes.{moment_from_c, numbers_or_none}
use Rattle.numbers_c.proofs.DateTimeLemmas.{moment_from_c-none, numbers_for_c-again}

pub plain-again : (o : Option Moment) → IfSome o (λ m. IsMoment m) → IfSome o (λ m. IsPlain m.time) → moment_from_c (numbers_or_none o) ≡ o
plain-again None h p = moment_from_c-none None refl
plain-again (Some m) h p = numbers_for_c-again m h.date (h.time.second, (omega (arith, p), λ leap. absurd (omega (arith, p, leap))))
