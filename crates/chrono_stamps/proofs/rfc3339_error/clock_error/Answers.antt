use Rattle.std.proofs.Common.{inl, subst, take, ℕ}
use Rattle.chrono_reading.specs.TimeErrors.{IsTimeError}
use Rattle.chrono_stamps.proofs.rfc3339_error.clock_error.Goals as goal

pub returns-in-Err-clause-error : goal.returns-in-Err-clause-error
returns-in-Err-clause-error c =
    inl (subst (λ (n : ℕ). IsTimeError (take n c.args.text.now) c.in-Err.error) c.clock_len-len.ensures.value c.in-Err.ensures.error)
