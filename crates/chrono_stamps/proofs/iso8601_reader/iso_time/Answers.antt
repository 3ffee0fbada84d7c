use Rattle.std.proofs.Common.{◌∙◌, List, ℕ, IfErr, subst, sym}
use Rattle.chrono_reading.specs.TimeErrors.{IsTimeError}
use Rattle.chrono_reading.specs.TimeTexts.{IsTimeText}
use Rattle.chrono_stamps.proofs.iso8601_reader.iso_time.Goals as goal

pub returns-clause-every : goal.returns-clause-every
returns-clause-every c = λ t is.
    c.read_time.ensures.every t (subst (λ (l : List ℕ). IsTimeText l t) (sym (c.as_bytes.ensures.value ∙ c.clock_shown-clock.ensures)) is)

pub returns-clause-error : goal.returns-clause-error
returns-clause-error c =
    subst (λ (l : List ℕ). IfErr c.read_time.result (λ e. IsTimeError l e)) (c.as_bytes.ensures.value ∙ c.clock_shown-clock.ensures) c.read_time.ensures.error
