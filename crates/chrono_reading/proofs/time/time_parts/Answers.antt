use Rattle.std.proofs.Common.{List, ℕ, subst, sym, ◌∙◌}
use Rattle.chrono_text.specs.Fractions.{IsFractionText}
use Rattle.chrono_reading.proofs.PartsLemmas.{parts-fraction, time-joined}
use Rattle.chrono_reading.proofs.time.time_parts.Goals as goal

pub returns-in_default-clause-none : goal.returns-in_default-clause-none
returns-in_default-clause-none c = λ h m s is.
    let fraction = subst (λ (t : List ℕ). IsFractionText t is.nanos) (sym c.in_ok-clock.ensures.cases.1) (parts-fraction c.args.text.now h m s is) in
    c.in_default.not-Some is.nanos (c.read_fraction.ensures.every is.nanos fraction)

pub returns-clause-some : goal.returns-clause-some
returns-clause-some c = record {
  nanos = c.in-Some._nanos;
  fraction = c.in_ok-clock.fraction.now;
  small = c.in_ok-read.ensures.small;
  fraction_written = c.in-Some.ensures.some.1;
  written = time-joined c.args.text.now c.in_ok-clock.fraction.now c.in_ok-read.read.0 c.in_ok-read.read.1 c.in_ok-read.read.2 (c.in_ok-read.ensures.some ∙ c.in_ok-clock.ensures.cases.0) c.in_ok-clock.ensures.cases.1;
}
