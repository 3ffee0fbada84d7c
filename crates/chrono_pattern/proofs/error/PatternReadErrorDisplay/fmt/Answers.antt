use Rattle.chrono_pattern.specs.ErrorTexts.{read_error_text}
use Rattle.chrono_pattern.proofs.error.PatternReadErrorDisplay.fmt.Goals as goal

pub returns-clause-writes : goal.returns-clause-writes
unfolding read_error_text
returns-clause-writes g c = rw (c.read_fault_text-words.ensures) at c.write.ensures.writes
