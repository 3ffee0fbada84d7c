use Rattle.chrono_pattern.specs.ErrorTexts.{pattern_error_text}
use Rattle.chrono_pattern.proofs.error.PatternErrorDisplay.fmt.Goals as goal

pub returns-clause-writes : goal.returns-clause-writes
unfolding pattern_error_text
returns-clause-writes g c = rw (c.pattern_fault_text-words.ensures) at c.write.ensures.writes
