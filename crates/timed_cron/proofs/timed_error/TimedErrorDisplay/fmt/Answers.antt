use Rattle.timed_cron.specs.TimedErrors.{timed_error_text}
use Rattle.timed_cron.proofs.timed_error.TimedErrorDisplay.fmt.Goals as goal

pub returns-in-Seconds-clause-writes : goal.returns-in-Seconds-clause-writes
unfolding timed_error_text
returns-in-Seconds-clause-writes g c = rw c.in-Seconds.is c.write.ensures.writes

pub returns-in-Fields-clause-writes : goal.returns-in-Fields-clause-writes
unfolding timed_error_text
returns-in-Fields-clause-writes g c = rw c.in-Fields.is c.write-in-Fields.ensures.writes

pub returns-in-Years-clause-writes : goal.returns-in-Years-clause-writes
unfolding timed_error_text
returns-in-Years-clause-writes g c = rw c.in-Years.is c.write-in-Years.ensures.writes

pub returns-in-QuestionMarks-clause-writes : goal.returns-in-QuestionMarks-clause-writes
unfolding timed_error_text
returns-in-QuestionMarks-clause-writes g c = rw c.in-QuestionMarks.is c.write-in-QuestionMarks.ensures.writes
