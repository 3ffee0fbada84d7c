use Rattle.chrono_cron.specs.ErrorTexts.{schedule_error_text}
use Rattle.chrono_cron.proofs.text.schedule_error.ScheduleErrorDisplay.fmt.Goals as goal

pub returns-clause-writes : goal.returns-clause-writes
unfolding schedule_error_text
returns-clause-writes g c = rw (c.field_in_front-field.ensures, c.schedule_fault_text-fault.ensures) at c.write.ensures.writes
