use Rattle.std.proofs.Common.{sym, refl}
use Rattle.timed_cron.proofs.timed_reader.read_at_second_zero.Goals as goal

pub returns-in-Ok-clause-only : goal.returns-in-Ok-clause-only
returns-in-Ok-clause-only c = λ s is. rw (c.new.ensures, c.single.ensures, c.in-Ok.ensures.sets s.schedule.sets is.schedule, sym is.seconds, sym is.years) refl

pub returns-in-Err-clause-found : goal.returns-in-Err-clause-found
returns-in-Err-clause-found c = λ s is. c.in-Err.ensures.found.0 refl s.schedule.sets is.schedule
