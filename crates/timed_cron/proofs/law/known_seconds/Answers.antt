use Rattle.std.proofs.Common.{refl, pos, arith, ◌∙◌}
use Rattle.chrono_sets.specs.FiniteSets.{has}
use Rattle.chrono_cron.specs.KnownSchedules.{known_moment}
use Rattle.timed_cron.specs.KnownSeconds.{leap_day_seconds}
use Rattle.timed_cron.proofs.Laws.{idle_minute, listed_alone, within_second}
use Rattle.timed_cron.proofs.law.known_seconds.Goals as goal

pub returns-clause-first : goal.returns-clause-first
unfolding has
returns-clause-first c = listed_alone leap_day_seconds (known_moment (pos 738_945) 0 0 0 0) 15 (omega arith) c.known_schedules.ensures.leap_day ∙ refl

pub returns-clause-second : goal.returns-clause-second
unfolding has
returns-clause-second c = listed_alone leap_day_seconds (known_moment (pos 738_945) 0 0 0 0) 45 (omega arith) c.known_schedules.ensures.leap_day ∙ refl

pub returns-clause-between : goal.returns-clause-between
unfolding has
returns-clause-between c = listed_alone leap_day_seconds (known_moment (pos 738_945) 0 0 0 0) 30 (omega arith) c.known_schedules.ensures.leap_day ∙ refl

pub returns-clause-minute_after : goal.returns-clause-minute_after
returns-clause-minute_after c = idle_minute leap_day_seconds (known_moment (pos 738_945) 0 1 45 0) c.known_schedules.ensures.minute_after

pub returns-clause-within : goal.returns-clause-within
returns-clause-within c = within_second leap_day_seconds (known_moment (pos 738_945) 0 0 45 1) (omega arith)
