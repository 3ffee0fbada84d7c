use Rattle.layers_c.proofs.timed_schedules.calendar_timed_schedule_next.Goals as goal

pub returns-clause-no_schedule : goal.returns-clause-no_schedule
returns-clause-no_schedule c = λ none. absurd (none c.in-Some.schedule c.in-Some.ensures.written)
