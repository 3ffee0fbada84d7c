use Rattle.layers_c.proofs.timed_schedules.calendar_timed_schedule_is_due.Goals as goal

pub returns-in-Some-date_time_of-clause-no_schedule : goal.returns-in-Some-date_time_of-clause-no_schedule
returns-in-Some-date_time_of-clause-no_schedule c = λ none. absurd (none c.in-Some.schedule c.in-Some.ensures.written)
