use Rattle.std.proofs.Common.{ap, ◌∙◌, None}
use Rattle.chrono_cron.specs.declared.text.schedule_error.ScheduleError.{ScheduleError}
use Rattle.timed_cron.proofs.SixFields.{unread_error, unread_none}
use Rattle.timed_cron.proofs.timed_reader.seconds_error.Goals as goal

abbrev without_field : ScheduleError → ScheduleError
without_field e = record { field = None; byte = e.byte; fault = e.fault }

pub unreachable-requires : goal.unreachable-requires
unreachable-requires c = unread_none c.args.front.now c.in_default.field-0.sets c.requires c.in_default.ensures.read

pub returns-clause-error : goal.returns-clause-error
returns-clause-error c = ap without_field (c.in-Err.ensures.error ∙ unread_error c.args.front.now c.requires)
