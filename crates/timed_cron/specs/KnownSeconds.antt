-- Words for moments at which a schedule with seconds is known to be due or not.
use Rattle.std.specs.Prelude.{[], ◌∷◌, false, None}
use Rattle.chrono_sets.specs.FiniteSets.{numbers}
use Rattle.chrono_cron.specs.KnownSchedules.{every_weekday, fields}
use Rattle.timed_cron.specs.declared.timed_schedule.TimedSchedule.{TimedSchedule}

-- `15,45 0 0 29 2 *`
abbrev pub leap_day_seconds : TimedSchedule
leap_day_seconds =
    record { schedule = record { sets = fields (0 ∷ []) (0 ∷ []) (29 ∷ []) (2 ∷ []) every_weekday false }; seconds = numbers (15 ∷ 45 ∷ []); years = None }
