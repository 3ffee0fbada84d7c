use Rattle.std.proofs.Common.{sym}
use Rattle.chrono_cron.specs.ScheduleErrors.{IsScheduleRead}
use Rattle.chrono_cron.proofs.text.schedule_reader.ScheduleFromStr.from_str.Goals as goal

pub returns : goal.returns
returns c =
    let checked : IsScheduleRead c.as_bytes.result.now c.read_schedule.result = record {
      read = c.read_schedule.ensures.read;
      every = c.read_schedule.ensures.every;
      found = c.read_schedule.ensures.found;
      error = c.read_schedule.ensures.error;
      field = c.read_schedule.ensures.field;
      byte = c.read_schedule.ensures.byte;
    } in
    rw (sym c.as_bytes.ensures.value) checked
