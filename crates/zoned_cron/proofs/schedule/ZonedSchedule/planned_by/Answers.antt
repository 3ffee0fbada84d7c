use Rattle.zoned_cron.proofs.schedule.ZonedSchedule.planned_by.Goals as goal

pub returns : goal.returns
returns g c =
    let due = c.in-Some-next_after.ensures in
    record {
      begin = c.date_times_exist.ensures;
      local = c.in-Some.local;
      local_exists = c.date_times_exist-2.ensures;
      second = c.in-Some.ensures;
      exists = c.date_times_exist-3.ensures;
      due = due.member;
      later = due.later;
      least = due.least;
    }
