use Rattle.std.proofs.Common.{arith}
use Rattle.chrono_datetime.proofs.Signed.{casts}
use Rattle.timed_cron.proofs.timed_dues.seconds_after.Goals as goal

pub returns : goal.returns
returns c =
    let day = c.num_days_from_ce.ensures in
    let second = c.num_seconds_from_midnight-second.ensures in
    let value = rw c.time.ensures at second.value in
    omega (arith, casts, c.from-days.ensures, c.from.ensures, day.value, day.in_range, c.date.ensures, value, second.bound)
