use Rattle.std.proofs.Common.{pos, ◌+ℤ◌, ap}
use Rattle.chrono_naive.proofs.NamedDates.{date_of_day-Some}
use Rattle.chrono_datetime.specs.Moment.{moment_on}
use Rattle.chrono_datetime.proofs.naive_date_time.ops.NaiveDateTimeAddDays.add.Goals as goal

pub returns : goal.returns
returns c =
    let moved = ap (λ date. moment_on date c.args.self.time) (date_of_day-Some (c.args.self.date +ℤ pos c.args.days) c.requires) in
    cc
