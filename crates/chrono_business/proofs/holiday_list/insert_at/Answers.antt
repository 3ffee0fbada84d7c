use Rattle.std.proofs.Common.{◌+◌, ◌-◌, arith}
use Rattle.chrono_business.proofs.HolidayInserts.{turned}
use Rattle.chrono_business.proofs.holiday_list.insert_at.Goals as goal

pub returns-clause-after : goal.returns-clause-after
returns-clause-after c =
    turned c.args.dates.now c.rotate_right.new.self c.args.date c.args.len c.args.place (c.args.len + 1 - c.args.place) c.requires.place (omega arith) (omega arith) c.rotate_right.ensures.after
