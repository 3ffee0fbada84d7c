use Rattle.std.proofs.Common.{arith}
use Rattle.chrono_datetime.specs.Days.{year_of}
use Rattle.chrono_datetime.proofs.Signed.{casts}
use Rattle.chrono_business.proofs.day_count.leap_days_in_year.Goals as goal
use Rattle.chrono_datetime.proofs.Names.{ordinal_name_of-number, year_length_bounds}

pub returns-then-leap_year-clause-high : goal.returns-then-leap_year-clause-high
returns-then-leap_year-clause-high c =
    omega (arith, casts, c.from.ensures, c.ordinal0.ensures, (ordinal_name_of-number c.args.date).exists.1, (year_length_bounds (year_of c.args.date)).1)
