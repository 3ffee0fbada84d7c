use Rattle.std.proofs.Common.{arith, to_z, of_z, w32, ◌≡◌}
use Rattle.std.proofs.lemmas.Int.{ints}
use Rattle.chrono_calendar.specs.Days.{year_of}
use Rattle.chrono_uses.specs.Named.{name_again}
use Rattle.chrono_uses.proofs.side_by_side.SideBySide.of_counted.Goals as goal

pub invariant_of-result : goal.invariant_of-result
invariant_of-result c =
    let read = c.year_month_day-year.ensures in
    let year : to_z w32 (of_z w32 c.year_month_day-year.result.0) ≡ year_of c.args.date = omega (arith, ints, read.year, read.in_range) in
    (name_again c.args.date _ _ _ read.in_range year read.month read.day).0

pub returns : goal.returns
returns c =
    let read = c.year_month_day-year.ensures in
    let year : to_z w32 (of_z w32 c.year_month_day-year.result.0) ≡ year_of c.args.date = omega (arith, ints, read.year, read.in_range) in
    (name_again c.args.date _ _ _ read.in_range year read.month read.day).1
