use Rattle.std.proofs.Common.{◌≡◌, ◌∙◌, arith, pos, ◌-ℤ◌, to_z, of_z, w32}
use Rattle.std.proofs.lemmas.Int.{to_z-of_z}
use Rattle.chrono_calendar.proofs.NamedDates.{some-date_of_day}
use Rattle.chrono_calendar.proofs.Signed.{casts, signed}
use Rattle.layers_c.proofs.ColumnLemmas.{to_date32-there}
use Rattle.layers_c.proofs.open_day_columns.to_date32.Goals as goal

pub overflow_sub-result : goal.overflow_sub-result
overflow_sub-result c =
    let date = (some-date_of_day c.args.number c.in-Some.field-0 (rw (to_z-of_z w32 c.args.number c.ranges.number) at c.in-Some.ensures.date)).0 in
    omega (arith, casts, signed, date.0, date.1)

pub returns-in-Some : goal.returns-in-Some
returns-in-Some c =
    let found = rw (to_z-of_z w32 c.args.number c.ranges.number) at c.in-Some.ensures.date in
    let date = (some-date_of_day c.args.number c.in-Some.field-0 found).0 in
    let plain : to_z w32 (of_z w32 (to_z w32 (of_z w32 c.args.number) -ℤ pos 719_163)) ≡ c.args.number -ℤ pos 719_163 = omega (arith, casts, date.0, date.1) in
    plain ∙ to_date32-there c.args.number c.in-Some.field-0 found
