use Rattle.std.proofs.Common.{◌∙◌, ◌≤◌, arith, rules, w32}
use Rattle.std.proofs.lemmas.Int.{to_z-of_z}
use Rattle.chrono_calendar.proofs.Signed.{casts}
use Rattle.chrono_stored.proofs.FromMarch.{day_number-from_march, day_number-to_march}
use Rattle.chrono_columns.proofs.named.number_of.Goals as goal
use Rattle.chrono_columns.proofs.named.number_of.Goals.{then-month-gt2, else-month-gt2}

pub returns : goal.returns
returns c =
    let fits = to_z-of_z w32 c.number_at.result (search rules) in
    let year = to_z-of_z w32 c.args.year c.ranges.year in
    elim c.if-month-gt2.branch [
      | then-month-gt2 w ↦
          let found = rw (year, w.from_march-is) at c.number_at.ensures.late w.if-month-gt2.true in
          let wanted = day_number-from_march c.args.year c.args.month c.args.day c.requires.month w.if-month-gt2.true in
          fits ∙ omega (arith, casts, found, wanted)
      | else-month-gt2 w ↦
          let winter : c.args.month ≤ 2 = omega (arith, w.if-month-gt2.false) in
          let found = rw (year, w.from_march-is) at c.number_at.ensures.early winter in
          let wanted = day_number-to_march c.args.year c.args.month c.args.day c.requires.month winter in
          fits ∙ omega (arith, casts, found, wanted)
    ]
