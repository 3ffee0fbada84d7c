use Rattle.dates_answer.proofs.Ground.{w64, rules, pos, int_div, quot_fits, to_z-of_z, FitsSigned}
use Rattle.std.proofs.Common.{int_rem}
use Rattle.dates_answer.proofs.PartLemmas.{are_read, over}
use Rattle.dates_answer.proofs.parts.parts_between.Goals as goal

pub returns : goal.returns
returns c =
    let z = c.distance-whole.result in
    let fits : FitsSigned w64 z = search rules in
    let whole = to_z-of_z w64 z fits in
    let years = to_z-of_z w64 (int_div z (pos 12)) (quot_fits w64 z (pos 12) fits (search rules)) in
    let months = to_z-of_z w64 (int_rem z (pos 12)) (search (rules, (over z).0, (over z).1)) in
    let days = to_z-of_z w64 c.days_between-days.result (search rules) in
    let read = are_read c.args.from c.args.to z c.days_between-days.result _ _ c.days_between-days.ensures.second c.distance-whole.ensures (rw whole at c.moved_by.ensures) c.unwrap_or-with_months.ensures c.days_between-days.ensures.is in
    record { is = rw (whole, years, months, days) read.0; adds_up = rw (whole, years, months, days) read.1 }
