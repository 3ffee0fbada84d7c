use Rattle.dates_answer.proofs.Ground.{pos, ◌*ℤ◌, w64, rules, to_z-of_z, FitsSigned, unit_move}
use Rattle.dates_answer.proofs.moves.moved_by.Goals as goal

pub returns-in-Years : goal.returns-in-Years
unfolding unit_move
returns-in-Years c =
    let fits : FitsSigned w64 (pos 12 *ℤ c.args.count) = search (rules, c.if-count.false, c.if-count-gt-FAR.false) in
    rw c.in-Years.is (rw (to_z-of_z w64 c.args.count (search rules), to_z-of_z w64 (pos 12 *ℤ c.args.count) fits) at c.moved_by_months-in-Years.ensures.date)
