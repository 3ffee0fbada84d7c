use Rattle.dates_answer.proofs.Ground.{◌+ℤ◌, ◌-ℤ◌, pos, arith, w64, rules, to_z-of_z, signed, FitsSigned}
use Rattle.dates_answer.proofs.Distances.{back_by, forth_by}
use Rattle.dates_answer.proofs.between.distance.Goals as goal

pub returns-then-left-gt0 : goal.returns-then-left-gt0
returns-then-left-gt0 c =
    let fits : FitsSigned w64 (c.units_apart-units.result +ℤ pos 1) = search (rules, c.units_apart-units.ensures.low, c.units_apart-units.ensures.high) in
    rw (to_z-of_z w64 c.units_apart-units.result (search rules), to_z-of_z w64 (c.units_apart-units.result +ℤ pos 1) fits)
    ((back_by c.args.unit c.args.from c.args.to c.units_apart-units.result _ _ c.days_between.ensures.first c.days_between.ensures.second (omega (arith, signed)) c.units_apart-units.ensures.is (rw (to_z-of_z w64 c.units_apart-units.result (search rules)) at c.moved_by.ensures) c.unwrap_or-reached.ensures).1
    (omega (arith, signed, c.if-left-gt0.true, c.days_between-left.ensures.is)))

pub returns-else-left-gt0 : goal.returns-else-left-gt0
returns-else-left-gt0 c =
    rw (to_z-of_z w64 c.units_apart-units.result (search rules)) ((back_by c.args.unit c.args.from c.args.to c.units_apart-units.result _ _ c.days_between.ensures.first c.days_between.ensures.second (omega (arith, signed)) c.units_apart-units.ensures.is (rw (to_z-of_z w64 c.units_apart-units.result (search rules)) at c.moved_by.ensures) c.unwrap_or-reached.ensures).0
    (omega (arith, signed, c.if-left-gt0.false, c.days_between-left.ensures.is)))

pub returns-then-left-lt0 : goal.returns-then-left-lt0
returns-then-left-lt0 c =
    let fits : FitsSigned w64 (c.units_apart-units.result -ℤ pos 1) = search (rules, c.units_apart-units.ensures.low, c.units_apart-units.ensures.high) in
    rw (to_z-of_z w64 c.units_apart-units.result (search rules), to_z-of_z w64 (c.units_apart-units.result -ℤ pos 1) fits)
    ((forth_by c.args.unit c.args.from c.args.to c.units_apart-units.result _ _ c.days_between.ensures.first c.days_between.ensures.second (omega (arith, signed)) c.units_apart-units.ensures.is (rw (to_z-of_z w64 c.units_apart-units.result (search rules)) at c.moved_by.ensures) c.unwrap_or-reached.ensures).1
    (omega (arith, signed, c.if-left-lt0.true, c.days_between-left.ensures.is)))

pub returns-else-left-lt0 : goal.returns-else-left-lt0
returns-else-left-lt0 c =
    rw (to_z-of_z w64 c.units_apart-units.result (search rules)) ((forth_by c.args.unit c.args.from c.args.to c.units_apart-units.result _ _ c.days_between.ensures.first c.days_between.ensures.second (omega (arith, signed)) c.units_apart-units.ensures.is (rw (to_z-of_z w64 c.units_apart-units.result (search rules)) at c.moved_by.ensures) c.unwrap_or-reached.ensures).0
    (omega (arith, signed, c.if-left-lt0.false, c.days_between-left.ensures.is)))
