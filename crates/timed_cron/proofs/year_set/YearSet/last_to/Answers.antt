use Rattle.std.proofs.Common.{arith, to_z, w32}
use Rattle.std.proofs.lemmas.Int.{by_lt_z}
use Rattle.chrono_datetime.proofs.Signed.{signed, casts}
use Rattle.timed_cron.proofs.YearSteps.{early_year, late_year}
use Rattle.timed_cron.proofs.year_set.YearSet.last_to.Goals as goal

pub loop-year-init : goal.loop-year-init
loop-year-init c = (omega (arith, signed, casts), omega (arith, signed, casts), λ y low high. late_year c.args.self.now y (omega (arith, signed, casts, low)))

pub returns-clause-none : goal.returns-clause-none
returns-clause-none c = λ y high.
    let far = c.loop-year-test.false in
    by_lt_z (to_z w32 c.loop-year.year-bits) y
    (λ lt. c.loop-year.invariant.2 y lt (omega (arith, signed, casts, high)))
    (λ ge. early_year c.args.self.now y (omega (arith, signed, casts, far, ge)))
