use Rattle.std.proofs.Common.{arith}
use Rattle.chrono_datetime.proofs.Signed.{signed, casts}
use Rattle.timed_cron.proofs.YearSteps.{before_beginning, all_before_beginning}
use Rattle.timed_cron.proofs.year_search.beginning_after_year.Goals as goal

pub returns-clause-before : goal.returns-clause-before
returns-clause-before c = λ q at earlier.
    let low = c.requires.first in
    let high = c.requires.last in
    before_beginning c.first_of_year.result c.args.year _ q (omega (arith, signed, casts, low, high)) c.first_of_year.ensures.all (rw c.midnight.ensures at earlier)

pub returns-clause-all : goal.returns-clause-all
returns-clause-all c = λ q at year.
    let low = c.requires.first in
    let high = c.requires.last in
    rw c.midnight.ensures (all_before_beginning c.first_of_year.result c.args.year _ q (omega (arith, signed, casts, low, high)) c.first_of_year.ensures.from year)
