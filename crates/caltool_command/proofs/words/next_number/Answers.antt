use Rattle.std.proofs.Common.{length, length-drop, ap, arith, to_z-of_z, SFits, w64, rules}
use Rattle.chrono_text.proofs.NumberLemmas.{i64_of-some}
use Rattle.caltool_command.proofs.Reading.{no_number_first, number_first}
use Rattle.caltool_command.proofs.words.next_number.Goals as goal

pub returns-in_err-number-clause-none : goal.returns-in_err-number-clause-none
returns-in_err-number-clause-none c = rw c.from_residual.ensures (no_number_first c.args.text.now c.in_err-number.ensures.none)

pub returns-clause-some : goal.returns-clause-some
returns-clause-some c =
    let read = c.in_ok-number.ensures in
    let fits : SFits w64 c.in_ok-number.number = search rules in
    rw (to_z-of_z fits, c.skip.ensures) (number_first c.args.text.now c.in_ok-number.len c.in_ok-number.number read.end read.number)

pub returns-clause-shorter : goal.returns-clause-shorter
returns-clause-shorter c =
    let read = c.in_ok-number.ensures in
    omega (arith, i64_of-some c.args.text.now c.in_ok-number.len c.in_ok-number.number read.number, read.end.within, ap length c.skip.ensures, length-drop c.in_ok-number.len c.args.text.now)
