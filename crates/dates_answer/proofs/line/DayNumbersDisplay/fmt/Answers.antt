use Rattle.dates_answer.proofs.Ground.{w32, rules, to_z-of_z}
use Rattle.dates_answer.specs.Lines.{numbers_in_object}
use Rattle.dates_answer.proofs.line.DayNumbersDisplay.fmt.Goals as goal

pub returns-clause-writes : goal.returns-clause-writes
unfolding numbers_in_object
returns-clause-writes g c =
    let number = to_z-of_z w32 c.num_days_from_ce-number.result (search rules) in
    let unix = to_z-of_z w32 c.to_epoch_days-unix.result (search rules) in
    rw (number, c.num_days_from_ce-number.ensures.value, unix, c.to_epoch_days-unix.ensures, c.name-weekday.ensures, c.weekday.ensures.value) at c.write.ensures.writes
