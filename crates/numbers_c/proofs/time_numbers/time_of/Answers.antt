use Rattle.numbers_c.proofs.DateTimeLemmas.{time_from_c-SomeIff}
use Rattle.numbers_c.proofs.time_numbers.time_of.Goals as goal

pub returns : goal.returns
returns c =
    time_from_c-SomeIff c.from_num_seconds_from_midnight_opt.result c.args.time c.from_num_seconds_from_midnight_opt.ensures
