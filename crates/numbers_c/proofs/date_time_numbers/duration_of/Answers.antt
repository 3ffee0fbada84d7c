use Rattle.std.proofs.Common.{FitsSigned, rules, w64}
use Rattle.std.proofs.lemmas.Int.{to_z-of_z}
use Rattle.chrono_clock.proofs.NamedDurations.{duration_named-SomeIff}
use Rattle.numbers_c.specs.DateTimes.{duration_from_c}
use Rattle.numbers_c.proofs.date_time_numbers.duration_of.Goals as goal

pub returns : goal.returns
unfolding duration_from_c
returns c =
    let fits : FitsSigned w64 c.args.duration.seconds = search rules in
    duration_named-SomeIff c.new.result c.args.duration.seconds c.args.duration.nanos (rw (to_z-of_z w64 c.args.duration.seconds fits) at c.new.ensures)
