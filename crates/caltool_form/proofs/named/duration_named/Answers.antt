use Rattle.std.proofs.Common.{w64}
use Rattle.std.proofs.lemmas.Int.{to_z-of_z}
use Rattle.chrono_clock.proofs.NamedDurations.{duration_named-SomeIff}
use Rattle.caltool_form.proofs.named.duration_named.Goals as goal

pub returns : goal.returns
returns c = duration_named-SomeIff c.new.result c.args.seconds c.args.nanoseconds (rw (to_z-of_z w64 c.args.seconds c.ranges.seconds) at c.new.ensures)
