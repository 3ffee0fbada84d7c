use Rattle.std.proofs.Common.{arith}
use Rattle.std.proofs.lemmas.Fmt.{IsAscii-decimal}
use Rattle.chrono_rules.proofs.text.rule_writer.put_interval.Goals as goal

pub returns-then-interval-le1-clause-ascii : goal.returns-then-interval-le1-clause-ascii
returns-then-interval-le1-clause-ascii g c = IsAscii-decimal c.args.interval (omega (arith, c.ranges.interval))

pub returns-clause-ascii : goal.returns-clause-ascii
returns-clause-ascii g c = IsAscii-decimal c.args.interval (omega (arith, c.ranges.interval))
