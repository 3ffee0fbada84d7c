use Rattle.std.proofs.Common.{arith}
use Rattle.std.proofs.lemmas.Fmt.{IsAscii-decimal}
use Rattle.chrono_rules.proofs.text.rule_writer.put_count.Goals as goal

pub returns-clause-ascii : goal.returns-clause-ascii
returns-clause-ascii g c = IsAscii-decimal c.args.count (omega (arith, c.ranges.count))
