use Rattle.std.proofs.Common.{◌-◌, arith}
use Rattle.chrono_cron.proofs.WrittenFields.{ranges_list}
use Rattle.chrono_cron.proofs.law.ranges_list_the_members.Goals as goal

pub returns : goal.returns
returns c = λ k low less. ranges_list c.args.set (c.args.end - c.args.low) c.args.low k low (omega (arith, low, less))
