use Rattle.zone_text.proofs.WrittenAscii.{day_ascii}
use Rattle.zone_text.proofs.writer.put_day.Goals as goal

pub returns-in-Week-clause-ascii : goal.returns-in-Week-clause-ascii
returns-in-Week-clause-ascii g c = day_ascii c.args.day c.requires.day
