use Rattle.zone_text.proofs.WrittenAscii.{three_ascii}
use Rattle.zone_text.proofs.writer.put_daylight.Goals as goal

pub returns-clause-ascii : goal.returns-clause-ascii
returns-clause-ascii g c = three_ascii _ _ _ c.put_name.ensures.ascii c.put_daylight_hours.ensures.ascii c.put_changes.ensures.ascii
