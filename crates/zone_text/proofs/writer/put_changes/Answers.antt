use Rattle.zone_text.specs.WrittenTexts.{change_text}
use Rattle.zone_text.proofs.WrittenAscii.{changes_ascii}
use Rattle.zone_text.proofs.writer.put_changes.Goals as goal

pub returns-clause-ascii : goal.returns-clause-ascii
returns-clause-ascii g c = changes_ascii (change_text c.args.begins) (change_text c.args.ends) c.put_change.ensures.ascii c.put_change-2.ensures.ascii
