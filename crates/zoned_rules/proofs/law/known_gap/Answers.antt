use Rattle.zoned_rules.proofs.Laws.{gap_behind, gap_skipped}
use Rattle.zoned_rules.proofs.law.known_gap.Goals as goal

pub returns : goal.returns
returns c = record { skipped = gap_skipped; behind = gap_behind }
