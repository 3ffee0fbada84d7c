use Rattle.zoned_rules.proofs.KnownSets.{set_added, set_in_both, set_left_out}
use Rattle.zoned_rules.proofs.law.known_sets.Goals as goal

pub returns : goal.returns
returns c = record { added = set_added; left_out = set_left_out; in_both = set_in_both }
