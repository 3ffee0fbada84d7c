use Rattle.std.proofs.Common.{rules}
use Rattle.pattern_columns.proofs.CompactTexts.{marked-same}
use Rattle.pattern_columns.proofs.compact.iso_of_digits.Goals as goal

pub returns : goal.returns
returns c = marked-same c.args.text.now (search rules)
