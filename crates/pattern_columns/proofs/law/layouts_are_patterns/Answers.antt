use Rattle.std.proofs.Common.{refl}
use Rattle.pattern_columns.proofs.LayoutPatterns.{compact_written, layout_written}
use Rattle.pattern_columns.proofs.law.layouts_are_patterns.Goals as goal

pub returns-clause-separated : goal.returns-clause-separated
returns-clause-separated c = layout_written

pub returns-clause-compact : goal.returns-clause-compact
returns-clause-compact c = compact_written

pub returns-clause-slashes : goal.returns-clause-slashes
returns-clause-slashes c = refl

pub returns-clause-dashes : goal.returns-clause-dashes
returns-clause-dashes c = refl
