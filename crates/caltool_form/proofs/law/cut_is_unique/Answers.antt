use Rattle.caltool_form.proofs.Cuts.{lines_are, only_lines, only_rest}
use Rattle.caltool_form.proofs.law.cut_is_unique.Goals as goal

pub returns : goal.returns
returns c = record { cut = lines_are; only_lines = only_lines; only_rest = only_rest }
