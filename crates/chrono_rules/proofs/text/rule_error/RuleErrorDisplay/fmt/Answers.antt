use Rattle.std.proofs.Common.{rules}
use Rattle.chrono_text.proofs.AsciiTexts.{IsAscii-put}
use Rattle.chrono_rules.proofs.ErrorLines.{error_ascii}
use Rattle.chrono_rules.proofs.text.rule_error.RuleErrorDisplay.fmt.Goals as goal

pub print-requires : goal.print-requires
print-requires g c = (search rules, IsAscii-put _ _ _ c.put_into.ensures.text c.new-text.ensures (error_ascii c.args.self.now))
