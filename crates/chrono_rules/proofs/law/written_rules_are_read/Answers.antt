use Rattle.std.proofs.Common.{arith}
use Rattle.chrono_rules.proofs.BareTexts.{bare_text}
use Rattle.chrono_rules.proofs.RuleBack.{rule_back}
use Rattle.chrono_rules.proofs.law.written_rules_are_read.Goals as goal

pub returns-clause-text : goal.returns-clause-text
returns-clause-text c = λ can. rule_back c.args.rule (record { front = omega arith; back = omega arith }) can

pub returns-clause-bare : goal.returns-clause-bare
returns-clause-bare c = λ can. bare_text c.args.rule (rule_back c.args.rule (record { front = omega arith; back = omega arith }) can)
