use Rattle.std.proofs.Common.{sym}
use Rattle.chrono_rules.specs.RuleErrors.{IsRuleRead}
use Rattle.chrono_rules.proofs.text.rule_reader.RuleFromStr.from_str.Goals as goal

pub returns : goal.returns
returns c =
    let checked : IsRuleRead c.as_bytes.result.now c.read_rule.result = record {
      read = c.read_rule.ensures.read;
      every = c.read_rule.ensures.every;
      found = c.read_rule.ensures.found;
      unknown = c.read_rule.ensures.unknown;
      unread = c.read_rule.ensures.unread;
      unfit = c.read_rule.ensures.unfit;
      byte = c.read_rule.ensures.byte;
    } in
    rw (sym c.as_bytes.ensures.value) checked
