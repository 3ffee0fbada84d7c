use Rattle.std.proofs.Common.{◌∙◌, ap}
use Rattle.chrono_rules.specs.RecurrenceSets.{RecurrenceSet, recurrence_from}
use Rattle.chrono_rules.proofs.RecurrenceWalks.{recurrence-alone}
use Rattle.chrono_rules.proofs.rule.Rule.instances_from.Goals as goal

pub returns : goal.returns
returns c =
    c.iter_from.ensures ∙ ap (λ (v : RecurrenceSet). recurrence_from v c.args.day) c.new-alone.ensures
    ∙ recurrence-alone c.args.self.now c.args.start c.args.day
