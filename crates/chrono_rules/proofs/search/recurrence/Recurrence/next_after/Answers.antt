use Rattle.std.proofs.Common.{subst}
use Rattle.chrono_rules.specs.InstanceWalks.{IsKept}
use Rattle.chrono_rules.specs.RecurrenceSets.{RecurrenceSet}
use Rattle.chrono_rules.proofs.search.recurrence.Recurrence.next_after.Goals as goal

pub first_from-requires-clause-kept : goal.first_from-requires-clause-kept
first_from-requires-clause-kept c =
    subst (λ (v : RecurrenceSet). IsKept v.rule v.start c.in_ok-next.next c.seen_before.result) c.self.view_is c.seen_before.ensures.kept
