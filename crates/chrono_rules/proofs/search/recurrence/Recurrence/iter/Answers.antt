use Rattle.std.proofs.Common.{◌∙◌, sym, subst, arith}
use Rattle.chrono_datetime.specs.Recurrence.{first_date}
use Rattle.chrono_datetime.proofs.Signed.{signed}
use Rattle.chrono_rules.specs.InstanceWalks.{IsKept}
use Rattle.chrono_rules.specs.RecurrenceSets.{RecurrenceSet}
use Rattle.chrono_rules.proofs.RecurrenceWalks.{kept-before_start}
use Rattle.chrono_rules.proofs.search.recurrence.Recurrence.iter.Goals as goal

pub invariant_of-result : goal.invariant_of-result
invariant_of-result c =
    let kept : IsKept c.copied.result.rule c.copied.result.start first_date 0 =
    subst (λ (v : RecurrenceSet). IsKept v.rule v.start first_date 0) (c.self.view_is ∙ sym c.copied.ensures)
    (kept-before_start _ _ first_date (omega (arith, signed, c.num_days_from_ce.ensures.value, c.num_days_from_ce.ensures.in_range))) in
    (omega (arith, signed), omega (arith, signed), λ lt. kept, omega arith)
