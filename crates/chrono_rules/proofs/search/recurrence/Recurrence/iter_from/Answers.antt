use Rattle.std.proofs.Common.{◌≡◌, ◌∙◌, sym, subst, arith, to_z, of_z, w32}
use Rattle.chrono_datetime.proofs.Signed.{casts}
use Rattle.chrono_rules.specs.InstanceWalks.{IsKept}
use Rattle.chrono_rules.specs.RecurrenceSets.{RecurrenceSet}
use Rattle.chrono_rules.proofs.search.recurrence.Recurrence.iter_from.Goals as goal

pub invariant_of-result : goal.invariant_of-result
invariant_of-result c =
    let day = c.num_days_from_ce.ensures in
    let number : to_z w32 (of_z w32 c.num_days_from_ce.result) ≡ c.args.day = omega (arith, casts, day.value, day.in_range) in
    let kept : IsKept c.copied.result.rule c.copied.result.start c.args.day c.seen_before.result =
    subst (λ (v : RecurrenceSet). IsKept v.rule v.start c.args.day c.seen_before.result) (c.self.view_is ∙ sym c.copied.ensures) c.seen_before.ensures.kept in (
      omega (arith, casts, day.value, day.in_range),
      omega (arith, casts, day.value, day.in_range),
      λ lt. rw number kept,
      omega (arith, casts, day.value, day.in_range, c.seen_before.ensures.few),
    )
