use Rattle.std.proofs.Common.{◌≡◌, true, false, subst, arith, pos, ◌+ℤ◌}
use Rattle.chrono_datetime.proofs.Signed.{signed}
use Rattle.chrono_rules.specs.InstanceWalks.{IsKept}
use Rattle.chrono_rules.specs.RecurrenceSets.{RecurrenceSet, is_instance_or_date}
use Rattle.chrono_rules.proofs.GivenDays.{given-date, given-instance, not_given}
use Rattle.chrono_rules.proofs.Kept.{seen_with-few}
use Rattle.chrono_rules.proofs.search.recurrence.Recurrence.first_given.Goals as goal

pub returns-in_err-listed-clause-none : goal.returns-in_err-listed-clause-none
returns-in_err-listed-clause-none c =
    rw c.from_residual.ensures
    (λ d low date. subst (λ (v : RecurrenceSet). is_instance_or_date v d ≡ false) c.self.view_is (not_given _ d (c.in_default.ensures.none d low date) (c.in_err-listed.ensures.none d low)))

pub returns-in_default-clause-member : goal.returns-in_default-clause-member
returns-in_default-clause-member c =
    subst (λ (v : RecurrenceSet). is_instance_or_date v c.in_ok-listed.field-0 ≡ true) c.self.view_is (given-date _ _ c.in_ok-listed.ensures.member)

pub returns-in_default-clause-least : goal.returns-in_default-clause-least
returns-in_default-clause-least c = λ d low high.
    subst (λ (v : RecurrenceSet). is_instance_or_date v d ≡ false) c.self.view_is
    (not_given _ d (c.in_default.ensures.none d low (c.in_ok-listed.ensures.dates d low (omega (arith, signed, high)))) (c.in_ok-listed.ensures.least d low high))

pub returns-in_default-clause-kept : goal.returns-in_default-clause-kept
returns-in_default-clause-kept c =
    let last = c.in_ok-listed.ensures.dates c.in_ok-listed.field-0 c.in_ok-listed.ensures.not_before (omega (arith, signed)) in
    subst (λ (v : RecurrenceSet). IsKept v.rule v.start (c.in_ok-listed.field-0 +ℤ pos 1) c.args.seen) c.self.view_is
    (c.in_default.ensures.ended (c.in_ok-listed.field-0 +ℤ pos 1) (omega (arith, signed, c.in_ok-listed.ensures.not_before)) (omega (arith, signed, last.1)))

pub returns-in_default-listed-clause-member : goal.returns-in_default-listed-clause-member
returns-in_default-listed-clause-member c =
    subst (λ (v : RecurrenceSet). is_instance_or_date v c.in-Some.day ≡ true) c.self.view_is (given-instance _ _ c.in-Some.ensures.member)

pub returns-in_default-listed-clause-least : goal.returns-in_default-listed-clause-least
returns-in_default-listed-clause-least c = λ d low high.
    subst (λ (v : RecurrenceSet). is_instance_or_date v d ≡ false) c.self.view_is (not_given _ d (c.in-Some.ensures.least d low high) (c.in_default-listed.ensures.none d low))

pub returns-in_default-listed-clause-few : goal.returns-in_default-listed-clause-few
returns-in_default-listed-clause-few c =
    omega (arith, signed, c.seen_with-behind.ensures, seen_with-few c.self.inside.rule.end c.args.seen, c.requires.few, c.in-Some.ensures.not_before, c.requires.date.0)

pub returns-then-num_days_from_ce-number-clause-member : goal.returns-then-num_days_from_ce-number-clause-member
returns-then-num_days_from_ce-number-clause-member c =
    subst (λ (v : RecurrenceSet). is_instance_or_date v c.in-Some-listed.other ≡ true) c.self.view_is (given-date _ _ c.in-Some-listed.ensures.member)

pub returns-then-num_days_from_ce-number-clause-least : goal.returns-then-num_days_from_ce-number-clause-least
returns-then-num_days_from_ce-number-clause-least c = λ d low high.
    subst (λ (v : RecurrenceSet). is_instance_or_date v d ≡ false) c.self.view_is
    (not_given _ d (c.in-Some.ensures.least d low (omega (arith, signed, high, c.if-num_days_from_ce-number.true, c.num_days_from_ce-number.ensures.value, c.num_days_from_ce.ensures.value))) (c.in-Some-listed.ensures.least d low high))

pub returns-then-num_days_from_ce-number-clause-kept : goal.returns-then-num_days_from_ce-number-clause-kept
returns-then-num_days_from_ce-number-clause-kept c =
    subst (λ (v : RecurrenceSet). IsKept v.rule v.start (c.in-Some-listed.other +ℤ pos 1) c.args.seen) c.self.view_is
    (c.in-Some.ensures.up_to (c.in-Some-listed.other +ℤ pos 1) (omega (arith, signed, c.in-Some-listed.ensures.not_before)) (omega (arith, signed, c.if-num_days_from_ce-number.true, c.num_days_from_ce-number.ensures.value, c.num_days_from_ce.ensures.value)))

pub returns-clause-member : goal.returns-clause-member
returns-clause-member c =
    subst (λ (v : RecurrenceSet). is_instance_or_date v c.in-Some.day ≡ true) c.self.view_is (given-instance _ _ c.in-Some.ensures.member)

pub returns-clause-least : goal.returns-clause-least
returns-clause-least c = λ d low high.
    subst (λ (v : RecurrenceSet). is_instance_or_date v d ≡ false) c.self.view_is
    (not_given _ d (c.in-Some.ensures.least d low high) (c.in-Some-listed.ensures.least d low (omega (arith, signed, high, c.if-num_days_from_ce-number.false, c.num_days_from_ce-number.ensures.value, c.num_days_from_ce.ensures.value))))

pub returns-clause-few : goal.returns-clause-few
returns-clause-few c =
    omega (arith, signed, c.seen_with-behind.ensures, seen_with-few c.self.inside.rule.end c.args.seen, c.requires.few, c.in-Some.ensures.not_before, c.requires.date.0)
