use Rattle.std.proofs.Common.{◌≡◌, true, false, subst, arith}
use Rattle.chrono_datetime.proofs.Signed.{signed}
use Rattle.chrono_rules.specs.RecurrenceSets.{RecurrenceSet, is_instance_or_date}
use Rattle.chrono_rules.proofs.GivenDays.{given-date, given-instance, not_given}
use Rattle.chrono_rules.proofs.search.recurrence.Recurrence.last_given.Goals as goal

pub returns-in_err-listed-clause-none : goal.returns-in_err-listed-clause-none
returns-in_err-listed-clause-none c =
    rw c.from_residual.ensures
    (λ d high date. subst (λ (v : RecurrenceSet). is_instance_or_date v d ≡ false) c.self.view_is (not_given _ d (c.in_default.ensures.none d high date) (c.in_err-listed.ensures.none d high)))

pub returns-in_default-clause-member : goal.returns-in_default-clause-member
returns-in_default-clause-member c =
    subst (λ (v : RecurrenceSet). is_instance_or_date v c.in_ok-listed.field-0 ≡ true) c.self.view_is (given-date _ _ c.in_ok-listed.ensures.member)

pub returns-in_default-clause-greatest : goal.returns-in_default-clause-greatest
returns-in_default-clause-greatest c = λ d low high.
    subst (λ (v : RecurrenceSet). is_instance_or_date v d ≡ false) c.self.view_is
    (not_given _ d (c.in_default.ensures.none d high (c.in_ok-listed.ensures.dates d (omega (arith, signed, low)) high)) (c.in_ok-listed.ensures.greatest d low high))

pub returns-in_default-listed-clause-member : goal.returns-in_default-listed-clause-member
returns-in_default-listed-clause-member c =
    subst (λ (v : RecurrenceSet). is_instance_or_date v c.in-Some.instance ≡ true) c.self.view_is (given-instance _ _ c.in-Some.ensures.member)

pub returns-in_default-listed-clause-greatest : goal.returns-in_default-listed-clause-greatest
returns-in_default-listed-clause-greatest c = λ d low high.
    subst (λ (v : RecurrenceSet). is_instance_or_date v d ≡ false) c.self.view_is (not_given _ d (c.in-Some.ensures.greatest d low high) (c.in_default-listed.ensures.none d high))

pub returns-then-num_days_from_ce-number-clause-member : goal.returns-then-num_days_from_ce-number-clause-member
returns-then-num_days_from_ce-number-clause-member c =
    subst (λ (v : RecurrenceSet). is_instance_or_date v c.in-Some-listed.other ≡ true) c.self.view_is (given-date _ _ c.in-Some-listed.ensures.member)

pub returns-then-num_days_from_ce-number-clause-greatest : goal.returns-then-num_days_from_ce-number-clause-greatest
returns-then-num_days_from_ce-number-clause-greatest c = λ d low high.
    subst (λ (v : RecurrenceSet). is_instance_or_date v d ≡ false) c.self.view_is
    (not_given _ d (c.in-Some.ensures.greatest d (omega (arith, signed, low, c.if-num_days_from_ce-number.true, c.num_days_from_ce-number.ensures.value, c.num_days_from_ce.ensures.value)) high) (c.in-Some-listed.ensures.greatest d low high))

pub returns-clause-member : goal.returns-clause-member
returns-clause-member c =
    subst (λ (v : RecurrenceSet). is_instance_or_date v c.in-Some.instance ≡ true) c.self.view_is (given-instance _ _ c.in-Some.ensures.member)

pub returns-clause-greatest : goal.returns-clause-greatest
returns-clause-greatest c = λ d low high.
    subst (λ (v : RecurrenceSet). is_instance_or_date v d ≡ false) c.self.view_is
    (not_given _ d (c.in-Some.ensures.greatest d low high) (c.in-Some-listed.ensures.greatest d (omega (arith, signed, low, c.if-num_days_from_ce-number.false, c.num_days_from_ce-number.ensures.value, c.num_days_from_ce.ensures.value)) high))
