use Rattle.std.proofs.Common.{◌≡◌, true, false, List, subst, sym, ap, ◌∙◌, arith, ℤ}
use Rattle.std.proofs.lemmas.Int.{by_lt_z}
use Rattle.chrono_datetime.proofs.Signed.{signed}
use Rattle.chrono_datetime.specs.RisingDates.{is_listed}
use Rattle.chrono_rules.specs.RecurrenceSets.{RecurrenceSet}
use Rattle.chrono_rules.proofs.GivenDays.{in_recurrence, none_through, not_in}
use Rattle.chrono_rules.proofs.search.recurrence.Recurrence.prev_before.Goals as goal

pub returns-in_err-found-clause-none : goal.returns-in_err-found-clause-none
returns-in_err-found-clause-none c =
    rw c.from_residual.ensures
    (λ d high date. by_lt_z d c.loop-found.end (λ lt. not_in c.args.self.now d (c.in_err-found.ensures.none d lt date)) (λ ge. c.loop-found.invariant.1 d ge high))

pub returns-then-not-is_listed-clause-member : goal.returns-then-not-is_listed-clause-member
returns-then-not-is_listed-clause-member c =
    let exceptions : c.self.inside.exceptions.now ≡ c.args.self.now.exceptions = ap (λ (v : RecurrenceSet). v.exceptions) c.self.view_is in
    in_recurrence c.args.self.now c.in_ok-found.found c.in_ok-found.ensures.member
    (subst (λ (xs : List ℤ). is_listed xs c.in_ok-found.found ≡ false) exceptions (sym c.is_listed.ensures ∙ c.if-not-is_listed.true))

pub returns-then-not-is_listed-clause-greatest : goal.returns-then-not-is_listed-clause-greatest
returns-then-not-is_listed-clause-greatest c = λ d low high.
    by_lt_z d c.loop-found.end (λ lt. not_in c.args.self.now d (c.in_ok-found.ensures.greatest d low lt)) (λ ge. c.loop-found.invariant.1 d ge high)

pub loop-found-preserved : goal.loop-found-preserved
loop-found-preserved c =
    let exceptions : c.self.inside.exceptions.now ≡ c.args.self.now.exceptions = ap (λ (v : RecurrenceSet). v.exceptions) c.self.view_is in (
      omega (arith, signed, c.loop-found.invariant.0, c.in_ok-found.ensures.earlier),
      λ d low high.
          none_through c.args.self.now c.in_ok-found.found d
          (subst (λ (xs : List ℤ). is_listed xs c.in_ok-found.found ≡ true) exceptions (sym c.is_listed.ensures ∙ c.if-not-is_listed.false))
          (λ lt. absurd (omega (arith, signed, lt, low)))
          (λ lt. by_lt_z d c.loop-found.end (λ l. not_in c.args.self.now d (c.in_ok-found.ensures.greatest d lt l)) (λ ge. c.loop-found.invariant.1 d ge high)),
    )
