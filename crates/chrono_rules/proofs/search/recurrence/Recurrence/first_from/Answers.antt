use Rattle.std.proofs.Common.{◌≡◌, true, false, List, subst, refl, sym, ap, ◌∙◌, arith, ℤ}
use Rattle.std.proofs.lemmas.Int.{by_lt_z}
use Rattle.chrono_datetime.proofs.Signed.{signed}
use Rattle.chrono_datetime.specs.RisingDates.{is_listed}
use Rattle.chrono_rules.specs.RecurrenceSets.{RecurrenceSet}
use Rattle.chrono_rules.proofs.GivenDays.{in_recurrence, none_through, not_in}
use Rattle.chrono_rules.proofs.search.recurrence.Recurrence.first_from.Goals as goal

pub returns-in_err-found-clause-none : goal.returns-in_err-found-clause-none
returns-in_err-found-clause-none c =
    let inv = c.loop-found.invariant in
    rw c.from_residual.ensures
    (λ d low date. by_lt_z d c.loop-found.from (λ lt. inv.none d low lt) (λ ge. not_in c.args.self.now d (c.in_err-found.ensures.none d ge date)))

pub returns-then-not-is_listed-clause-member : goal.returns-then-not-is_listed-clause-member
returns-then-not-is_listed-clause-member c =
    let exceptions : c.self.inside.exceptions.now ≡ c.args.self.now.exceptions = ap (λ (v : RecurrenceSet). v.exceptions) c.self.view_is in
    in_recurrence c.args.self.now c.in_ok-found.found.day c.in_ok-found.ensures.member
    (subst (λ (xs : List ℤ). is_listed xs c.in_ok-found.found.day ≡ false) exceptions (sym c.is_listed.ensures ∙ c.if-not-is_listed.true))

pub returns-then-not-is_listed-clause-least : goal.returns-then-not-is_listed-clause-least
returns-then-not-is_listed-clause-least c = λ d low high.
    by_lt_z d c.loop-found.from (λ lt. c.loop-found.invariant.none d low lt) (λ ge. not_in c.args.self.now d (c.in_ok-found.ensures.least d ge high))

pub returns-in_err-from-clause-none : goal.returns-in_err-from-clause-none
returns-in_err-from-clause-none c =
    let inv = c.loop-found.invariant in
    let exceptions : c.self.inside.exceptions.now ≡ c.args.self.now.exceptions = ap (λ (v : RecurrenceSet). v.exceptions) c.self.view_is in
    rw c.from_residual-in_err-from.ensures
    (λ d low date.
    none_through c.args.self.now c.in_ok-found.found.day d
    (subst (λ (xs : List ℤ). is_listed xs c.in_ok-found.found.day ≡ true) exceptions (sym c.is_listed.ensures ∙ c.if-not-is_listed.false))
    (λ lt. by_lt_z d c.loop-found.from (λ l. inv.none d low l) (λ ge. not_in c.args.self.now d (c.in_ok-found.ensures.least d ge lt)))
    (λ lt. let some = c.in_err-from.ensures.exists.1 (omega (arith, signed, inv.date.0, c.in_ok-found.ensures.not_before), omega (arith, signed, lt, date.1)) in cc))

pub loop-found-preserved : goal.loop-found-preserved
loop-found-preserved c =
    let inv = c.loop-found.invariant in
    let exceptions : c.self.inside.exceptions.now ≡ c.args.self.now.exceptions = ap (λ (v : RecurrenceSet). v.exceptions) c.self.view_is in
    let moved = c.in_ok-from.ensures.moved in
    let date = c.in_ok-from.ensures.exists.0 refl in record {
      low = omega (arith, signed, inv.low, c.in_ok-found.ensures.not_before, moved);
      date = (omega (arith, signed, moved, date.0), omega (arith, signed, moved, date.1));
      none = λ d low high.
          none_through c.args.self.now c.in_ok-found.found.day d
          (subst (λ (xs : List ℤ). is_listed xs c.in_ok-found.found.day ≡ true) exceptions (sym c.is_listed.ensures ∙ c.if-not-is_listed.false))
          (λ lt. by_lt_z d c.loop-found.from (λ l. inv.none d low l) (λ ge. not_in c.args.self.now d (c.in_ok-found.ensures.least d ge lt)))
          (λ lt. absurd (omega (arith, signed, lt, high, moved)));
      kept = rw moved c.in_ok-found.ensures.kept;
      few = omega (arith, signed, moved, c.in_ok-found.ensures.few);
    }
