use Rattle.std.proofs.Common.{◌≡◌, ◌∷◌, refl, sym, ap, ◌∙◌, arith, ℤ, pos, ◌+ℤ◌, ◌≤ℤ◌}
use Rattle.std.proofs.lemmas.Int.{by_lt_z}
use Rattle.chrono_datetime.specs.Days.{IsDate}
use Rattle.chrono_datetime.specs.Recurrence.{past_last_date}
use Rattle.chrono_datetime.proofs.Signed.{casts, signed}
use Rattle.chrono_rules.specs.RecurrenceSets.{recurrence_from}
use Rattle.chrono_datetime.proofs.ListsLeft.{MakesProgress-first}
use Rattle.chrono_rules.proofs.RecurrenceWalks.{recurrence-first, recurrence-none, recurrence-past}
use Rattle.chrono_rules.proofs.search.recurrence.recurrence_iterator.RecurrenceDaysIterator.next.Goals as goal
use Rattle.chrono_datetime.proofs.NamedDates.{next_day-fits}

-- there is a date with each number before that behind the last
pub returns-in_err-from-clause-steps : goal.returns-in_err-from-clause-steps
returns-in_err-from-clause-steps c =
    let it = c.self.inside in
    let inv = c.self.invariant in
    let past : past_last_date ≤ℤ it.from = by_lt_z it.from past_last_date
    (λ lt. let some = c.in_err-from.ensures.exists.1 (omega (arith, casts, inv.0), omega (arith, casts, inv.0, lt)) in cc)
    (λ ge. ge) in
    let none = sym c.self.view_is ∙ recurrence-past it.recurrence it.from (inv.0, inv.1) past in
    rw c.from_residual.ensures (none, none)

pub returns-in_default-clause-steps : goal.returns-in_default-clause-steps
returns-in_default-clause-steps c =
    let it = c.self.inside in
    let inv = c.self.invariant in (
      sym c.self.view_is ∙ recurrence-none it.recurrence it.from (inv.0, inv.1)
          (λ d low date. c.in_default.ensures.none d (omega (arith, casts, inv.0, low, c.in_ok-from.ensures.number)) date),
      recurrence-past it.recurrence past_last_date (omega (arith, signed), omega (arith, signed)) (omega (arith, signed)),
    )

-- the day behind the one that is given
pub invariant_of-self-2 : goal.invariant_of-self-2
invariant_of-self-2 c =
    let day = c.num_days_from_ce.ensures in
    let found = c.in-Some.ensures in (
      omega (arith, casts, day.value, day.in_range),
      omega (arith, casts, day.value, day.in_range),
      λ lt. rw (next_day-fits c.num_days_from_ce.result c.in-Some.found.day day.value day.in_range) found.kept,
      omega (arith, casts, day.value, day.in_range, found.few),
    )

pub returns-clause-steps : goal.returns-clause-steps
returns-clause-steps c =
    let it = c.self.inside in
    let inv = c.self.invariant in
    let day = c.num_days_from_ce.ensures in
    let found = c.in-Some.ensures in
    let e : ℤ = c.in-Some.found.day in
    let from : c.in_ok-from.from ≡ it.from = omega (arith, casts, inv.0, inv.1, c.in_ok-from.ensures.number) in
    let low : it.from ≤ℤ e = omega (arith, signed, from, found.not_before) in
    let date : IsDate e = (omega (arith, signed, day.value, day.in_range), omega (arith, signed, day.value, day.in_range)) in
    sym c.self.view_is
    ∙ (recurrence-first it.recurrence it.from e (e +ℤ pos 1) low date refl found.member (rw from at found.least)
    ∙ ap (λ (d : ℤ). e ∷ recurrence_from it.recurrence d) (sym (next_day-fits c.num_days_from_ce.result e day.value day.in_range)))

pub returns-clause-goes : goal.returns-clause-goes
returns-clause-goes c = MakesProgress-first _ _ _ (returns-clause-steps c)
