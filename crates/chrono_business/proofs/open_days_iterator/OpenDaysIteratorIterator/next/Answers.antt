use Rattle.std.proofs.Common.{◌≡◌, ◌+◌, ◌∷◌, refl, sym, ap, ◌∙◌, arith, ℤ, pos, ◌+ℤ◌}
use Rattle.chrono_datetime.specs.Recurrence.{first_date, past_last_date}
use Rattle.chrono_datetime.proofs.Signed.{casts, signed}
use Rattle.chrono_business.specs.OpenDays.{open_days}
use Rattle.chrono_business.specs.OpenDayLists.{open_days_list}
use Rattle.chrono_business.proofs.OpenLists.{list-first, none-by_ranks}
use Rattle.chrono_business.proofs.Ranks.{open-behind, open-rises}
use Rattle.chrono_business.proofs.open_days_iterator.OpenDaysIteratorIterator.next.Goals as goal
use Rattle.chrono_datetime.proofs.ListsLeft.{MakesProgress-first}
use Rattle.chrono_datetime.proofs.NamedDates.{next_day-fits}

pub returns-then-self-clause-steps : goal.returns-then-self-clause-steps
returns-then-self-clause-steps c =
    let it = c.self.inside in
    let inv = c.self.invariant in
    let none = sym c.self.view_is ∙ none-by_ranks it.calendar.now it.start it.end inv.0 inv.1 (omega (arith, inv.3, inv.4, c.if-self.true)) in
    (none, none)

-- there is an open day of each rank below that of the end
pub returns-in_err-day-clause-steps : goal.returns-in_err-day-clause-steps
returns-in_err-day-clause-steps c =
    let it = c.self.inside in
    let inv = c.self.invariant in
    absurd (omega (arith, c.if-self.false, inv.4, c.in_err-day.ensures.none, open-rises it.calendar.now first_date it.end past_last_date inv.1 inv.2))

-- the day behind the one that is given
pub invariant_of-self : goal.invariant_of-self
invariant_of-self c =
    let it = c.self.inside in
    let inv = c.self.invariant in
    let day = c.num_days_from_ce.ensures in
    let next : ℤ = c.in_ok-day.day +ℤ pos 1 in
    let rank : it.start_rank + 1 ≡ open_days it.calendar.now first_date next = omega (arith, c.in_ok-day.ensures.count, open-behind it.calendar.now first_date c.in_ok-day.day next (omega (arith, signed, day.value, day.in_range.0)) refl c.in_ok-day.ensures.passes) in (
      omega (arith, casts, day.value, day.in_range),
      inv.1,
      inv.2,
      rank ∙ ap (λ (d : ℤ). open_days it.calendar.now first_date d) (sym (next_day-fits c.num_days_from_ce.result c.in_ok-day.day day.value day.in_range)),
      inv.4,
    )

pub returns-clause-steps : goal.returns-clause-steps
returns-clause-steps c =
    let it = c.self.inside in
    let inv = c.self.invariant in
    let day = c.num_days_from_ce.ensures in
    let found = c.in_ok-day.ensures in
    sym c.self.view_is
    ∙ (list-first it.calendar.now it.start it.end c.in_ok-day.day (c.in_ok-day.day +ℤ pos 1) inv.0 inv.1 (omega (arith, signed, day.value, day.in_range.0)) refl found.passes (omega (arith, found.count, inv.3)) (omega (arith, inv.3, inv.4, c.if-self.false))
    ∙ ap (λ (d : ℤ). c.in_ok-day.day ∷ open_days_list it.calendar.now d it.end) (sym (next_day-fits c.num_days_from_ce.result c.in_ok-day.day day.value day.in_range)))

pub returns-clause-goes : goal.returns-clause-goes
returns-clause-goes c = MakesProgress-first _ _ _ (returns-clause-steps c)
