use Rattle.std.proofs.Common.{◌≡◌, [], ◌∷◌, ◌++◌, refl, sym, ap, ◌∙◌, arith, ℤ, pos, ◌+ℤ◌, to_z, of_z, w32}
use Rattle.chrono_datetime.specs.Recurrence.{first_date, past_last_date}
use Rattle.chrono_datetime.proofs.Signed.{casts, signed}
use Rattle.chrono_business.specs.OpenDayLists.{open_days_list}
use Rattle.chrono_business.proofs.OpenLists.{list-last, none-by_ranks}
use Rattle.chrono_business.proofs.Ranks.{open-rises}
use Rattle.chrono_business.proofs.open_days_iterator.OpenDaysIteratorDoubleEndedIterator.next_back.Goals as goal
use Rattle.chrono_datetime.proofs.ListsLeft.{MakesProgress-last}

pub returns-then-self-clause-steps : goal.returns-then-self-clause-steps
returns-then-self-clause-steps c =
    let it = c.self.inside in
    let inv = c.self.invariant in
    let none = sym c.self.view_is ∙ none-by_ranks it.calendar.now it.start it.end inv.0 inv.1 (omega (arith, inv.3, inv.4, c.if-self.true)) in
    (none, none)

-- there is an open day of each rank below that of the end
pub returns-in_err-day-clause-steps : goal.returns-in_err-day-clause-steps
returns-in_err-day-clause-steps c =
    let it = c.self.inside in
    let inv = c.self.invariant in
    absurd (omega (arith, c.if-self.false, inv.4, c.in_err-day.ensures.none, open-rises it.calendar.now first_date it.end past_last_date inv.1 inv.2))

pub returns-clause-steps : goal.returns-clause-steps
returns-clause-steps c =
    let it = c.self.inside in
    let inv = c.self.invariant in
    let day = c.num_days_from_ce-self-inside.ensures in
    let found = c.in_ok-day.ensures in
    let at : to_z w32 (of_z w32 c.num_days_from_ce-self-inside.result) ≡ c.in_ok-day.day = omega (arith, casts, day.value, day.in_range) in
    sym c.self.view_is
    ∙ (list-last it.calendar.now it.start it.end c.in_ok-day.day (c.in_ok-day.day +ℤ pos 1) inv.0 inv.1 (omega (arith, signed, day.value, day.in_range.0)) refl found.passes (omega (arith, found.count, inv.4, c.if-self.false)) (omega (arith, inv.3, inv.4, c.if-self.false))
    ∙ ap (λ (d : ℤ). open_days_list it.calendar.now it.start d ++ c.in_ok-day.day ∷ []) (sym at))

pub returns-clause-goes : goal.returns-clause-goes
returns-clause-goes c = MakesProgress-last _ _ _ (returns-clause-steps c)
