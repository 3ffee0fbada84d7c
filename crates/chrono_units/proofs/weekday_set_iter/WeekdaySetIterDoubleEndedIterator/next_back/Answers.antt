use Rattle.std.proofs.Common.{◌∙◌, sym, ap, [], ◌∷◌, ◌++◌}
use Rattle.chrono_units.specs.WeekdaySet.{walk}
use Rattle.chrono_units.proofs.SetWalks.{last_day-none, walk-last}
use Rattle.chrono_units.proofs.weekday_set_iter.WeekdaySetIterDoubleEndedIterator.next_back.Goals as goal
use Rattle.chrono_units.proofs.ListsLeft.{MakesProgress-last}

pub returns-clause-steps : goal.returns-clause-steps
returns-clause-steps c =
    sym c.self.view_is
    ∙ walk-last c.self.inside.days c.self.inside.start c.in_ok-day.day (sym c.in_ok-day.ensures)
    ∙ ap (λ s. walk s c.self.inside.start ++ c.in_ok-day.day ∷ []) (sym c.remove.ensures.after)

pub returns-clause-goes : goal.returns-clause-goes
returns-clause-goes c = MakesProgress-last _ _ _ (returns-clause-steps c)

pub returns-in_err-day-clause-steps : goal.returns-in_err-day-clause-steps
returns-in_err-day-clause-steps c =
    let none = sym c.self.view_is ∙ last_day-none _ (sym c.last_before.ensures ∙ c.in_err-day.was) in
    rw c.from_residual.ensures (none, none)
