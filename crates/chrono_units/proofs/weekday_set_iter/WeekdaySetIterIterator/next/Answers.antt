use Rattle.std.proofs.Common.{◌∙◌, sym, ap, ◌∷◌}
use Rattle.chrono_units.specs.WeekdaySet.{walk}
use Rattle.chrono_units.proofs.SetWalks.{walk-first}
use Rattle.chrono_units.proofs.weekday_set_iter.WeekdaySetIterIterator.next.Goals as goal
use Rattle.chrono_units.proofs.ListsLeft.{MakesProgress-first}

pub returns-clause-steps : goal.returns-clause-steps
returns-clause-steps c =
    sym c.self.view_is
    ∙ walk-first c.self.inside.days c.self.inside.start c.in_ok-day.day (sym c.in_ok-day.ensures)
    ∙ ap (λ s. c.in_ok-day.day ∷ walk s c.self.inside.start) (sym c.remove.ensures.after)

pub returns-clause-goes : goal.returns-clause-goes
returns-clause-goes c = MakesProgress-first _ _ _ (returns-clause-steps c)
