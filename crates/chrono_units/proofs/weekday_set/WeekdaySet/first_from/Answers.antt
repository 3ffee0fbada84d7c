use Rattle.std.proofs.Common.{◌∙◌, ◌-◌, arith}
use Rattle.std.proofs.lemmas.Nat.{and_le_l}
use Rattle.chrono_units.proofs.SetPlaces.{first_from-none, first_from-some}
use Rattle.chrono_units.proofs.weekday_set.WeekdaySet.first_from.Goals as goal

pub lowest_day-requires : goal.lowest_day-requires
lowest_day-requires c = omega (arith, and_le_l c.self.inside.digits (255 - (c.digit.result - 1)), c.self.invariant)

pub returns-then-later-eq0 : goal.returns-then-later-eq0
returns-then-later-eq0 c =
    c.first.ensures
    ∙ rw (← c.self.view_is) (first_from-none c.self.inside.digits c.self.invariant c.args.start (rw c.digit.ensures at c.if-later-eq0.true))

pub returns-else-later-eq0 : goal.returns-else-later-eq0
returns-else-later-eq0 c =
    rw (← c.self.view_is) (rw (c.lowest_day.ensures, c.digit.ensures) (first_from-some c.self.inside.digits c.self.invariant c.args.start (rw c.digit.ensures at c.if-later-eq0.false)))
