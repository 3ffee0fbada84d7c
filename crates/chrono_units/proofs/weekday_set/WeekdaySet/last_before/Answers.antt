use Rattle.std.proofs.Common.{◌∙◌}
use Rattle.chrono_units.proofs.SetPlaces.{last_before-none, last_before-some}
use Rattle.chrono_units.proofs.weekday_set.WeekdaySet.last_before.Goals as goal

pub returns-then-earlier-eq0 : goal.returns-then-earlier-eq0
returns-then-earlier-eq0 c =
    c.last.ensures
    ∙ rw (← c.self.view_is) (last_before-none c.self.inside.digits c.self.invariant c.args.start (rw c.digit.ensures at c.if-earlier-eq0.true))

pub returns-else-earlier-eq0 : goal.returns-else-earlier-eq0
returns-else-earlier-eq0 c =
    rw (← c.self.view_is) (rw (c.highest_day.ensures, c.digit.ensures) (last_before-some c.self.inside.digits c.self.invariant c.args.start (rw c.digit.ensures at c.if-earlier-eq0.false)))
