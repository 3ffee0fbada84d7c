use Rattle.std.proofs.Common.{◌≡◌, ◌+◌, ◌-◌, ◌%◌, ◌&&◌, ◌||◌, refl, ◌∙◌}
use Rattle.chrono_sets.specs.FiniteSets.{has}
use Rattle.chrono_cron.specs.Due.{is_last_workday, is_named_by_place, is_nearest_workday}
use Rattle.chrono_cron.proofs.NamedDaySets.{asked_for, not_asked_for}
use Rattle.chrono_cron.proofs.named_days.MonthDays.by_place.Goals as goal
use Rattle.chrono_cron.proofs.named_days.MonthDays.by_place.Goals.{then-self, else-self}

pub returns : goal.returns
unfolding is_named_by_place
returns c = λ k from to.
    let w = (k + c.args.before) % 7 in
    let m = c.args.self.now in
    let workdays : has c.if-self.workdays k ≡ ((m.last_workday && is_last_workday (c.args.length - k) w) || is_nearest_workday m.nearest_workdays k (c.args.length - k) w) =
    elim c.if-self.branch [
      | then-self t ↦ rw (t.workdays-is, t.union-workdays.ensures k, t.last_workday.ensures k from to, c.nearest_workdays-nearest.ensures k from to) (asked_for m.last_workday _ _ t.if-self.true)
      | else-self t ↦ rw (t.workdays-is, c.nearest_workdays-nearest.ensures k from to) (not_asked_for m.last_workday _ _ t.if-self.false)
    ] in
    c.union.ensures k ∙ rw (c.mirrored.ensures.members k to, workdays) refl
