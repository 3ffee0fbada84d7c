use Rattle.std.proofs.Common.{ℤ, ◌-ℤ◌, ap, ◌∙◌, arith, to_z, of_z, w32}
use Rattle.chrono_units.specs.Weekday.{days_since}
use Rattle.chrono_units.specs.declared.weekday.Weekday.{Weekday}
use Rattle.chrono_text.proofs.Signed.{casts}
use Rattle.chrono_calendar.proofs.WeekDays.{weekday_of-start}
use Rattle.chrono_calendar.proofs.forms.week_first.Goals as goal

pub returns-clause-starts : goal.returns-clause-starts
returns-clause-starts g c =
    let back = c.days_since.ensures ∙ ap (λ (d : Weekday). days_since d c.args.start) c.weekday.ensures in
    let first : ℤ = to_z w32 (of_z w32 (to_z w32 (of_z w32 c.day.result) -ℤ to_z w32 c.days_since.result)) in
    weekday_of-start (g.F.DayForm.number c.args.f.now) first c.args.start (omega (arith, casts, back, c.day.ensures.value))

pub overflow_sub-result : goal.overflow_sub-result
overflow_sub-result g c = omega (arith, casts, c.day.ensures, c.days_since.ensures)
