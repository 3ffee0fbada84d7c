use Rattle.std.proofs.Common.{◌+ℤ◌, ap, ◌∙◌, arith}
use Rattle.std.proofs.lemmas.Bool.{false_from_ne_true}
use Rattle.std.specs.Option.{option_map}
use Rattle.chrono_text.proofs.Signed.{casts}
use Rattle.chrono_calendar.proofs.Refusals.{no_value}
use Rattle.chrono_calendar.specs.Days.{is_date}
use Rattle.chrono_calendar.proofs.Dates.{is_date-fact}
use Rattle.chrono_calendar.proofs.NamedDates.{date_of_day-None}
use Rattle.chrono_calendar.proofs.forms.move_days.Goals as goal

pub returns-in_err-target-clause-date : goal.returns-in_err-target-clause-date
returns-in_err-target-clause-date g c =
    ap (option_map g.F.DayForm.number) c.from_residual.ensures ∙ date_of_day-None (g.F.DayForm.number c.args.f +ℤ c.args.k) (λ h. c.in_err-target.ensures (omega (arith, casts, c.from.ensures, c.day.ensures.value)))

pub returns-in_err-day-clause-date : goal.returns-in_err-day-clause-date
returns-in_err-day-clause-date g c =
    ap (option_map g.F.DayForm.number) c.from_residual-in_err-day.ensures ∙ date_of_day-None (g.F.DayForm.number c.args.f +ℤ c.args.k)
    (λ h. no_value c.try_from.result _ _ c.try_from.ensures c.in_err-day.ensures.variant (omega (arith, casts, c.from.ensures, c.day.ensures.value, c.in_ok-target.ensures)))

pub returns-in_err-target-clause-taken : goal.returns-in_err-target-clause-taken
returns-in_err-target-clause-taken g c =
    let n = g.F.DayForm.number c.args.f +ℤ c.args.k in
    let no_date = false_from_ne_true (is_date n) (λ t.
    let h = is_date-fact n t in c.in_err-target.ensures (omega (arith, casts, c.from.ensures, c.day.ensures.value))) in
    let none = g.met.F.DayForm.no_step n no_date in
    omega arith

pub returns-in_err-day-clause-taken : goal.returns-in_err-day-clause-taken
returns-in_err-day-clause-taken g c =
    let n = g.F.DayForm.number c.args.f +ℤ c.args.k in
    let no_date = false_from_ne_true (is_date n) (λ t.
    let h = is_date-fact n t in no_value c.try_from.result _ _ c.try_from.ensures c.in_err-day.ensures.variant (omega (arith, casts, c.from.ensures, c.day.ensures.value, c.in_ok-target.ensures))) in
    let none = g.met.F.DayForm.no_step n no_date in
    omega arith
