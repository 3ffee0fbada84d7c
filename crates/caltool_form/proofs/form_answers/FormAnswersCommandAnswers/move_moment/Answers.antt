use Rattle.std.proofs.Common.{None, Some, arith, ap, ◌∙◌}
use Rattle.std.specs.Option.{option_map}
use Rattle.std.proofs.lemmas.Int.{ints}
use Rattle.chrono_clock.specs.Moment.{moment}
use Rattle.chrono_clock.proofs.MomentLemmas.{reach_by-parts}
use Rattle.chrono_calendar.specs.Days.{date_of_day}
use Rattle.caltool_form.specs.Named.{reach_named}
use Rattle.caltool_form.proofs.form_answers.FormAnswersCommandAnswers.move_moment.Goals as goal

pub returns-in_err-date : goal.returns-in_err-date
unfolding reach_named
returns-in_err-date g c =
    let start = g.F.DayForm.number c.args.date in
    ap (option_map (λ m. moment (g.F.DayForm.number m.0) m.1)) c.from_residual.ensures
    ∙ reach_by-parts date_of_day None (moment start c.args.time) c.args.by _ _ c.landing-time.ensures.time (omega (arith, ints, c.landing-time.ensures.days)) c.in_err-date.ensures

pub returns : goal.returns
unfolding reach_named
returns g c =
    let start = g.F.DayForm.number c.args.date in
    let date = g.F.DayForm.number c.in_ok-date.date in
    reach_by-parts date_of_day (Some date) (moment start c.args.time) c.args.by _ _ c.landing-time.ensures.time (omega (arith, ints, c.landing-time.ensures.days)) c.in_ok-date.ensures
