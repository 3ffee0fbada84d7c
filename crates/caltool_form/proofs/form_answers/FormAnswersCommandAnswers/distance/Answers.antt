use Rattle.std.proofs.Common.{arith}
use Rattle.std.proofs.lemmas.Int.{ints}
use Rattle.chrono_clock.proofs.MomentLemmas.{moment_distance-parts}
use Rattle.caltool_form.proofs.form_answers.FormAnswersCommandAnswers.distance.Goals as goal

pub returns : goal.returns
returns g c =
    moment_distance-parts (g.F.DayForm.number c.args.date) (g.F.DayForm.number c.args.base) c.days.result _ _ c.args.time c.args.base_time
    (omega (arith, ints, c.days.ensures, c.from.ensures, c.day.ensures.value, c.from-2.ensures, c.day-2.ensures.value))
    c.signed_duration_since.ensures.value c.add.ensures

pub days-requires : goal.days-requires
days-requires g c = omega (arith, ints, c.from.ensures, c.from-2.ensures)

pub add-requires : goal.add-requires
add-requires g c = omega (arith, ints, c.from.ensures, c.from-2.ensures, c.days.ensures, c.signed_duration_since.ensures.bound)
