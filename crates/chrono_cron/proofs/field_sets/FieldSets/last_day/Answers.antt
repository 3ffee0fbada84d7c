use Rattle.std.proofs.Common.{refl, arith}
use Rattle.chrono_datetime.proofs.Signed.{signed}
use Rattle.chrono_text.proofs.AnswerLemmas.{if_none}
use Rattle.chrono_cron.proofs.DayCycles.{none_up_to}
use Rattle.chrono_cron.proofs.field_sets.FieldSets.last_day.Goals as goal

pub returns-in-Some-clause-none : goal.returns-in-Some-clause-none
returns-in-Some-clause-none c =
    let first = c.in-Some.ensures.moved in
    let date = c.in-Some.ensures.exists.0 refl in
    if_none c.last_day_down_to.result _ _
    (λ none d high is. none_up_to c.args.self.now c.args.date d
    (λ e from to. none e (omega (arith, signed, from, first)) to (omega (arith, signed, from, first, date))) high)
    c.last_day_down_to.ensures.none

pub returns-clause-none : goal.returns-clause-none
returns-clause-none c =
    if_none c.last_day_down_to-2.result _ _
    (λ none d high is. none d (omega (arith, signed, is, c.first_date-first.ensures.of_type)) high is)
    c.last_day_down_to-2.ensures.none
