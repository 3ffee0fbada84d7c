use Rattle.std.proofs.Common.{refl, arith}
use Rattle.chrono_datetime.proofs.Signed.{signed}
use Rattle.chrono_text.proofs.AnswerLemmas.{if_none}
use Rattle.chrono_cron.proofs.DayCycles.{none_from}
use Rattle.chrono_cron.proofs.field_sets.FieldSets.first_day.Goals as goal

pub returns-in-Some-clause-none : goal.returns-in-Some-clause-none
returns-in-Some-clause-none c =
    let last = c.in-Some.ensures.moved in
    let date = c.in-Some.ensures.exists.0 refl in
    if_none c.first_day_up_to.result _ _
    (λ none d low is. none_from c.args.self.now c.args.date d
    (λ e from to. none e from (omega (arith, signed, to, last)) (omega (arith, signed, from, c.in-Some.ensures.in_range), omega (arith, signed, to, date))) low)
    c.first_day_up_to.ensures.none

pub returns-clause-none : goal.returns-clause-none
returns-clause-none c =
    if_none c.first_day_up_to-2.result _ _
    (λ none d low is. none d low (omega (arith, signed, is, c.last_date-last.ensures.of_type)) is)
    c.first_day_up_to-2.ensures.none
