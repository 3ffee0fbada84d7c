use Rattle.layers_c.specs.Calendars.{MeansNoRecurrence, MeansNone, clock}
use Rattle.chrono_text.proofs.AnswerLemmas.{if_none}
use Rattle.layers_c.proofs.CalendarLemmas.{none_anywhere, none_here, some_weaker}
use Rattle.layers_c.proofs.calendar_faults.reason_in.Goals as goal

pub returns-clause-none : goal.returns-clause-none
returns-clause-none c =
    if_none c.reason_by.result _ (MeansNoRecurrence c.args.text.now c.args.zone.now → ⊥) (λ some none. some (none_here c.args.text.now c.args.zone none)) c.reason_by.ensures.none

pub returns-clause-some : goal.returns-clause-some
returns-clause-some c =
    some_weaker c.reason_by.result (MeansNone clock c.args.zone c.args.text.now) (MeansNoRecurrence c.args.text.now c.args.zone.now) (none_anywhere c.args.text.now c.args.zone) c.reason_by.ensures.some
