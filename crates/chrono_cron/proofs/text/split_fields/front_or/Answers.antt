use Rattle.std.proofs.Common.{◌∙◌, ap, sym}
use Rattle.chrono_cron.specs.ScheduleErrors.{front_or, told_or}
use Rattle.chrono_cron.proofs.text.split_fields.front_or.Goals as goal

pub returns-in_default-clause-fault : goal.returns-in_default-clause-fault
unfolding front_or
returns-in_default-clause-fault c = sym (ap (λ words. front_or words c.args.count) c.in_default.ensures.none)

pub returns-in-Some-front_fault-clause-fault : goal.returns-in-Some-front_fault-clause-fault
unfolding front_or
returns-in-Some-front_fault-clause-fault c =
    let word = c.in-Some.word in
    sym (ap (λ words. front_or words c.args.count) c.in-Some.ensures.some
    ∙ ap (λ fault. told_or word.place fault c.args.count) (sym c.front_fault.ensures ∙ c.in-Some-front_fault.is))

pub returns-in-None-clause-fault : goal.returns-in-None-clause-fault
unfolding front_or
returns-in-None-clause-fault c =
    let word = c.in-Some.word in
    sym (ap (λ words. front_or words c.args.count) c.in-Some.ensures.some
    ∙ ap (λ fault. told_or word.place fault c.args.count) (sym c.front_fault.ensures ∙ c.in-None.is))
