use Rattle.std.proofs.Common.{None, ap, sym, ◌∙◌, arith}
use Rattle.chrono_cron.specs.ScheduleErrors.{schedule_error_at}
use Rattle.timed_cron.specs.declared.timed_error.TimedError.TheVariants.{Fields as InFields}
use Rattle.timed_cron.proofs.TextWords.{none_at, told_first, told_none, word_at}
use Rattle.timed_cron.proofs.word_errors.count_error.Goals as goal

pub returns-in-Some-clause-error : goal.returns-in-Some-clause-error
returns-in-Some-clause-error c =
    let first = c.in-Some.ensures.some in
    c.number_error.ensures.error
    ∙ ap (λ fault. InFields (schedule_error_at None fault)) (sym (told_first _ _ _ c.args.count (word_at c.args.text.now 0 _ _ first)))

pub returns-in-None-clause-error : goal.returns-in-None-clause-error
returns-in-None-clause-error c =
    c.text_error.ensures
    ∙ ap (λ fault. InFields (schedule_error_at None fault)) (sym (told_none _ c.args.count (none_at c.args.text.now 0 (omega arith) c.in-None.ensures.none)))
