use Rattle.std.proofs.Common.{◌≡◌, true, ◌∙◌}
use Rattle.std.proofs.lemmas.Option.{IfSome_then}
use Rattle.timed_cron.specs.DueSeconds.{NoSecondBetween, is_due_at_second, is_timed_due}
use Rattle.timed_cron.specs.Private.{IdleBetween, IdleInYearsBetween, IsDueIn}
use Rattle.timed_cron.proofs.YearSteps.{any_year, due_by_years, for_none, not_due_in}
use Rattle.timed_cron.proofs.timed_schedule.TimedSchedule.next_after.Goals as goal

pub returns-in-None-clause-due : goal.returns-in-None-clause-due
returns-in-None-clause-due c =
    let s = c.args.self.now in
    IfSome_then c.next_in_any_year.result {P = λ m. is_due_at_second s m ≡ true} {Q = λ m. is_timed_due s m ≡ true} c.next_in_any_year.ensures.due
    (λ m due. any_year s m c.in-None.is ∙ due)

pub returns-in-None-clause-least : goal.returns-in-None-clause-least
returns-in-None-clause-least c =
    let s = c.args.self.now in
    let start = c.args.start in
    IfSome_then c.next_in_any_year.result {P = λ m. IdleBetween s start m} {Q = λ m. NoSecondBetween s start m} c.next_in_any_year.ensures.least
    (λ m idle q at later earlier. any_year s q c.in-None.is ∙ idle q at later earlier)

pub returns-in-None-clause-none : goal.returns-in-None-clause-none
returns-in-None-clause-none c =
    for_none c.next_in_any_year.result
    (λ idle q at later. any_year c.args.self.now q c.in-None.is ∙ idle q at later) c.next_in_any_year.ensures.none

pub returns-in-Some-clause-due : goal.returns-in-Some-clause-due
returns-in-Some-clause-due c =
    let s = c.args.self.now in
    let years = c.in-Some.years in
    IfSome_then c.next_in_years.result {P = λ m. IsDueIn s years m} {Q = λ m. is_timed_due s m ≡ true} c.next_in_years.ensures.due
    (λ m due. due_by_years s years m c.in-Some.is due)

pub returns-in-Some-clause-least : goal.returns-in-Some-clause-least
returns-in-Some-clause-least c =
    let s = c.args.self.now in
    let years = c.in-Some.years in
    let start = c.args.start in
    IfSome_then c.next_in_years.result {P = λ m. IdleInYearsBetween s years start m} {Q = λ m. NoSecondBetween s start m} c.next_in_years.ensures.least
    (λ m idle q at later earlier. not_due_in s years q c.in-Some.is (idle q at later earlier))

pub returns-in-Some-clause-none : goal.returns-in-Some-clause-none
returns-in-Some-clause-none c =
    for_none c.next_in_years.result
    (λ idle q at later. not_due_in c.args.self.now c.in-Some.years q c.in-Some.is (idle q at later)) c.next_in_years.ensures.none
