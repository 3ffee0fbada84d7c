use Rattle.std.proofs.Common.{ap, ◌∙◌, arith}
use Rattle.chrono_cron.specs.Due.{is_due}
use Rattle.timed_cron.proofs.MinuteOrder.{due_begins, due_in_minute, greatest_earlier, greatest_in_minute, never_second, none_earlier}
use Rattle.timed_cron.proofs.timed_schedule.TimedSchedule.prev_in_any_year.Goals as goal

pub returns-in-Some-clause-due : goal.returns-in-Some-clause-due
returns-in-Some-clause-due c =
    rw c.second_in_minute.ensures (due_in_minute c.args.self.now c.args.start c.in-Some.second (omega (arith, c.in-Some.ensures.before, c.seconds_begun.ensures.within))
    (rw c.second_in_minute-minute.ensures at c.in-Some.ensures.due) c.in-Some.ensures.member)

pub returns-in-Some-clause-greatest : goal.returns-in-Some-clause-greatest
returns-in-Some-clause-greatest c = λ q at later earlier.
    greatest_in_minute c.args.self.now c.args.start q c.in-Some.second c.seconds_begun.result c.seconds_begun.ensures.begun
    (rw c.second_in_minute-minute.ensures at c.in-Some.ensures.greatest)
    (rw c.second_in_minute.ensures at later) earlier

pub returns-in_default-last_in-clause-none : goal.returns-in_default-last_in-clause-none
returns-in_default-last_in-clause-none c = λ q at earlier. never_second c.args.self.now q c.in_default-last_in.ensures.none

pub returns-in_default-prev_before-clause-none : goal.returns-in_default-prev_before-clause-none
returns-in_default-prev_before-clause-none c = λ q at earlier.
    none_earlier c.args.self.now c.args.start q c.seconds_begun.result c.date_times_exist.ensures at c.seconds_begun.ensures.begun
    (rw c.second_in_minute-minute.ensures at c.in_default.ensures.none)
    (rw c.second_in_minute-minute.ensures at c.in_default-prev_before.ensures.none) earlier

pub returns-clause-due : goal.returns-clause-due
returns-clause-due c =
    let previous = c.in-Some-prev_before.previous in
    let begins = due_begins previous c.args.self.now c.in-Some-prev_before.ensures.member in
    rw c.second_in_minute-2.ensures (due_in_minute c.args.self.now previous c.in-Some-last_in.second c.in-Some-last_in.ensures.before
    (ap (is_due c.args.self.now.schedule.sets) begins ∙ c.in-Some-prev_before.ensures.member) c.in-Some-last_in.ensures.member)

pub returns-clause-greatest : goal.returns-clause-greatest
returns-clause-greatest c = λ q at later earlier.
    let previous = c.in-Some-prev_before.previous in
    greatest_earlier c.args.self.now c.args.start q previous c.in-Some-last_in.second c.seconds_begun.result
    c.date_times_exist.ensures at c.date_times_exist-2.ensures (due_begins previous c.args.self.now c.in-Some-prev_before.ensures.member)
    c.seconds_begun.ensures.begun
    (rw c.second_in_minute-minute.ensures at c.in_default.ensures.none)
    (rw c.second_in_minute-minute.ensures at c.in-Some-prev_before.ensures.greatest)
    (λ j low high. c.in-Some-last_in.ensures.greatest j (omega (arith, low)) high) (rw c.second_in_minute-2.ensures at later) earlier
