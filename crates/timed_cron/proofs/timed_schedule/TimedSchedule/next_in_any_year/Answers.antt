use Rattle.std.proofs.Common.{ap, ◌∙◌}
use Rattle.chrono_cron.specs.Due.{is_due}
use Rattle.timed_cron.proofs.MinuteOrder.{due_begins, due_in_minute, later_minute, least_in_minute, least_later, never_second, none_later}
use Rattle.timed_cron.proofs.timed_schedule.TimedSchedule.next_in_any_year.Goals as goal

pub returns-in-Some-clause-due : goal.returns-in-Some-clause-due
returns-in-Some-clause-due c =
    rw c.second_in_minute.ensures (due_in_minute c.args.self.now c.args.start c.in-Some.second c.in-Some.ensures.within
    (rw c.second_in_minute-minute.ensures at c.in-Some.ensures.due) c.in-Some.ensures.member)

pub returns-in-Some-clause-least : goal.returns-in-Some-clause-least
returns-in-Some-clause-least c = λ q at later earlier.
    least_in_minute c.args.self.now c.args.start q c.in-Some.second c.in-Some.ensures.within
    (rw (c.second_in_minute-minute.ensures, c.second_of.ensures) at c.in-Some.ensures.least)
    later (rw c.second_in_minute.ensures at earlier)

pub returns-in_default-first_in-clause-none : goal.returns-in_default-first_in-clause-none
returns-in_default-first_in-clause-none c = λ q at later. never_second c.args.self.now q c.in_default-first_in.ensures.none

pub returns-in_default-next_after-clause-none : goal.returns-in_default-next_after-clause-none
returns-in_default-next_after-clause-none c = λ q at later.
    none_later c.args.self.now c.args.start q c.date_times_exist.ensures at
    (rw (c.second_in_minute-minute.ensures, c.second_of.ensures) at c.in_default.ensures.none)
    (rw c.second_in_minute-minute.ensures at c.in_default-next_after.ensures.none) later

pub returns-clause-due : goal.returns-clause-due
returns-clause-due c =
    let next = c.in-Some-next_after.next in
    let begins = due_begins next c.args.self.now c.in-Some-next_after.ensures.member in
    rw c.second_in_minute-2.ensures (due_in_minute c.args.self.now next c.in-Some-first_in.second c.in-Some-first_in.ensures.before
    (ap (is_due c.args.self.now.schedule.sets) begins ∙ c.in-Some-next_after.ensures.member) c.in-Some-first_in.ensures.member)

pub returns-clause-later : goal.returns-clause-later
returns-clause-later c =
    let next = c.in-Some-next_after.next in
    rw c.second_in_minute-2.ensures (later_minute c.args.start next c.in-Some-first_in.second
    (due_begins next c.args.self.now c.in-Some-next_after.ensures.member)
    (rw c.second_in_minute-minute.ensures at c.in-Some-next_after.ensures.later))

pub returns-clause-least : goal.returns-clause-least
returns-clause-least c = λ q at later earlier.
    let next = c.in-Some-next_after.next in
    least_later c.args.self.now c.args.start q next c.in-Some-first_in.second c.in-Some-first_in.ensures.before
    c.date_times_exist.ensures at c.date_times_exist-2.ensures (due_begins next c.args.self.now c.in-Some-next_after.ensures.member)
    (rw (c.second_in_minute-minute.ensures, c.second_of.ensures) at c.in_default.ensures.none)
    (rw c.second_in_minute-minute.ensures at c.in-Some-next_after.ensures.least)
    c.in-Some-first_in.ensures.least later (rw c.second_in_minute-2.ensures at earlier)
