use Rattle.std.proofs.Common.{inl, inr, refl, arith}
use Rattle.chrono_datetime.proofs.Signed.{signed}
use Rattle.chrono_cron.proofs.MomentOrder.{is_due-beginning, least_later, least_today, none_ever, none_later}
use Rattle.chrono_cron.proofs.schedule.Schedule.next_after.Goals as goal

pub returns-in-Some-clause-member : goal.returns-in-Some-clause-member
returns-in-Some-clause-member c =
    rw (c.new.ensures, c.beginning.ensures) (is_due-beginning c.args.self.now.sets c.date-date.result c.in-Some.minute c.in-Some.ensures.day c.in-Some.ensures.minute)

pub returns-in-Some-clause-later : goal.returns-in-Some-clause-later
returns-in-Some-clause-later c =
    let begun = rw c.time.ensures at c.num_seconds_from_midnight-begun.ensures.value in
    rw (c.new.ensures, c.beginning.ensures, c.date-date.ensures) (inr (refl, inl (omega (arith, begun, c.in-Some.ensures.not_before))))

pub returns-in-Some-clause-least : goal.returns-in-Some-clause-least
returns-in-Some-clause-least c = λ q is after before.
    let begun = rw c.time.ensures at c.num_seconds_from_midnight-begun.ensures.value in
    least_today c.args.self.now.sets c.args.start q c.in-Some.minute
    (rw (c.date-date.ensures, begun) at c.in-Some.ensures.least)
    after (rw (c.new.ensures, c.beginning.ensures, c.date-date.ensures) at before)

pub returns-in_default-first_minute-clause-none : goal.returns-in_default-first_minute-clause-none
returns-in_default-first_minute-clause-none c =
    (λ q is after. none_ever c.args.self.now.sets q c.in_default-first_minute.ensures.none is.time)

pub returns-in_default-moved_by_days-clause-none : goal.returns-in_default-moved_by_days-clause-none
returns-in_default-moved_by_days-clause-none c =
    let begun = rw c.time.ensures at c.num_seconds_from_midnight-begun.ensures.value in
    (λ q is after.
    none_later c.args.self.now.sets c.args.start q (rw (c.date-date.ensures, begun) at c.in_default.ensures.none)
    (λ d later date.
    let some = c.in_default-moved_by_days.ensures.exists.1 (omega (arith, signed, c.in_default-moved_by_days.ensures.in_range), omega (arith, signed, c.date-date.ensures, later, date)) in
    cc)
    is after)

pub returns-in_default-first_day-clause-none : goal.returns-in_default-first_day-clause-none
returns-in_default-first_day-clause-none c =
    let begun = rw c.time.ensures at c.num_seconds_from_midnight-begun.ensures.value in
    (λ q is after.
    none_later c.args.self.now.sets c.args.start q (rw (c.date-date.ensures, begun) at c.in_default.ensures.none)
    (λ d later date.
    c.in_default-first_day.ensures.none d (omega (arith, signed, c.in-Some-moved_by_days.ensures.moved, c.date-date.ensures, later)) date)
    is after)

pub returns-clause-member : goal.returns-clause-member
returns-clause-member c =
    rw (c.new-2.ensures, c.beginning-2.ensures) (is_due-beginning c.args.self.now.sets c.in-Some-first_day.day c.in-Some-first_minute.minute c.in-Some-first_day.ensures.member c.in-Some-first_minute.ensures.member)

pub returns-clause-later : goal.returns-clause-later
returns-clause-later c =
    rw c.new-2.ensures (inl (omega (arith, signed, c.in-Some-moved_by_days.ensures.moved, c.date-date.ensures, c.in-Some-first_day.ensures.not_before)))

pub returns-clause-least : goal.returns-clause-least
returns-clause-least c = λ q is after before.
    let begun = rw c.time.ensures at c.num_seconds_from_midnight-begun.ensures.value in
    let next = c.in-Some-moved_by_days.ensures.moved in
    least_later c.args.self.now.sets c.args.start q c.in-Some-first_day.day c.in-Some-first_minute.minute
    (omega (arith, signed, next, c.date-date.ensures, c.in-Some-first_day.ensures.not_before))
    (rw (c.date-date.ensures, begun) at c.in_default.ensures.none)
    (λ d low high. c.in-Some-first_day.ensures.least d (omega (arith, signed, next, c.date-date.ensures, low)) high)
    c.in-Some-first_minute.ensures.least is.time after
    (rw (c.new-2.ensures, c.beginning-2.ensures) at before)
