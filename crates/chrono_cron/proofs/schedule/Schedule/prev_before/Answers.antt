use Rattle.std.proofs.Common.{inl, inr, refl, arith}
use Rattle.chrono_datetime.proofs.Signed.{signed}
use Rattle.chrono_cron.proofs.MomentOrder.{greatest_earlier, greatest_today, is_due-beginning, none_earlier, none_ever}
use Rattle.chrono_cron.proofs.schedule.Schedule.prev_before.Goals as goal

pub returns-in-Some-clause-member : goal.returns-in-Some-clause-member
returns-in-Some-clause-member c =
    rw (c.new.ensures, c.beginning.ensures) (is_due-beginning c.args.self.now.sets c.date-date.result c.in-Some.minute c.in-Some.ensures.day c.in-Some.ensures.minute)

pub returns-in-Some-clause-earlier : goal.returns-in-Some-clause-earlier
returns-in-Some-clause-earlier c =
    rw (c.new.ensures, c.beginning.ensures, c.date-date.ensures) (inr (refl, rw c.time.ensures at ((c.begun_before.ensures.begun c.in-Some.minute).0 c.in-Some.ensures.before)))

pub returns-in-Some-clause-greatest : goal.returns-in-Some-clause-greatest
returns-in-Some-clause-greatest c = λ q is after before.
    greatest_today c.args.self.now.sets c.args.start q c.in-Some.minute c.begun_before.result
    (λ k begun. (c.begun_before.ensures.begun k).1 (rw (← c.time.ensures) at begun))
    (rw c.date-date.ensures at c.in-Some.ensures.greatest)
    (rw (c.new.ensures, c.beginning.ensures, c.date-date.ensures) at after) before

pub returns-in_default-last_minute-clause-none : goal.returns-in_default-last_minute-clause-none
returns-in_default-last_minute-clause-none c =
    (λ q is before. none_ever c.args.self.now.sets q c.in_default-last_minute.ensures.none is.time)

pub returns-in_default-moved_by_days-clause-none : goal.returns-in_default-moved_by_days-clause-none
returns-in_default-moved_by_days-clause-none c =
    (λ q is before.
    none_earlier c.args.self.now.sets c.args.start q c.begun_before.result
    (λ k begun. (c.begun_before.ensures.begun k).1 (rw (← c.time.ensures) at begun))
    (rw c.date-date.ensures at c.in_default.ensures.none)
    (λ d earlier date.
    let some = c.in_default-moved_by_days.ensures.exists.1 (omega (arith, signed, c.date-date.ensures, earlier, date), omega (arith, signed, c.in_default-moved_by_days.ensures.in_range)) in
    cc)
    is before)

pub returns-in_default-last_day-clause-none : goal.returns-in_default-last_day-clause-none
returns-in_default-last_day-clause-none c =
    (λ q is before.
    none_earlier c.args.self.now.sets c.args.start q c.begun_before.result
    (λ k begun. (c.begun_before.ensures.begun k).1 (rw (← c.time.ensures) at begun))
    (rw c.date-date.ensures at c.in_default.ensures.none)
    (λ d earlier date. c.in_default-last_day.ensures.none d (omega (arith, signed, c.in-Some-moved_by_days.ensures.moved, c.date-date.ensures, earlier)) date)
    is before)

pub returns-clause-member : goal.returns-clause-member
returns-clause-member c =
    rw (c.new-2.ensures, c.beginning-2.ensures) (is_due-beginning c.args.self.now.sets c.in-Some-last_day.day c.in-Some-last_minute.minute c.in-Some-last_day.ensures.member c.in-Some-last_minute.ensures.member)

pub returns-clause-earlier : goal.returns-clause-earlier
returns-clause-earlier c =
    rw c.new-2.ensures (inl (omega (arith, signed, c.in-Some-moved_by_days.ensures.moved, c.date-date.ensures, c.in-Some-last_day.ensures.not_after)))

pub returns-clause-greatest : goal.returns-clause-greatest
returns-clause-greatest c = λ q is after before.
    let back = c.in-Some-moved_by_days.ensures.moved in
    greatest_earlier c.args.self.now.sets c.args.start q c.in-Some-last_day.day c.in-Some-last_minute.minute c.begun_before.result
    (omega (arith, signed, back, c.date-date.ensures, c.in-Some-last_day.ensures.not_after))
    (λ k begun. (c.begun_before.ensures.begun k).1 (rw (← c.time.ensures) at begun))
    (rw c.date-date.ensures at c.in_default.ensures.none)
    (λ d low high. c.in-Some-last_day.ensures.greatest d (omega (arith, signed, low)) (omega (arith, signed, back, c.date-date.ensures, high)))
    c.in-Some-last_minute.ensures.greatest is.time
    (rw (c.new-2.ensures, c.beginning-2.ensures) at after) before
