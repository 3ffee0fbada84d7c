use Rattle.std.proofs.Common.{◌≡◌, ◌≤ℤ◌, ◌<ℤ◌, true, false, is_ge, int_cmp, arith, ℤ, ◌-ℤ◌, unsigned_abs}
use Rattle.std.proofs.lemmas.Int.{ints}
use Rattle.chrono_datetime.specs.Recurrence.{is_on}
use Rattle.chrono_datetime.specs.WeekdaySet.{single}
use Rattle.chrono_datetime.specs.declared.Weekday.TheVariants.{Mon}
use Rattle.chrono_datetime.proofs.Signed.{signed}
use Rattle.chrono_datetime.proofs.CountWhere.{count_where-next}
use Rattle.chrono_uses.proofs.questions.mondays_walked.Goals as goal

early : (a b : ℤ) → false ≡ is_ge (int_cmp a b) → a <ℤ b
early a b h = grind (arith, ints)

pub loop-day-init : goal.loop-day-init
loop-day-init c =
    let start = c.iter_days-days.ensures.start in
    let none : unsigned_abs (c.iter_days-days.result -ℤ c.args.from) ≡ 0 = omega (arith, signed, start) in
    (omega (arith, signed, start), λ order. omega (arith, signed, start, order), rw none (omega (arith, c.counts_add_up.ensures.at_most (is_on (single Mon)) 0 c.args.from)))

-- a Monday is counted, and no other day
pub loop-day-preserved-then-contains : goal.loop-day-preserved-then-contains
loop-day-preserved-then-contains c =
    let so_far = c.loop-day.invariant in
    let moved = c.in-Some.ensures.moved in
    let date = c.in-Some.ensures.date in
    let monday : is_on (single Mon) c.in-Some.day ≡ true = cc in
    let count = rw monday at (count_where-next (is_on (single Mon)) (unsigned_abs (c.loop-day.days -ℤ c.args.from)) (unsigned_abs (c.step.new.self -ℤ c.args.from)) c.args.from c.in-Some.day (omega (arith, signed, so_far.0, moved)) (omega (arith, signed, so_far.0, date))) in
    (omega (arith, signed, so_far.0, moved), λ order. omega (arith, signed, moved, date, early c.in-Some.day c.args.to c.if-ge.ensures), omega (arith, count, so_far.2))

pub loop-day-preserved : goal.loop-day-preserved
loop-day-preserved c =
    let so_far = c.loop-day.invariant in
    let moved = c.in-Some.ensures.moved in
    let date = c.in-Some.ensures.date in
    let monday : is_on (single Mon) c.in-Some.day ≡ false = cc in
    let count = rw monday at (count_where-next (is_on (single Mon)) (unsigned_abs (c.loop-day.days -ℤ c.args.from)) (unsigned_abs (c.step.new.self -ℤ c.args.from)) c.args.from c.in-Some.day (omega (arith, signed, so_far.0, moved)) (omega (arith, signed, so_far.0, date))) in
    (omega (arith, signed, so_far.0, moved), λ order. omega (arith, signed, moved, date, early c.in-Some.day c.args.to c.if-ge.ensures), omega (arith, count, so_far.2))

pub returns-then-ge : goal.returns-then-ge
returns-then-ge c = λ order.
    let late : c.args.to ≤ℤ c.in-Some.day = grind (arith, ints) in
    let at : c.loop-day.days ≡ c.args.to = omega (arith, signed, late, c.in-Some.ensures.date, c.loop-day.invariant.1 order) in
    rw at at c.loop-day.invariant.2

pub loop-day-smaller-then-contains : goal.loop-day-smaller-then-contains
loop-day-smaller-then-contains c = omega (arith, signed, c.in-Some.ensures.moved, c.in-Some.ensures.date)

pub loop-day-smaller : goal.loop-day-smaller
loop-day-smaller c = omega (arith, signed, c.in-Some.ensures.moved, c.in-Some.ensures.date)
