use Rattle.std.proofs.Common.{arith, sym, false, ◌-◌}
use Rattle.chrono_calendar.specs.Days.{days_of_months_in}
use Rattle.chrono_calendar.proofs.Signed.{signed}
use Rattle.zone_rule.proofs.Places.{last_between, later-last, later-nth, week_between, week_place-last, week_place-nth}
use Rattle.zone_rule.proofs.rule_day.week_places.Goals as goal

pub returns-then-week-eq-LAST_WEEK-clause-least : goal.returns-then-week-eq-LAST_WEEK-clause-least
returns-then-week-eq-LAST_WEEK-clause-least c = λ y w year.
    let between = last_between y c.args.month c.args.week w year c.requires.month c.if-week-eq-LAST_WEEK.true in
    omega (arith, signed, c.days_before_month-before.ensures.days, between.not_before)

pub returns-then-week-eq-LAST_WEEK-clause-most : goal.returns-then-week-eq-LAST_WEEK-clause-most
returns-then-week-eq-LAST_WEEK-clause-most c = λ y w year.
    let between = last_between y c.args.month c.args.week w year c.requires.month c.if-week-eq-LAST_WEEK.true in
    omega (arith, signed, c.days_before_month-before.ensures.days, between.not_behind)

pub returns-else-week-eq-LAST_WEEK-clause-least : goal.returns-else-week-eq-LAST_WEEK-clause-least
returns-else-week-eq-LAST_WEEK-clause-least c = λ y w year.
    let between = week_between y c.args.month c.args.week w year c.requires.month c.requires.week c.if-week-eq-LAST_WEEK.false in
    omega (arith, signed, c.days_before_month-before.ensures.days, c.from.ensures, c.requires.week.0, between.not_before)

pub returns-else-week-eq-LAST_WEEK-clause-most : goal.returns-else-week-eq-LAST_WEEK-clause-most
returns-else-week-eq-LAST_WEEK-clause-most c = λ y w year.
    let between = week_between y c.args.month c.args.week w year c.requires.month c.requires.week c.if-week-eq-LAST_WEEK.false in
    omega (arith, signed, c.days_before_month-before.ensures.days, c.from.ensures, c.requires.week.0, between.not_behind)

pub returns-then-week-eq-LAST_WEEK-clause-place : goal.returns-then-week-eq-LAST_WEEK-clause-place
returns-then-week-eq-LAST_WEEK-clause-place c = omega (arith, c.days_before_month-before.ensures.days, week_place-last (days_of_months_in false (c.args.month - 1)) c.args.week c.if-week-eq-LAST_WEEK.true)

pub returns-then-week-eq-LAST_WEEK-clause-later : goal.returns-then-week-eq-LAST_WEEK-clause-later
returns-then-week-eq-LAST_WEEK-clause-later c = λ w. sym (later-last c.args.month c.args.week w c.if-week-eq-LAST_WEEK.true)

pub returns-else-week-eq-LAST_WEEK-clause-place : goal.returns-else-week-eq-LAST_WEEK-clause-place
returns-else-week-eq-LAST_WEEK-clause-place c = omega (arith, c.days_before_month-before.ensures.days, c.from.ensures, week_place-nth (days_of_months_in false (c.args.month - 1)) c.args.week c.if-week-eq-LAST_WEEK.false)

pub returns-else-week-eq-LAST_WEEK-clause-later : goal.returns-else-week-eq-LAST_WEEK-clause-later
returns-else-week-eq-LAST_WEEK-clause-later c = λ w. sym (later-nth c.args.month c.args.week w c.if-week-eq-LAST_WEEK.false)
