use Rattle.std.proofs.Common.{◌∙◌, arith, rules, pos, ◌+ℤ◌, FitsSigned, w64}
use Rattle.std.proofs.lemmas.Int.{to_z-of_z}
use Rattle.chrono_datetime.proofs.Signed.{signed}
use Rattle.chrono_datetime.proofs.CountBetween.{count_between-sum}
use Rattle.chrono_datetime.specs.Recurrence.{first_date}
use Rattle.chrono_business.specs.OpenDays.{is_open}
use Rattle.chrono_business.proofs.calendar.Calendar.open_days_inclusive.Goals as goal

pub returns-then-num_days_from_ce-clause-back : goal.returns-then-num_days_from_ce-clause-back
returns-then-num_days_from_ce-clause-back c = λ order.
    let fits : FitsSigned w64 c.ranks_between.result = search rules in
    to_z-of_z w64 c.ranks_between.result fits
    ∙ omega (arith, signed, c.rank_behind.ensures.value, c.rank.ensures.value, c.ranks_between.ensures, count_between-sum (is_open c.args.self.now) first_date c.args.to (c.args.from +ℤ pos 1) c.rank.ensures.in_range.0 (omega (arith, signed, order)))

pub returns-else-num_days_from_ce-clause-on : goal.returns-else-num_days_from_ce-clause-on
returns-else-num_days_from_ce-clause-on c = λ order.
    let start = c.rank-else-num_days_from_ce.ensures in
    let end = c.rank_behind-else-num_days_from_ce.ensures in
    let fits : FitsSigned w64 c.ranks_between-else-num_days_from_ce.result = search rules in
    to_z-of_z w64 c.ranks_between-else-num_days_from_ce.result fits
    ∙ omega (arith, signed, start.value, end.value, c.ranks_between-else-num_days_from_ce.ensures, count_between-sum (is_open c.args.self.now) first_date c.args.from (c.args.to +ℤ pos 1) start.in_range.0 (omega (arith, signed, order)))
