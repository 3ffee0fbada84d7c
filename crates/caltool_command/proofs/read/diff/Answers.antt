use Rattle.std.proofs.Common.{sym, ◌∙◌, refl, arith, rules}
use Rattle.caltool_command.specs.Commands.{date_and_time}
use Rattle.caltool_command.proofs.Counts.{diff_of, date_at, time_at}
use Rattle.caltool_command.proofs.read.diff.Goals as goal

pub returns-in_err-date : goal.returns-in_err-date
unfolding date_and_time
returns-in_err-date c = c.from_residual.ensures ∙ sym (diff_of c.args.numbers.now (omega arith) ∙ rw (date_at c.args.numbers.now 0 (search rules) (search rules) (search rules) c.calendar_date.ensures ∙ c.in_err-date.was) refl)

pub returns-in_err-time : goal.returns-in_err-time
unfolding date_and_time
returns-in_err-time c = c.from_residual-in_err-time.ensures ∙ sym (diff_of c.args.numbers.now (omega arith) ∙ rw (date_at c.args.numbers.now 0 (search rules) (search rules) (search rules) c.calendar_date.ensures ∙ c.in_ok-date.was, time_at c.args.numbers.now 3 (search rules) (search rules) (search rules) (search rules) c.clock_time.ensures ∙ c.in_err-time.was) refl)

pub returns-in_err-date_2 : goal.returns-in_err-date_2
unfolding date_and_time
returns-in_err-date_2 c = c.from_residual-in_err-date_2.ensures ∙ sym (diff_of c.args.numbers.now (omega arith) ∙ rw (date_at c.args.numbers.now 0 (search rules) (search rules) (search rules) c.calendar_date.ensures ∙ c.in_ok-date.was, time_at c.args.numbers.now 3 (search rules) (search rules) (search rules) (search rules) c.clock_time.ensures ∙ c.in_ok-time.was, date_at c.args.numbers.now 7 (search rules) (search rules) (search rules) c.calendar_date-2.ensures ∙ c.in_err-date_2.was) refl)

pub returns-in_err-time_2 : goal.returns-in_err-time_2
unfolding date_and_time
returns-in_err-time_2 c = c.from_residual-in_err-time_2.ensures ∙ sym (diff_of c.args.numbers.now (omega arith) ∙ rw (date_at c.args.numbers.now 0 (search rules) (search rules) (search rules) c.calendar_date.ensures ∙ c.in_ok-date.was, time_at c.args.numbers.now 3 (search rules) (search rules) (search rules) (search rules) c.clock_time.ensures ∙ c.in_ok-time.was, date_at c.args.numbers.now 7 (search rules) (search rules) (search rules) c.calendar_date-2.ensures ∙ c.in_ok-date_2.was, time_at c.args.numbers.now 10 (search rules) (search rules) (search rules) (search rules) c.clock_time-2.ensures ∙ c.in_err-time_2.was) refl)

pub returns : goal.returns
unfolding date_and_time
returns c = sym (
    diff_of c.args.numbers.now (omega arith)
    ∙ rw (
      date_at c.args.numbers.now 0 (search rules) (search rules) (search rules) c.calendar_date.ensures ∙ c.in_ok-date.was,
      time_at c.args.numbers.now 3 (search rules) (search rules) (search rules) (search rules) c.clock_time.ensures ∙ c.in_ok-time.was,
      date_at c.args.numbers.now 7 (search rules) (search rules) (search rules) c.calendar_date-2.ensures ∙ c.in_ok-date_2.was,
      time_at c.args.numbers.now 10 (search rules) (search rules) (search rules) (search rules) c.clock_time-2.ensures ∙ c.in_ok-time_2.was,
    ) refl
    )
