use Rattle.std.proofs.Common.{sym, ◌∙◌, refl, arith, rules}
use Rattle.chrono_text.specs.Numbers.{to_i64, to_u32}
use Rattle.chrono_text.proofs.Types.{i64_written}
use Rattle.caltool_command.specs.Commands.{date_and_time}
use Rattle.caltool_command.proofs.Counts.{moved_of, date_at, time_at, number_at}
use Rattle.caltool_command.proofs.read.moved.Goals as goal

pub returns-in_err-date : goal.returns-in_err-date
unfolding date_and_time
returns-in_err-date c = c.from_residual.ensures ∙ sym (moved_of c.args.numbers.now (omega arith) ∙ rw (date_at c.args.numbers.now 0 (search rules) (search rules) (search rules) c.calendar_date.ensures ∙ c.in_err-date.was) refl)

pub returns-in_err-time : goal.returns-in_err-time
unfolding date_and_time
returns-in_err-time c = c.from_residual-in_err-time.ensures ∙ sym (moved_of c.args.numbers.now (omega arith) ∙ rw (date_at c.args.numbers.now 0 (search rules) (search rules) (search rules) c.calendar_date.ensures ∙ c.in_ok-date.was, time_at c.args.numbers.now 3 (search rules) (search rules) (search rules) (search rules) c.clock_time.ensures ∙ c.in_err-time.was) refl)

pub returns-in_err-nanoseconds : goal.returns-in_err-nanoseconds
unfolding date_and_time
returns-in_err-nanoseconds c = c.from_residual-in_err-nanoseconds.ensures ∙ sym (moved_of c.args.numbers.now (omega arith) ∙ rw (date_at c.args.numbers.now 0 (search rules) (search rules) (search rules) c.calendar_date.ensures ∙ c.in_ok-date.was, time_at c.args.numbers.now 3 (search rules) (search rules) (search rules) (search rules) c.clock_time.ensures ∙ c.in_ok-time.was, number_at c.args.numbers.now to_i64 7 (search rules) (sym (i64_written _ (search rules))), number_at c.args.numbers.now to_u32 8 (search rules) c.to_u32.ensures ∙ c.in_err-nanoseconds.was) refl)

pub returns : goal.returns
unfolding date_and_time
returns c = sym (
    moved_of c.args.numbers.now (omega arith)
    ∙ rw (
      date_at c.args.numbers.now 0 (search rules) (search rules) (search rules) c.calendar_date.ensures ∙ c.in_ok-date.was,
      time_at c.args.numbers.now 3 (search rules) (search rules) (search rules) (search rules) c.clock_time.ensures ∙ c.in_ok-time.was,
      number_at c.args.numbers.now to_i64 7 (search rules) (sym (i64_written _ (search rules))),
      number_at c.args.numbers.now to_u32 8 (search rules) c.to_u32.ensures ∙ c.in_ok-nanoseconds.was,
    ) refl
    )
