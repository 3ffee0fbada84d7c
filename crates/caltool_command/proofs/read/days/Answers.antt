use Rattle.std.proofs.Common.{sym, ◌∙◌, refl, arith, rules}
use Rattle.chrono_text.specs.Numbers.{to_i64}
use Rattle.chrono_text.proofs.Types.{i64_written}
use Rattle.caltool_command.proofs.Counts.{days_of, date_at, number_at}
use Rattle.caltool_command.proofs.read.days.Goals as goal

pub returns-in_err-date : goal.returns-in_err-date
returns-in_err-date c = c.from_residual.ensures ∙ sym (days_of c.args.numbers.now (omega arith) ∙ rw (date_at c.args.numbers.now 0 (search rules) (search rules) (search rules) c.calendar_date.ensures ∙ c.in_err-date.was) refl)

pub returns : goal.returns
returns c = sym (
    days_of c.args.numbers.now (omega arith)
    ∙ rw (date_at c.args.numbers.now 0 (search rules) (search rules) (search rules) c.calendar_date.ensures ∙ c.in_ok-date.was, number_at c.args.numbers.now to_i64 3 (search rules) (sym (i64_written _ (search rules)))) refl
    )
