use Rattle.std.proofs.Common.{sym, ◌∙◌, refl, arith, rules}
use Rattle.caltool_command.proofs.Counts.{since_of, date_at}
use Rattle.caltool_command.proofs.read.since.Goals as goal

pub returns-in_err-date : goal.returns-in_err-date
returns-in_err-date c = c.from_residual.ensures ∙ sym (since_of c.args.numbers.now (omega arith) ∙ rw (date_at c.args.numbers.now 0 (search rules) (search rules) (search rules) c.calendar_date.ensures ∙ c.in_err-date.was) refl)

pub returns-in_err-base : goal.returns-in_err-base
returns-in_err-base c = c.from_residual-in_err-base.ensures ∙ sym (since_of c.args.numbers.now (omega arith) ∙ rw (date_at c.args.numbers.now 0 (search rules) (search rules) (search rules) c.calendar_date.ensures ∙ c.in_ok-date.was, date_at c.args.numbers.now 3 (search rules) (search rules) (search rules) c.calendar_date-2.ensures ∙ c.in_err-base.was) refl)

pub returns : goal.returns
returns c = sym (
    since_of c.args.numbers.now (omega arith)
    ∙ rw (
      date_at c.args.numbers.now 0 (search rules) (search rules) (search rules) c.calendar_date.ensures ∙ c.in_ok-date.was,
      date_at c.args.numbers.now 3 (search rules) (search rules) (search rules) c.calendar_date-2.ensures ∙ c.in_ok-base.was,
    ) refl
    )
