use Rattle.std.proofs.Common.{sym, ◌∙◌, refl, arith, rules}
use Rattle.std.proofs.Common.{ap}
use Rattle.std.proofs.lemmas.List.{take_rest}
use Rattle.caltool_command.specs.Commands.{weekday_set}
use Rattle.caltool_command.proofs.Counts.{on_of, date_at}
use Rattle.caltool_command.proofs.read.on.Goals as goal

pub returns-in_err-date : goal.returns-in_err-date
returns-in_err-date c = c.from_residual.ensures ∙ sym (on_of c.args.numbers.now (omega arith) ∙ rw (date_at c.args.numbers.now 0 (search rules) (search rules) (search rules) c.calendar_date.ensures ∙ c.in_err-date.was) refl)

pub returns-in_err-days : goal.returns-in_err-days
returns-in_err-days c = c.from_residual-in_err-days.ensures ∙ sym (on_of c.args.numbers.now (omega arith) ∙ rw (date_at c.args.numbers.now 0 (search rules) (search rules) (search rules) c.calendar_date.ensures ∙ c.in_ok-date.was, ap weekday_set (sym (take_rest c.args.numbers.now 3)) ∙ sym c.weekday_set.ensures ∙ c.in_err-days.was) refl)

pub returns : goal.returns
returns c = sym (
    on_of c.args.numbers.now (omega arith)
    ∙ rw (
      date_at c.args.numbers.now 0 (search rules) (search rules) (search rules) c.calendar_date.ensures ∙ c.in_ok-date.was,
      ap weekday_set (sym (take_rest c.args.numbers.now 3)) ∙ sym c.weekday_set.ensures ∙ c.in_ok-days.was,
    ) refl
    )
