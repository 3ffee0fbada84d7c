use Rattle.std.proofs.Common.{sym, ◌∙◌, refl, arith, to_z-of_z, SFits, w32, rules}
use Rattle.chrono_text.specs.Numbers.{to_i32, to_u32}
use Rattle.caltool_command.proofs.Counts.{every_of, date_at, number_at}
use Rattle.caltool_command.proofs.read.every.Goals as goal

pub returns-in_err-date : goal.returns-in_err-date
returns-in_err-date c = c.from_residual.ensures ∙ sym (every_of c.args.numbers.now (omega arith) ∙ rw (date_at c.args.numbers.now 0 (search rules) (search rules) (search rules) c.calendar_date.ensures ∙ c.in_err-date.was) refl)

pub returns-in_err-months : goal.returns-in_err-months
returns-in_err-months c = c.from_residual-in_err-months.ensures ∙ sym (every_of c.args.numbers.now (omega arith) ∙ rw (date_at c.args.numbers.now 0 (search rules) (search rules) (search rules) c.calendar_date.ensures ∙ c.in_ok-date.was, number_at c.args.numbers.now to_i32 3 (search rules) c.to_i32.ensures ∙ c.in_err-months.was) refl)

pub returns-in_err-times : goal.returns-in_err-times
returns-in_err-times c = c.from_residual-in_err-times.ensures ∙ sym (every_of c.args.numbers.now (omega arith) ∙ rw (date_at c.args.numbers.now 0 (search rules) (search rules) (search rules) c.calendar_date.ensures ∙ c.in_ok-date.was, number_at c.args.numbers.now to_i32 3 (search rules) c.to_i32.ensures ∙ c.in_ok-months.was, number_at c.args.numbers.now to_u32 4 (search rules) c.to_u32.ensures ∙ c.in_err-times.was) refl)

pub returns : goal.returns
returns c = let months : SFits w32 c.in_ok-months.months = search rules in sym (
    every_of c.args.numbers.now (omega arith)
    ∙ rw (
      date_at c.args.numbers.now 0 (search rules) (search rules) (search rules) c.calendar_date.ensures ∙ c.in_ok-date.was,
      number_at c.args.numbers.now to_i32 3 (search rules) c.to_i32.ensures ∙ c.in_ok-months.was,
      number_at c.args.numbers.now to_u32 4 (search rules) c.to_u32.ensures ∙ c.in_ok-times.was,
      to_z-of_z months,
    ) refl
    )
