use Rattle.std.proofs.Common.{ap, sym, ◌∙◌, arith}
use Rattle.std.specs.Option.{option_and_then}
use Rattle.caltool_command.specs.Commands.{command_from}
use Rattle.caltool_command.proofs.Commands.{command_of-long, command_of-some, command_of-no_name, command_of-no_numbers}
use Rattle.caltool_command.proofs.command_line.read_line.Goals as goal

pub returns-then-len-gt-LONGEST_LINE : goal.returns-then-len-gt-LONGEST_LINE
returns-then-len-gt-LONGEST_LINE c = command_of-long c.args.line.now (omega arith)

pub returns-in_err-name : goal.returns-in_err-name
returns-in_err-name c =
    command_of-no_name _ _ c.split_name-rest.result.1 (omega arith) c.split_name-rest.ensures.words (sym c.name_of.ensures ∙ c.in_err-name.was)
    ∙ ap (option_and_then (λ name. command_from name _)) (sym c.from_residual.ensures)

pub returns-in_err-read : goal.returns-in_err-read
returns-in_err-read c =
    command_of-no_numbers _ _ c.split_name-rest.result.1 (omega arith) c.split_name-rest.ensures.words c.in_err-read.ensures
    ∙ ap (option_and_then (λ name. command_from name _)) (sym c.from_residual-in_err-read.ensures)

pub returns : goal.returns
returns c =
    command_of-some _ _ c.split_name-rest.result.1 (omega arith) c.split_name-rest.ensures.words c.in_ok-name.name _ (sym c.name_of.ensures ∙ c.in_ok-name.was) c.in_ok-read.ensures
