use Rattle.std.proofs.Common.{refl}
use Rattle.chrono_text.specs.Numbers.{natural_of, number_of, to_i64}
use Rattle.caltool_command.specs.Types.{to_weekday}
use Rattle.caltool_command.specs.Grammar.{arguments_of, numbers_of}
use Rattle.caltool_command.specs.Commands.{weekdays, weekday_set, command_from, name_of, command_named, command_of}
use Rattle.caltool_form.specs.Answers.{answer_to, answer_of}
use Rattle.caltool_form.proofs.law.known_outputs.Goals as goal

pub returns : goal.returns
unfolding answer_of command_of arguments_of numbers_of number_of natural_of to_i64 to_weekday weekdays weekday_set command_named name_of command_from answer_to
returns c = record { nothing = refl; unended = refl; empty = refl; two = refl }
