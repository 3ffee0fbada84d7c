use Rattle.caltool_command.proofs.Laws.{line_read, line_written}
use Rattle.caltool_command.proofs.law.lines_are_commands.Goals as goal

pub returns-clause-read : goal.returns-clause-read
returns-clause-read c = line_read

pub returns-clause-written : goal.returns-clause-written
returns-clause-written c = line_written
