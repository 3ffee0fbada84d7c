use Rattle.caltool_command.proofs.Laws.{words_are, only_words}
use Rattle.caltool_command.proofs.law.words_are_unique.Goals as goal

pub returns-clause-joined : goal.returns-clause-joined
returns-clause-joined c = words_are

pub returns-clause-only : goal.returns-clause-only
returns-clause-only c = only_words
