use Rattle.std.proofs.Common.{length}
use Rattle.command_words.proofs.words.Arguments.+missing.Given as goal

abbrev pub decreases-missing : goal.decreases-missing
decreases-missing l = length l.table.now
