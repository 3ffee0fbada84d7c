use Rattle.std.proofs.Common.{pos, arith}
use Rattle.chrono_pattern.proofs.Utf8Lemmas.{utf8_text}
use Rattle.chrono_pattern.proofs.law.utf8_patterns_write_utf8.Goals as goal

pub returns-clause-utc : goal.returns-clause-utc
returns-clause-utc c bytes m are date time = utf8_text bytes m (pos 0) (omega arith) are date time

pub returns-clause-zoned : goal.returns-clause-zoned
returns-clause-zoned c bytes m x near are date time = utf8_text bytes m x near are date time
