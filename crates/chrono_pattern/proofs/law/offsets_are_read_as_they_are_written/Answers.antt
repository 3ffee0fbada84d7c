use Rattle.std.proofs.Common.{refl}
use Rattle.chrono_pattern.proofs.OffsetExact.{offset_is, offset_is_read}
use Rattle.chrono_pattern.proofs.OffsetTexts.{written_read}
use Rattle.chrono_pattern.proofs.law.offsets_are_read_as_they_are_written.Goals as goal

pub returns-clause-exact : goal.returns-clause-exact
returns-clause-exact c = λ text parts. (offset_is text parts, offset_is_read text parts)

pub returns-clause-written : goal.returns-clause-written
returns-clause-written c = λ negative hours minutes between. written_read negative hours minutes between

pub returns-clause-colon : goal.returns-clause-colon
returns-clause-colon c = refl

pub returns-clause-nothing : goal.returns-clause-nothing
returns-clause-nothing c = refl
