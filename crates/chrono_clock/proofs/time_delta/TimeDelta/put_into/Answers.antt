use Rattle.std.proofs.Common.{arith}
use Rattle.chrono_text.proofs.AsciiTexts.{IsAscii-duration_text}
use Rattle.chrono_clock.proofs.time_delta.TimeDelta.put_into.Goals as goal

pub returns-clause-ascii : goal.returns-clause-ascii
returns-clause-ascii g c =
    let parts = c.sign_and_size-negative.ensures in
    IsAscii-duration_text c.args.self.now (omega (arith, parts.secs, parts.small))
