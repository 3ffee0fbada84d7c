use Rattle.chrono_instant.proofs.OffsetTextLemmas.{offset_text-plus}
use Rattle.chrono_instant.proofs.fixed_offset.read.read_offset.Goals as goal

pub returns-then-sign-eq43-clause-read : goal.returns-then-sign-eq43-clause-read
returns-then-sign-eq43-clause-read c =
    let size = c.in_ok-seconds.ensures.read in
    offset_text-plus c.east_opt.result c.in_ok-seconds.seconds c.in_ok-sign.sign.now c.in_ok-sign.size.now c.args.text.now c.east_opt.ensures size.0 size.1 c.if-sign-eq43.true c.in_ok-sign.ensures.cases.0
