use Rattle.std.proofs.Common.{length, length-append, ap, rules, arith}
use Rattle.chrono_text.proofs.Decimals.{at_most, one_at_most}
use Rattle.chrono_text.proofs.AsciiTexts.{IsAscii-seconds_text}
use Rattle.chrono_text.proofs.text.Text.push_seconds.Goals as goal

pub push_natural-requires : goal.push_natural-requires
push_natural-requires g c =
    let sign = one_at_most _ _ _ _ c.push_if.ensures in
    (search rules, (omega (arith, c.requires.seconds), omega (arith, sign, simp length-append at (ap length c.push_text.ensures))))

pub push_fraction-requires : goal.push_fraction-requires
push_fraction-requires g c =
    let sign = one_at_most _ _ _ _ c.push_if.ensures in
    let name = simp length-append at (ap length c.push_text.ensures) in
    let digits = simp length-append at (ap length c.push_natural.ensures) in
    let short = at_most 16 c.args.seconds (omega arith) c.requires.seconds (omega (arith, c.requires.seconds)) in
    (search rules, (omega arith, omega (arith, sign, name, digits, short)))

pub push-requires : goal.push-requires
push-requires g c =
    let sign = one_at_most _ _ _ _ c.push_if.ensures in
    let name = simp length-append at (ap length c.push_text.ensures) in
    let digits = simp length-append at (ap length c.push_natural.ensures) in
    let short = at_most 16 c.args.seconds (omega arith) c.requires.seconds (omega (arith, c.requires.seconds)) in
    (search rules, omega (arith, sign, name, digits, short, c.push_fraction.ensures.fits))

pub returns-clause-fits : goal.returns-clause-fits
returns-clause-fits g c =
    let sign = one_at_most _ _ _ _ c.push_if.ensures in
    let name = simp length-append at (ap length c.push_text.ensures) in
    let digits = simp length-append at (ap length c.push_natural.ensures) in
    let short = at_most 16 c.args.seconds (omega arith) c.requires.seconds (omega (arith, c.requires.seconds)) in
    omega (arith, sign, name, digits, short, c.push_fraction.ensures.fits, simp length-append at (ap length c.push.ensures))

pub returns-clause-ascii : goal.returns-clause-ascii
returns-clause-ascii g c = IsAscii-seconds_text c.args.negative c.args.seconds c.args.nanos (omega (arith, c.requires.seconds)) c.requires.nanos
