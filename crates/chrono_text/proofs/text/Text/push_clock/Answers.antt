use Rattle.std.proofs.Common.{ℕ, length, length-append, append_assoc, ap, refl, rules, arith}
use Rattle.std.proofs.lemmas.Bool.{le-leb, lt-leb}
use Rattle.chrono_text.specs.Text.{nanos_per_second}
use Rattle.chrono_text.proofs.AsciiTexts.{IsAscii-clock_text}
use Rattle.chrono_text.proofs.text.Text.push_clock.Goals as goal

pub push_two-requires-2 : goal.push_two-requires-2
push_two-requires-2 g c = (search rules, (omega arith, omega (arith, length-append {A = ℕ}, ap length c.push_two.ensures, ap length c.push.ensures)))

pub push-requires-2 : goal.push-requires-2
push-requires-2 g c = (search rules, omega (arith, length-append {A = ℕ}, ap length c.push_two.ensures, ap length c.push.ensures, ap length c.push_two-2.ensures))

pub push_two-requires-then-fraction-ge-NANOS_PER_SEC : goal.push_two-requires-then-fraction-ge-NANOS_PER_SEC
push_two-requires-then-fraction-ge-NANOS_PER_SEC g c = (search rules, (omega arith, omega (arith, length-append {A = ℕ}, ap length c.push_two.ensures, ap length c.push.ensures, ap length c.push_two-2.ensures, ap length c.push-2.ensures)))

pub push_subsecond-requires : goal.push_subsecond-requires
push_subsecond-requires g c = (search rules, (omega arith, omega (arith, length-append {A = ℕ}, ap length c.push_two.ensures, ap length c.push.ensures, ap length c.push_two-2.ensures, ap length c.push-2.ensures, ap length c.push_two-then-fraction-ge-NANOS_PER_SEC.ensures)))

pub returns-then-fraction-ge-NANOS_PER_SEC-clause-text : goal.returns-then-fraction-ge-NANOS_PER_SEC-clause-text
returns-then-fraction-ge-NANOS_PER_SEC-clause-text g c =
    rw (c.push_subsecond.ensures.text, c.push_two-then-fraction-ge-NANOS_PER_SEC.ensures, c.push-2.ensures, c.push_two-2.ensures, c.push.ensures, c.push_two.ensures, le-leb nanos_per_second c.args.fraction c.if-fraction-ge-NANOS_PER_SEC.true) (simp append_assoc refl)

pub returns-then-fraction-ge-NANOS_PER_SEC-clause-fits : goal.returns-then-fraction-ge-NANOS_PER_SEC-clause-fits
returns-then-fraction-ge-NANOS_PER_SEC-clause-fits g c = omega (arith, length-append {A = ℕ}, ap length c.push_two.ensures, ap length c.push.ensures, ap length c.push_two-2.ensures, ap length c.push-2.ensures, ap length c.push_two-then-fraction-ge-NANOS_PER_SEC.ensures, c.push_subsecond.ensures.fits)

pub push_two-requires-3 : goal.push_two-requires-3
push_two-requires-3 g c = (search rules, (omega arith, omega (arith, length-append {A = ℕ}, ap length c.push_two.ensures, ap length c.push.ensures, ap length c.push_two-2.ensures, ap length c.push-2.ensures)))

pub push_subsecond-requires-2 : goal.push_subsecond-requires-2
push_subsecond-requires-2 g c = (search rules, (omega arith, omega (arith, length-append {A = ℕ}, ap length c.push_two.ensures, ap length c.push.ensures, ap length c.push_two-2.ensures, ap length c.push-2.ensures, ap length c.push_two-3.ensures)))

pub returns-clause-text : goal.returns-clause-text
returns-clause-text g c =
    rw (c.push_subsecond-2.ensures.text, c.push_two-3.ensures, c.push-2.ensures, c.push_two-2.ensures, c.push.ensures, c.push_two.ensures, lt-leb nanos_per_second c.args.fraction c.if-fraction-ge-NANOS_PER_SEC.false) (simp append_assoc refl)

pub returns-clause-fits : goal.returns-clause-fits
returns-clause-fits g c = omega (arith, length-append {A = ℕ}, ap length c.push_two.ensures, ap length c.push.ensures, ap length c.push_two-2.ensures, ap length c.push-2.ensures, ap length c.push_two-3.ensures, c.push_subsecond-2.ensures.fits)

pub returns-clause-ascii : goal.returns-clause-ascii
returns-clause-ascii g c = IsAscii-clock_text c.args.hour c.args.minute c.args.second c.args.fraction c.requires.hour c.requires.minute c.requires.second c.requires.fraction

pub returns-then-fraction-ge-NANOS_PER_SEC-clause-ascii : goal.returns-then-fraction-ge-NANOS_PER_SEC-clause-ascii
returns-then-fraction-ge-NANOS_PER_SEC-clause-ascii g c = IsAscii-clock_text c.args.hour c.args.minute c.args.second c.args.fraction c.requires.hour c.requires.minute c.requires.second c.requires.fraction
