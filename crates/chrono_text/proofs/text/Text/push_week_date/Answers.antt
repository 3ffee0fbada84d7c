use Rattle.std.proofs.Common.{ℕ, length, length-append, append_assoc, ap, refl, rules, arith, w32}
use Rattle.std.proofs.lemmas.Int.{to_z-of_z}
use Rattle.chrono_text.proofs.AsciiTexts.{IsAscii-week_date_text}
use Rattle.chrono_text.proofs.text.Text.push_week_date.Goals as goal

pub push-requires : goal.push-requires
push-requires g c = (search rules, omega (arith, c.push_week.ensures.fits))

pub push-requires-2 : goal.push-requires-2
push-requires-2 g c = (search rules, omega (arith, length-append {A = ℕ}, c.push_week.ensures.fits, ap length c.push.ensures))

pub returns-clause-text : goal.returns-clause-text
returns-clause-text g c = rw (c.push-2.ensures, c.push.ensures, c.push_week.ensures.text, to_z-of_z w32 c.args.year c.ranges.year) (simp append_assoc refl)

pub returns-clause-ascii : goal.returns-clause-ascii
returns-clause-ascii g c = IsAscii-week_date_text c.args.year c.args.week c.args.weekday (omega (arith, c.requires.year)) c.requires.week c.requires.weekday

pub returns-clause-fits : goal.returns-clause-fits
returns-clause-fits g c = omega (arith, length-append {A = ℕ}, c.push_week.ensures.fits, ap length c.push.ensures, ap length c.push-2.ensures)
