use Rattle.std.proofs.Common.{ℕ, length, length-append, append_assoc, ap, refl, arith, rules}
use Rattle.caltool_form.proofs.texts.push_date_and_time.Goals as goal

pub push_time-requires : goal.push_time-requires
push_time-requires g c = (search rules, omega (arith, length-append {A = ℕ}, c.push_date.ensures.fits, ap length c.push_text.ensures))

pub returns-clause-text : goal.returns-clause-text
returns-clause-text g c = rw (c.push_time.ensures.text, c.push_text.ensures, c.push_date.ensures.text) (simp append_assoc refl)

pub returns-clause-fits : goal.returns-clause-fits
returns-clause-fits g c = omega (arith, length-append {A = ℕ}, c.push_date.ensures.fits, ap length c.push_text.ensures, c.push_time.ensures.fits)
