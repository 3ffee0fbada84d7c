use Rattle.std.proofs.Common.{append_assoc, refl, rules, arith}
use Rattle.caltool_form.proofs.texts.push_set_and_walk.Goals as goal

pub push_spaced_days-requires : goal.push_spaced_days-requires
push_spaced_days-requires g c = (search rules, omega (arith, c.push_set.ensures.fits))

pub returns-clause-text : goal.returns-clause-text
returns-clause-text g c = rw (c.push_spaced_days.ensures.text, c.push_set.ensures.text) (simp append_assoc refl)

pub returns-clause-fits : goal.returns-clause-fits
returns-clause-fits g c = omega (arith, c.push_set.ensures.fits, c.push_spaced_days.ensures.fits)
