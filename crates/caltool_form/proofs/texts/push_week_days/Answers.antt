use Rattle.std.proofs.Common.{ℕ, length, length-append, append_assoc, ap, refl, arith, rules}
use Rattle.caltool_form.specs.Answers.{week_line}
use Rattle.caltool_form.proofs.texts.push_week_days.Goals as goal

pub push_date_or_none-requires-2 : goal.push_date_or_none-requires-2
push_date_or_none-requires-2 g c = (search rules, omega (arith, length-append {A = ℕ}, c.push_date_or_none.ensures.fits, ap length c.push_text.ensures))

pub returns-clause-text : goal.returns-clause-text
unfolding week_line
returns-clause-text g c = rw (c.push_date_or_none-2.ensures.text, c.push_text.ensures, c.push_date_or_none.ensures.text, c.week-first.ensures.first, c.week-first.ensures.last) (simp append_assoc refl)

pub returns-clause-fits : goal.returns-clause-fits
returns-clause-fits g c = omega (arith, length-append {A = ℕ}, c.push_date_or_none.ensures.fits, ap length c.push_text.ensures, c.push_date_or_none-2.ensures.fits)
