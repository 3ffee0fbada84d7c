use Rattle.std.proofs.Common.{refl}
use Rattle.layers_c.proofs.CalendarLemmas.{none_anywhere, none_here}
use Rattle.layers_c.proofs.calendar_texts.has_instant.Goals as goal

pub returns-clause-instance : goal.returns-clause-instance
returns-clause-instance c = λ shows some. record {
  zone = c.args.zone;
  zone_is = refl;
  answers = c.has_by.ensures.instance shows (λ none. some (none_anywhere c.args.text.now c.args.zone none));
}

pub returns-clause-no_text : goal.returns-clause-no_text
returns-clause-no_text c = λ none. c.has_by.ensures.no_text (none_here c.args.text.now c.args.zone none)
