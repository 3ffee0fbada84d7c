use Rattle.std.proofs.Common.{refl}
use Rattle.layers_c.proofs.CalendarLemmas.{none_anywhere, none_here}
use Rattle.layers_c.proofs.calendar_texts.last_instant.Goals as goal

pub returns-clause-last : goal.returns-clause-last
returns-clause-last c = λ shows some. record {
  zone = c.args.zone;
  zone_is = refl;
  last = c.last_by.ensures.last shows (λ none. some (none_anywhere c.args.text.now c.args.zone none));
}

pub returns-clause-no_text : goal.returns-clause-no_text
returns-clause-no_text c = λ none. c.last_by.ensures.no_text (none_here c.args.text.now c.args.zone none)
