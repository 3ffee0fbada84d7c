use Rattle.std.proofs.Common.{refl}
use Rattle.layers_c.proofs.CalendarLemmas.{none_anywhere, none_here}
use Rattle.layers_c.proofs.calendar_texts.next_instant.Goals as goal

pub returns-clause-next : goal.returns-clause-next
returns-clause-next c = λ shows some. record {
  zone = c.args.zone;
  zone_is = refl;
  next = c.next_by.ensures.next shows (λ none. some (none_anywhere c.args.text.now c.args.zone none));
}

pub returns-clause-no_text : goal.returns-clause-no_text
returns-clause-no_text c = λ none. c.next_by.ensures.no_text (none_here c.args.text.now c.args.zone none)
