use Rattle.std.proofs.Common.{pos}
use Rattle.layers_c.proofs.holidays.calendar_holidays_check.Goals as goal

pub returns-in-Some-clause-every : goal.returns-in-Some-clause-every
returns-in-Some-clause-every c = λ is. absurd (c.in-Some.ensures.place.none (is.are_holidays.dates c.in-Some.place (pos 0) c.in-Some.ensures.place.within))
