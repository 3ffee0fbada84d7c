use Rattle.std.proofs.Common.{ap, ◌∙◌, refl, sym}
use Rattle.numbers_c.specs.DateTimes.{duration_from_c}
use Rattle.numbers_c.proofs.DateTimeLemmas.{duration_for_c-again, duration_from_c-none}
use Rattle.numbers_c.proofs.date_time_numbers.duration_or_none.Goals as goal

pub returns-in-Some-clause-named : goal.returns-in-Some-clause-named
returns-in-Some-clause-named c =
    ap duration_from_c c.duration_for_c.ensures.numbers ∙ duration_for_c-again _ c.duration_for_c.ensures.in_range ∙ sym c.in-Some.is

pub returns-in-None-clause-named : goal.returns-in-None-clause-named
returns-in-None-clause-named c = duration_from_c-none _ refl ∙ sym c.in-None.is
