use Rattle.std.proofs.Common.{Option, Some, ap, ◌∙◌, refl}
use Rattle.std.specs.Option.{option_map}
use Rattle.chrono_datetime.specs.Moment.{Moment}
use Rattle.numbers_c.specs.DateTimes.{moment_from_c, time_from_c, time_or_none}
use Rattle.numbers_c.proofs.DateTimeLemmas.{time_of_moment-again}
use Rattle.calendar_c.proofs.times.calendar_date_time_time.Goals as goal

pub returns-in-Some-clause-named : goal.returns-in-Some-clause-named
returns-in-Some-clause-named c =
    ap time_from_c (c.time_or_none.ensures ∙ ap (λ t. time_or_none (Some t)) c.time.ensures ∙ ap (λ (o : Option Moment). time_or_none (option_map (λ m. m.time) o)) c.in-Some.ensures)
    ∙ time_of_moment-again c.args.moment (moment_from_c c.args.moment) refl

pub returns-in-None-clause-named : goal.returns-in-None-clause-named
returns-in-None-clause-named c =
    ap time_from_c (c.time_or_none-in-None.ensures ∙ ap (λ (o : Option Moment). time_or_none (option_map (λ m. m.time) o)) c.in-None.ensures)
    ∙ time_of_moment-again c.args.moment (moment_from_c c.args.moment) refl
