use Rattle.std.proofs.Common.{ap, ◌∙◌}
use Rattle.std.specs.Option.{option_and_then}
use Rattle.chrono_calendar.specs.Weeks.{date_of_nth_weekday}
use Rattle.numbers_c.specs.Answers.{or_none}
use Rattle.numbers_c.specs.Arguments.{weekday_numbered}
use Rattle.calendar_c.proofs.Ranges.{date_of_nth_weekday-far, none_number-exists}
use Rattle.calendar_c.proofs.names.calendar_from_weekday_of_month.Goals as goal

pub returns-in_default-try_from-clause-number : goal.returns-in_default-try_from-clause-number
returns-in_default-try_from-clause-number c =
    ap or_none (date_of_nth_weekday-far c.args.year c.args.month c.args.n c.in-Some.weekday c.in_default-try_from.ensures
    ∙ ap (option_and_then (λ d. date_of_nth_weekday c.args.year c.args.month d c.args.n)) c.in-Some.ensures)

pub returns-in_default-try_from-clause-exists : goal.returns-in_default-try_from-clause-exists
returns-in_default-try_from-clause-exists c =
    none_number-exists (option_and_then (λ d. date_of_nth_weekday c.args.year c.args.month d c.args.n) (weekday_numbered c.args.weekday))
    (date_of_nth_weekday-far c.args.year c.args.month c.args.n c.in-Some.weekday c.in_default-try_from.ensures
    ∙ ap (option_and_then (λ d. date_of_nth_weekday c.args.year c.args.month d c.args.n)) c.in-Some.ensures)
