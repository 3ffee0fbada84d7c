use Rattle.std.proofs.Common.{Some, ap, ◌∙◌, w32}
use Rattle.std.proofs.lemmas.Int.{to_z-of_z}
use Rattle.chrono_datetime.specs.Moment.{moment}
use Rattle.numbers_c.proofs.DateTimeLemmas.{moment_at-Some, moment_at-no_date, moment_at-no_time}
use Rattle.numbers_c.proofs.date_time_numbers.date_time_at.Goals as goal

pub returns-in_err-time : goal.returns-in_err-time
returns-in_err-time c =
    c.from_residual.ensures ∙ moment_at-no_time c.args.day c.args.second c.args.nanos c.in_err-time.ensures

pub returns-in_err-date : goal.returns-in_err-date
returns-in_err-date c =
    c.from_residual-in_err-date.ensures
    ∙ moment_at-no_date c.args.day c.args.second c.args.nanos (rw (to_z-of_z w32 c.args.day c.ranges.day) at c.in_err-date.ensures.date)

pub returns : goal.returns
returns c =
    ap Some (c.new.ensures ∙ ap (moment c.in_ok-date.date) c.in_ok-time.ensures.1)
    ∙ moment_at-Some c.args.day c.in_ok-date.date c.args.second c.args.nanos c.in_ok-time.ensures.0 (rw (to_z-of_z w32 c.args.day c.ranges.day) at c.in_ok-date.ensures.date)
