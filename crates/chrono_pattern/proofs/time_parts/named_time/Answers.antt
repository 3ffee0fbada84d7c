use Rattle.std.proofs.Common.{◌+◌, ◌/◌, ◌%◌}
use Rattle.std.proofs.lemmas.Option.{none-some, same_Some}
use Rattle.chrono_datetime.specs.Duration.{nanos_per_second}
use Rattle.chrono_datetime.specs.Time.{hour_of, minute_of, second_of}
use Rattle.chrono_pattern.proofs.TimePartLemmas.{half_is, hour_is, minute_is, nanos_count, second_counts, time_of_parts}
use Rattle.chrono_pattern.proofs.time_parts.named_time.Goals as goal

pub returns-in_err-half-clause-every : goal.returns-in_err-half-clause-every
returns-in_err-half-clause-every c = λ t clock named fits. absurd (none-some _ (c.in_err-half.ensures.every (hour_of t / 12) (half_is c.args.parts t named fits)))

pub returns-in_err-hour-clause-every : goal.returns-in_err-hour-clause-every
returns-in_err-hour-clause-every c = λ t clock named fits. absurd (none-some _ (c.in_err-hour.ensures.every (hour_of t % 12) (hour_is c.args.parts t named fits)))

pub returns-in_err-minute-clause-every : goal.returns-in_err-minute-clause-every
returns-in_err-minute-clause-every c = λ t clock named fits. absurd (none-some _ (c.in_err-minute.ensures.every (minute_of t) (minute_is c.args.parts t named fits)))

pub returns-in_err-second-clause-every : goal.returns-in_err-second-clause-every
returns-in_err-second-clause-every c = λ t clock named fits.
    absurd (none-some _ (c.in_err-second.ensures.every (second_of t + t.fraction / nanos_per_second) (second_counts c.args.parts t fits)))

pub returns-in_err-nanos-clause-every : goal.returns-in_err-nanos-clause-every
returns-in_err-nanos-clause-every c = λ t clock named fits.
    absurd (none-some _ (c.in_err-nanos.ensures.every (t.fraction % nanos_per_second) (nanos_count c.args.parts t fits)))

pub returns-clause-every : goal.returns-clause-every
returns-clause-every c = λ t clock named fits.
    let parts = c.args.parts in
    c.clock_time.ensures.every t clock
    (same_Some _ _ (c.in_ok-half.ensures.every (hour_of t / 12) (half_is parts t named fits)))
    (same_Some _ _ (c.in_ok-hour.ensures.every (hour_of t % 12) (hour_is parts t named fits)))
    (same_Some _ _ (c.in_ok-minute.ensures.every (minute_of t) (minute_is parts t named fits)))
    (same_Some _ _ (c.in_ok-second.ensures.every (second_of t + t.fraction / nanos_per_second) (second_counts parts t fits)))
    (same_Some _ _ (c.in_ok-nanos.ensures.every (t.fraction % nanos_per_second) (nanos_count parts t fits)))

pub returns-clause-fits : goal.returns-clause-fits
returns-clause-fits c =
    let found = c.clock_time.ensures in
    time_of_parts c.args.parts _ _ _ _ _ c.clock_time.result
    (record { half = found.half; hour = found.hour; minute = found.minute; second = found.second; nanos = found.nanos })
    c.in_ok-half.ensures.value c.in_ok-hour.ensures.value c.in_ok-minute.ensures.value c.in_ok-second.ensures.value c.in_ok-nanos.ensures.value
