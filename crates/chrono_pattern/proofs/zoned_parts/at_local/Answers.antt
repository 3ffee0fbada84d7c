use Rattle.chrono_pattern.proofs.ZonedPartLemmas.{found_as, not_none, of_utc, same_instant, shows_date, there}
use Rattle.chrono_pattern.proofs.zoned_parts.at_local.Goals as goal

pub returns-in_err-utc-clause-every : goal.returns-in_err-utc-clause-every
returns-in_err-utc-clause-every c = λ d i zone shown.
    absurd (not_none c.checked_sub_offset.result (c.checked_sub_offset.ensures.exists.1 (there c.args.local d c.args.offset i zone shown)) c.in_err-utc.was)

pub returns-clause-utc : goal.returns-clause-utc
returns-clause-utc c = of_utc c.from_utc_datetime.result _ _ c.from_utc_datetime.ensures.value c.in_ok-utc.ensures.value.exists

pub returns-clause-every : goal.returns-clause-every
returns-clause-every c = λ d i zone shown.
    let shifted = c.in_ok-utc.ensures.value in
    found_as c.from_utc_datetime.result _ d c.from_utc_datetime.ensures.value
    (c.from_utc_datetime.ensures.exists.1 (shows_date c.in_ok-utc.utc c.args.local c.args.offset c.checked_sub_offset.ensures.start shifted))
    (same_instant c.in_ok-utc.utc c.args.local d c.args.offset i zone shown shifted)
