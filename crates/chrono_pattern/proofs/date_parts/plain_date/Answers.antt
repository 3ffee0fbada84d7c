use Rattle.chrono_pattern.proofs.DatePartLemmas.{calendar_fits, calendar_named, calendar_only}
use Rattle.chrono_pattern.proofs.date_parts.plain_date.Goals as goal

pub returns-clause-named : goal.returns-clause-named
returns-clause-named c =
    let found = c.date_named in
    calendar_named c.args.parts.now found.result found.ensures.year found.ensures.month found.ensures.day

pub returns-clause-fits : goal.returns-clause-fits
returns-clause-fits c =
    let found = c.date_named in
    calendar_fits c.args.parts.now found.result (c.is_calendar_alone.ensures c.if-not-is_calendar_alone.false) found.ensures.year found.ensures.month found.ensures.day

pub returns-clause-only : goal.returns-clause-only
returns-clause-only c =
    let found = c.date_named in
    calendar_only c.args.parts.now found.result found.ensures.year found.ensures.month found.ensures.day found.ensures.date
