use Rattle.std.proofs.Common.{◌∙◌, sym}
use Rattle.chrono_stamps.proofs.DateFormLemmas.{by_form, calendar_or_ordinal, calendar_or_week, ordinal_or_week}
use Rattle.chrono_stamps.proofs.iso8601_reader.iso_date.Goals as goal

pub returns-in-Ok-clause-every : goal.returns-in-Ok-clause-every
returns-in-Ok-clause-every c = λ n is. by_form c.args.text.now n is
    (λ date. sym c.in-Ok.is ∙ c.read_date.ensures.every n date)
    (λ ordinal. absurd (calendar_or_ordinal c.args.text.now c.in-Ok.date n c.in-Ok.ensures.read ordinal))
    (λ week. absurd (calendar_or_week c.args.text.now c.in-Ok.date n c.in-Ok.ensures.read week))

pub returns-in-Ok-read_ordinal_date-clause-every : goal.returns-in-Ok-read_ordinal_date-clause-every
returns-in-Ok-read_ordinal_date-clause-every c = λ n is. by_form c.args.text.now n is
    (λ date. absurd (calendar_or_ordinal c.args.text.now n c.in-Ok-read_ordinal_date.date date c.in-Ok-read_ordinal_date.ensures.read))
    (λ ordinal. sym c.in-Ok-read_ordinal_date.is ∙ c.read_ordinal_date.ensures.every n ordinal)
    (λ week. absurd (ordinal_or_week c.args.text.now c.in-Ok-read_ordinal_date.date n c.in-Ok-read_ordinal_date.ensures.read week))

pub returns-in-Ok-read_week_date-clause-every : goal.returns-in-Ok-read_week_date-clause-every
returns-in-Ok-read_week_date-clause-every c = λ n is. by_form c.args.text.now n is
    (λ date. absurd (calendar_or_week c.args.text.now n c.in-Ok-read_week_date.date date c.in-Ok-read_week_date.ensures.read))
    (λ ordinal. absurd (ordinal_or_week c.args.text.now n c.in-Ok-read_week_date.date ordinal c.in-Ok-read_week_date.ensures.read))
    (λ week. sym c.in-Ok-read_week_date.is ∙ c.read_week_date.ensures.every n week)

pub returns-clause-every : goal.returns-clause-every
returns-clause-every c = λ n is. by_form c.args.text.now n is
    (λ date. let found = c.read_date.ensures.every n date in absurd (cc (c.in-Err.is, found)))
    (λ ordinal. let found = c.read_ordinal_date.ensures.every n ordinal in absurd (cc (c.in-Err-read_ordinal_date.is, found)))
    (λ week. let found = c.read_week_date.ensures.every n week in absurd (cc (c.in-Err-read_week_date.is, found)))
