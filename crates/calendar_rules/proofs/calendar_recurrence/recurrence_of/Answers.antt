use Rattle.std.proofs.Common.{ap, inl, inr, length}
use Rattle.std.proofs.lemmas.Bool.{false≢true}
use Rattle.calendar_text.specs.Lines.{text_in}
use Rattle.calendar_text.specs.TextParts.{parts_read}
use Rattle.zoned_rules.specs.LocalTimes.{LocalParts}
use Rattle.calendar_rules.specs.Recurrences.{MeansNoneWithin}
use Rattle.calendar_rules.proofs.RuleFits.{fits_zone, of_error}
use Rattle.calendar_rules.proofs.calendar_recurrence.recurrence_of.Goals as goal

pub returns-clause-means : goal.returns-clause-means
returns-clause-means g c =
    let made = c.in-Some-in_zone.ensures in
    record {
      start = c.in-Some.start;
      begins = c.in-Some.ensures.some;
      rule = c.in-Ok.rule;
      written = c.in-Ok.ensures.rule;
      days = ap (λ (l : LocalParts). l.days) made.rule;
      times = ap (λ (l : LocalParts). l.times) made.rule;
      from = ap (λ (l : LocalParts). l.start) made.rule;
      steps = ap (λ (l : LocalParts). l.steps) made.rule;
      bound = made.bound;
      in_zone = made.zone;
      dates = c.in_ok-date_count.ensures.instants;
      exceptions = c.in_ok-exception_count.ensures.instants;
    }

pub returns-in_default-in_zone-clause-none : goal.returns-in_default-in_zone-clause-none
returns-in_default-in_zone-clause-none g c = λ s means.
    absurd (false≢true (c.in_default-in_zone.ensures.exists.1 (fits_zone (text_in c.args.calendar.rule) c.in-Ok.rule c.in-Ok.ensures.rule)))

pub returns-in_err-exception_count-clause-none : goal.returns-in_err-exception_count-clause-none
returns-in_err-exception_count-clause-none g c =
    of_error c.from_residual-in_err-exception_count.result
    (MeansNoneWithin g.Z.TimeZone.ahead c.args.zone (parts_read c.args.calendar) (length c.args.dates.now) (length c.args.exceptions.now))
    (λ s means. inr (c.in_err-exception_count.ensures.none s.exceptions.now means.exceptions))

pub returns-in_default-in_zone-clause-fault : goal.returns-in_default-in_zone-clause-fault
returns-in_default-in_zone-clause-fault g c =
    absurd (false≢true (c.in_default-in_zone.ensures.exists.1 (fits_zone (text_in c.args.calendar.rule) c.in-Ok.rule c.in-Ok.ensures.rule)))

pub returns-in_err-date_count-clause-none : goal.returns-in_err-date_count-clause-none
returns-in_err-date_count-clause-none g c =
    of_error c.from_residual.result
    (MeansNoneWithin g.Z.TimeZone.ahead c.args.zone (parts_read c.args.calendar) (length c.args.dates.now) (length c.args.exceptions.now))
    (λ s means. inl (c.in_err-date_count.ensures.none s.dates.now means.dates))
