use Rattle.std.proofs.Common.{Some, None, subst, sym}
use Rattle.chrono_datetime.specs.Moment.{Moment}
use Rattle.chrono_zoned.specs.Zoned.{Zoned}
use Rattle.layers_c.specs.Calendars.{IsLastInstant}
use Rattle.layers_c.proofs.calendar_texts.last_by.Goals as goal

pub returns-in-Some-prev_before-clause-last : goal.returns-in-Some-prev_before-clause-last
returns-in-Some-prev_before-clause-last g c = λ shows some.
    let it = c.in-Some-prev_before in
    let found : IsLastInstant g.Z.TimeZone.ahead c.in-Ok.set c.in-Some.start.utc (Some it.last.utc) =
    record { member = it.ensures.member; earlier = it.ensures.earlier; greatest = it.ensures.greatest; none = tt } in
    record {
      set = c.in-Ok.set;
      meant = c.in-Ok.ensures.meant;
      last =
          subst (λ (m : Moment). IsLastInstant g.Z.TimeZone.ahead c.in-Ok.set c.args.start (Some m)) (sym c.naive_utc.ensures)
          (subst (λ (d : Zoned g.row.Z.Denot). IsLastInstant g.Z.TimeZone.ahead c.in-Ok.set d.utc (Some it.last.utc)) c.in-Some.ensures.value found);
    }

pub returns-in-Some-prev_before-clause-no_text : goal.returns-in-Some-prev_before-clause-no_text
returns-in-Some-prev_before-clause-no_text g c = λ none. absurd (none c.in-Ok.set c.in-Ok.ensures.meant)

pub returns-in-None-clause-last : goal.returns-in-None-clause-last
returns-in-None-clause-last g c = λ shows some.
    let found : IsLastInstant g.Z.TimeZone.ahead c.in-Ok.set c.in-Some.start.utc None = record { member = tt; earlier = tt; greatest = tt; none = c.in-None.ensures.none } in
    record {
      set = c.in-Ok.set;
      meant = c.in-Ok.ensures.meant;
      last = subst (λ (d : Zoned g.row.Z.Denot). IsLastInstant g.Z.TimeZone.ahead c.in-Ok.set d.utc None) c.in-Some.ensures.value found;
    }
