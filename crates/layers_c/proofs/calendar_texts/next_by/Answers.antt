use Rattle.std.proofs.Common.{Some, None, subst, sym}
use Rattle.chrono_datetime.specs.Moment.{Moment}
use Rattle.chrono_zoned.specs.Zoned.{Zoned}
use Rattle.layers_c.specs.Calendars.{IsNextInstant}
use Rattle.layers_c.proofs.calendar_texts.next_by.Goals as goal

pub returns-in-Some-next_after-clause-next : goal.returns-in-Some-next_after-clause-next
returns-in-Some-next_after-clause-next g c = λ shows some.
    let it = c.in-Some-next_after in
    let found : IsNextInstant g.Z.TimeZone.ahead c.in-Ok.set c.in-Some.start.utc (Some it.found.utc) =
    record { member = it.ensures.member; later = it.ensures.later; least = it.ensures.least; none = tt } in
    record {
      set = c.in-Ok.set;
      meant = c.in-Ok.ensures.meant;
      next =
          subst (λ (m : Moment). IsNextInstant g.Z.TimeZone.ahead c.in-Ok.set c.args.start (Some m)) (sym c.naive_utc.ensures)
          (subst (λ (d : Zoned g.row.Z.Denot). IsNextInstant g.Z.TimeZone.ahead c.in-Ok.set d.utc (Some it.found.utc)) c.in-Some.ensures.value found);
    }

pub returns-in-Some-next_after-clause-no_text : goal.returns-in-Some-next_after-clause-no_text
returns-in-Some-next_after-clause-no_text g c = λ none. absurd (none c.in-Ok.set c.in-Ok.ensures.meant)

pub returns-in-None-clause-next : goal.returns-in-None-clause-next
returns-in-None-clause-next g c = λ shows some.
    let found : IsNextInstant g.Z.TimeZone.ahead c.in-Ok.set c.in-Some.start.utc None = record { member = tt; later = tt; least = tt; none = c.in-None.ensures.none } in
    record {
      set = c.in-Ok.set;
      meant = c.in-Ok.ensures.meant;
      next = subst (λ (d : Zoned g.row.Z.Denot). IsNextInstant g.Z.TimeZone.ahead c.in-Ok.set d.utc None) c.in-Some.ensures.value found;
    }
