use Rattle.std.proofs.Common.{length, subst}
use Rattle.chrono_zoned.specs.Zoned.{Zoned}
use Rattle.layers_c.specs.Calendars.{AreInstantsUpTo}
use Rattle.layers_c.proofs.calendar_texts.write_by.Goals as goal

pub returns-in-Ok-clause-instants : goal.returns-in-Ok-clause-instants
returns-in-Ok-clause-instants g c = λ shows some.
    let written = c.write_members.ensures.instants in
    record {
      set = c.in-Ok.set;
      meant = c.in-Ok.ensures.meant;
      moments = written.0;
      numbers_are = written.1;
      listed =
          subst (λ (d : Zoned g.row.Z.Denot). AreInstantsUpTo g.Z.TimeZone.ahead c.in-Ok.set d.utc c.args.until (length c.args.out.now) written.0) c.in-Some.ensures.value
          written.2;
    }
