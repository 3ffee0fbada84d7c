use Rattle.std.proofs.Common.{◌↔◌, IsTrue, subst}
use Rattle.chrono_zoned.specs.HeldSeconds.{HoldsAt}
use Rattle.chrono_zoned.specs.Zoned.{Zoned}
use Rattle.zoned_rules.specs.ZonedMemberLists.{HasSecond}
use Rattle.layers_c.proofs.calendar_texts.has_by.Goals as goal

pub returns-in-Ok-clause-instance : goal.returns-in-Ok-clause-instance
returns-in-Ok-clause-instance g c = λ shows some. record {
  set = c.in-Ok.set;
  meant = c.in-Ok.ensures.meant;
  is =
      subst (λ (d : Zoned g.row.Z.Denot). IsTrue c.is_instance.result ↔ HoldsAt (HasSecond g.Z.TimeZone.ahead c.in-Ok.set) d.utc) c.in-Some.ensures.value
      c.is_instance.ensures;
}
