use Rattle.std.proofs.Common.{Option, subst, sym}
use Rattle.chrono_zoned.specs.Zoned.{IsOnlyLocalIf, Zoned}
use Rattle.chrono_zoned.proofs.MappedLemmas.{IsOnlyLocalIf-single}
use Rattle.chrono_zoned.proofs.date_time.moves.only_local.Goals as goal

pub returns : goal.returns
returns g c =
    subst (λ (found : Option (Zoned g.row.Z.Denot)). IsOnlyLocalIf g.Z.TimeZone.ahead c.args.zone c.args.local found) (sym c.single.ensures)
    (IsOnlyLocalIf-single g.Z.TimeZone.ahead c.args.zone c.args.local c.all_local.result c.all_local.ensures)
