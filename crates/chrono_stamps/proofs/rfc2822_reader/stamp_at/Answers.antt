use Rattle.std.proofs.Common.{Option, subst, sym, ℤ}
use Rattle.std.specs.Prelude.{IsSomeAnd}
use Rattle.chrono_zoned.specs.Zoned.{Zoned}
use Rattle.chrono_stamps.proofs.StampLemmas.{IsFound, one_instant}
use Rattle.chrono_stamps.proofs.rfc2822_reader.stamp_at.Goals as goal

pub returns-clause-every : goal.returns-clause-every
returns-clause-every c = λ there.
    subst (λ (r : Option (Zoned ℤ)). IsSomeAnd r (IsFound c.args.local c.args.offset)) (sym c.single.ensures) (one_instant c.args.local c.args.offset c.from_local_datetime.result there c.from_local_datetime.ensures)
