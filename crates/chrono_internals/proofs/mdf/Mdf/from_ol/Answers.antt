use Rattle.std.proofs.Common.{arith}
use Rattle.chrono_internals.proofs.MonthDays.{ol_adjustment-stored, month_day_stored-parts}
use Rattle.chrono_internals.proofs.mdf.Mdf.from_ol.Goals as goal

pub invariant_of-result : goal.invariant_of-result
invariant_of-result c =
    let stored = ol_adjustment-stored c.args.ol c.args.flags c.requires.ol c.requires.length c.bits.ensures.in_range in
    (omega arith, ((omega arith, omega arith), (λ e. omega arith)))

pub returns : goal.returns
returns c =
    let stored = ol_adjustment-stored c.args.ol c.args.flags c.requires.ol c.requires.length c.bits.ensures.in_range in
    month_day_stored-parts _ _ _ _ (omega arith) (omega arith) (omega arith)
