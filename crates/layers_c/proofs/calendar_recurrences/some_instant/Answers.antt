use Rattle.std.proofs.Common.{arith, pos}
use Rattle.chrono_calendar.proofs.Signed.{signed}
use Rattle.layers_c.proofs.calendar_recurrences.some_instant.Goals as goal

pub unwrap-requires : goal.unwrap-requires
unwrap-requires g c =
    let near = c.stretch_from.ensures.near (pos 0) in
    c.timestamp_opt.ensures.exists.1 ((omega (arith, signed), omega (arith, signed)), (omega arith, λ leap. absurd (omega (arith, leap))), (omega (arith, signed, near), omega (arith, signed, near)))
