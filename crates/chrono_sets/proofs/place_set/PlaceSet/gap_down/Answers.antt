use Rattle.std.proofs.Common.{arith}
use Rattle.chrono_sets.proofs.WordDigits.{word-down, word_member-down}
use Rattle.chrono_sets.proofs.place_set.PlaceSet.gap_down.Goals as goal

pub returns-clause-left_out : goal.returns-clause-left_out
returns-clause-left_out c =
    rw (← c.self.view_is) (λ j lt. word-down c.self.inside.words c.args.from j c.self.invariant (omega (arith, lt, c.min.ensures)) (omega (arith, lt, c.min.ensures)))

pub returns-clause-member : goal.returns-clause-member
returns-clause-member c =
    rw (← c.self.view_is) (λ lt. word_member-down c.self.inside.words c.args.from c.min.result c.self.invariant (omega (arith, lt, c.min.ensures)) lt)
