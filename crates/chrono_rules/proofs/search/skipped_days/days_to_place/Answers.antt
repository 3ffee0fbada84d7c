use Rattle.std.proofs.Common.{arith}
use Rattle.chrono_rules.proofs.Skipped.{other_place}
use Rattle.chrono_rules.proofs.search.skipped_days.days_to_place.Goals as goal

pub returns-then-place-here-clause-passed : goal.returns-then-place-here-clause-passed
returns-then-place-here-clause-passed c = λ d low high.
    other_place c.args.day d _ c.args.place low high (omega arith) (λ ahead. omega (arith, ahead))

pub returns-clause-passed : goal.returns-clause-passed
returns-clause-passed c = λ d low high.
    other_place c.args.day d _ c.args.place low high (omega arith) (λ ahead. omega (arith, ahead))
