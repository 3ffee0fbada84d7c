use Rattle.std.proofs.Common.{List, ℕ, ap, arith, length}
use Rattle.zone_text.proofs.name.read_name.Goals as goal

pub returns-then-name-lt-SHORTEST_NAME-clause-every : goal.returns-then-name-lt-SHORTEST_NAME-clause-every
returns-then-name-lt-SHORTEST_NAME-clause-every c = λ name rest is.
    omega (arith, ap (λ (l : List ℕ). length l) (c.split_name.ensures.every name rest is).0, is.long, c.if-name-lt-SHORTEST_NAME.true)
