use Rattle.std.proofs.Common.{◌≡◌, ℕ, Some, ap, refl, arith}
use Rattle.std.proofs.lemmas.Option.{same_Some}
use Rattle.chrono_text.proofs.FractionLemmas.{IsCount-millis, IsCount-point, IsPointText-millis}
use Rattle.chrono_text.proofs.read.fraction.read_millis.Goals as goal

pub returns-in_err-millis-clause-every : goal.returns-in_err-millis-clause-every
returns-in_err-millis-clause-every c = λ n is.
    let count = IsCount-point _ n is in
    let millis = IsCount-millis _ n refl count in
    let none = c.in_err-millis.ensures.every count.count millis.0 millis.1 in cc

pub returns-clause-some : goal.returns-clause-some
returns-clause-some c =
    let some = c.in_ok-millis.ensures.some in
    (omega (arith, some.0), IsPointText-millis _ c.in_ok-millis.millis some.0 some.1)

pub returns-clause-every : goal.returns-clause-every
returns-clause-every c = λ n is.
    let count = IsCount-point _ n is in
    let millis = IsCount-millis _ n refl count in
    let found : c.in_ok-millis.millis ≡ count.count = same_Some _ _ (c.in_ok-millis.ensures.every count.count millis.0 millis.1) in
    ap (λ (k : ℕ). Some k) (rw found millis.2)
