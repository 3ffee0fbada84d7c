use Rattle.std.proofs.Common.{◌≡◌, ◌==◌, ◌+◌, ◌*◌, ◌/◌, ◌%◌, true, get_or, refl}
use Rattle.std.proofs.lemmas.Bool.{agree_below, agree_below_at, eqb-true}
use Rattle.chrono_text.specs.declared.digits.TheConstants.{TWO_DIGITS}
use Rattle.chrono_text.proofs.digits.codes_of_two.Goals as goal

tens_tested : agree_below (λ n. get_or TWO_DIGITS (2 * n) 0 == 48 + n / 10) (λ n. true) 100 ≡ true
tens_tested = refl

ones_tested : agree_below (λ n. get_or TWO_DIGITS (2 * n + 1) 0 == 48 + n % 10) (λ n. true) 100 ≡ true
ones_tested = refl

pub returns-clause-tens : goal.returns-clause-tens
returns-clause-tens c = eqb-true _ _ (agree_below_at (λ n. get_or TWO_DIGITS (2 * n) 0 == 48 + n / 10) (λ n. true) 100 c.args.n tens_tested c.requires)

pub returns-clause-ones : goal.returns-clause-ones
returns-clause-ones c = eqb-true _ _ (agree_below_at (λ n. get_or TWO_DIGITS (2 * n + 1) 0 == 48 + n % 10) (λ n. true) 100 c.args.n ones_tested c.requires)
