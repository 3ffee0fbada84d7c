use Rattle.std.proofs.Common.{ℕ, ◌-◌, ◌%◌, ◌==◌, ◌||◌, Bool, ap, sym, ◌∙◌, arith, eq-eqb, ne_eqb}
use Rattle.chrono_sets.specs.FiniteSets.{has}
use Rattle.chrono_sets.specs.Steps.{is_by_steps}
use Rattle.chrono_sets.proofs.Members.{has-no_numbers}
use Rattle.chrono_sets.proofs.Steps.{is_by_steps-true, none_yet, passed, is_by_steps-false, taken, all_passed}
use Rattle.chrono_sets.proofs.number_set.NumberSet.by_steps.Goals as goal
use Rattle.chrono_sets.proofs.number_set.NumberSet.by_steps.Goals.{then-number-first-eq0, else-number-first-eq0}

pub loop-number-init : goal.loop-number-init
loop-number-init c =
    (omega arith, λ k. ap (λ s. has s k) c.none-set.ensures ∙ has-no_numbers k ∙ sym (none_yet c.args.first c.args.last c.args.step k))

pub loop-number-preserved : goal.loop-number-preserved
loop-number-preserved c =
    let first = c.args.first in
    let last = c.args.last in
    let step = c.args.step in
    let n = c.loop-number.number in
    let low = c.loop-number.invariant.0 in
    let so_far = c.loop-number.invariant.1 in
    let p : ℕ → Bool = is_by_steps first last step in (
      omega (arith, low),
      elim c.if-number-first-eq0.branch [
        | then-number-first-eq0 w ↦ λ k.
            ap (λ s. has s k) w.set-is ∙ w.with-set.ensures.members k ∙ ap (λ b. b || (k == n)) (so_far k)
            ∙ taken p n k (is_by_steps-true first last step n low (omega (arith, c.loop-number-test.true)) (eq-eqb ((n - first) % step) 0 w.if-number-first-eq0.true))
        | else-number-first-eq0 w ↦ λ k.
            ap (λ s. has s k) w.set-is ∙ so_far k
            ∙ passed p n k (is_by_steps-false first last step n (ne_eqb ((n - first) % step) 0 w.if-number-first-eq0.false))
      ],
    )

pub returns : goal.returns
returns c = λ k. c.loop-number.invariant.1 k ∙ all_passed c.args.first c.args.last c.args.step c.loop-number.number k (omega (arith, c.loop-number-test.false))
