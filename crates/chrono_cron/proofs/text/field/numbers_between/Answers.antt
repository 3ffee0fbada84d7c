use Rattle.std.proofs.Common.{◌≡◌, ◌-◌, ◌%◌, ◌==◌, ◌<◌, ◌&&◌, ℕ, false, refl, ap, sym, ◌∙◌, arith, inl, inr}
use Rattle.std.specs.Prelude.{nat_le}
use Rattle.std.proofs.lemmas.Bool.{and_right, cases_lt, lt-leb}
use Rattle.chrono_sets.specs.FiniteSets.{has}
use Rattle.chrono_sets.specs.Steps.{is_by_steps}
use Rattle.chrono_sets.proofs.Members.{has-no_numbers}
use Rattle.chrono_cron.proofs.text.field.numbers_between.Goals as goal

-- no number is from the first to a last one below it
none : (first last k : ℕ) → last < first → is_by_steps first last 1 k ≡ false
none first last k less = elim (cases_lt k first) [
  | inl before ↦ ap (λ a. a && (nat_le k last && ((k - first) % 1 == 0))) (lt-leb first k before)
  | inr from ↦ ap (λ b. nat_le first k && (b && ((k - first) % 1 == 0))) (lt-leb k last (omega (arith, less, from))) ∙ and_right (nat_le first k) (false && ((k - first) % 1 == 0)) refl
]

pub returns-then-last-first : goal.returns-then-last-first
returns-then-last-first c = λ k.
    ap (λ s. has s k) c.none.ensures ∙ has-no_numbers k ∙ sym (none c.args.first c.args.last k (omega (arith, c.if-last-first.true)))
