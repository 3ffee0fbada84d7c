use Rattle.std.proofs.Common.{◌≡◌, ◌≢◌, Bool, true, false, refl, sym, ◌∙◌, ℤ, pos, neg_ℤ}
use Rattle.std.specs.Ordering.{int_eq}
use Rattle.std.proofs.lemmas.Bool.{false≢true}
use Rattle.std.proofs.lemmas.Bool.Decides.{Decides-int_eq}
use Rattle.chrono_columns.proofs.law.known_text_entries.Goals as goal

pub returns-clause-leap_day : goal.returns-clause-leap_day
returns-clause-leap_day c = λ n is. is.every (pos 738_945) c.known_texts_of_dates.ensures.leap_day

-- two numbers that cannot differ are the same
same : (b : Bool) (n m : ℤ) → int_eq n m ≡ b → (n ≢ m → ⊥) → n ≡ m
same true n m e h = (Decides-int_eq n m).0 e
same false n m e h = absurd (h (λ equal. false≢true (sym e ∙ (Decides-int_eq n m).1 equal)))

pub returns-clause-no_leap_day : goal.returns-clause-no_leap_day
returns-clause-no_leap_day c = λ n is.
    same (int_eq n (neg_ℤ (pos 2_147_483_648))) n (neg_ℤ (pos 2_147_483_648)) refl (λ other. c.known_texts_of_dates.ensures.no_leap_day n (is.read other))
