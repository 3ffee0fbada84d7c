-- Numbers as weekdays, in two parts.
use Rattle.std.proofs.Common.{◌≡◌, ◌<◌, ℕ, suc, ℤ, pos, List, [], ◌∷◌, ◌++◌, length, get_or, take, drop, Option, Some, None, refl, ap, sym, ◌∙◌, take-append-drop, drop-cons}
use Rattle.chrono_units.specs.declared.weekday.Weekday.{Weekday}
use Rattle.caltool_command.specs.Types.{to_weekday}
use Rattle.caltool_command.specs.Commands.{◌·◌, weekdays}

-- the days of both parts
both : Option (List Weekday) → Option (List Weekday) → Option (List Weekday)
both front back = Some (λ ds es. ds ++ es) · front · back

both-none : (front : Option (List Weekday)) → both front None ≡ None
unfolding both
both-none None = refl
both-none (Some ds) = refl

onto_both : (day : Option Weekday) (front back : Option (List Weekday)) → Some (λ d ds. d ∷ ds) · day · both front back ≡ both (Some (λ d ds. d ∷ ds) · day · front) back
unfolding both
onto_both None front back = refl
onto_both (Some d) None back = refl
onto_both (Some d) (Some ds) None = refl
onto_both (Some d) (Some ds) (Some es) = refl

from_none : (back : Option (List Weekday)) → back ≡ both (Some []) back
unfolding both
from_none None = refl
from_none (Some es) = refl

weekdays-append : (xs ys : List ℤ) → weekdays (xs ++ ys) ≡ both (weekdays xs) (weekdays ys)
unfolding weekdays
weekdays-append [] ys = from_none (weekdays ys)
weekdays-append (x ∷ xs) ys = ap (λ o. Some (λ d ds. d ∷ ds) · to_weekday x · o) (weekdays-append xs ys) ∙ onto_both (to_weekday x) (weekdays xs) (weekdays ys)

-- one number more, which is a day
pub weekdays-push : (xs : List ℤ) (n : ℤ) (done : List Weekday) (d : Weekday) → weekdays xs ≡ Some done → to_weekday n ≡ Some d → weekdays (xs ++ n ∷ []) ≡ Some (done ++ d ∷ [])
unfolding weekdays both
weekdays-push xs n done d so_far day =
    weekdays-append xs (n ∷ []) ∙ ap (λ o. both o (weekdays (n ∷ []))) so_far ∙ ap (λ o. both (Some done) (Some (λ e es. e ∷ es) · o · Some [])) day

-- a number that is no day
pub weekdays-fails : (xs : List ℤ) (k : ℕ) → k < length xs → to_weekday (get_or xs k (pos 0)) ≡ None → weekdays xs ≡ None
unfolding weekdays
weekdays-fails xs k within none =
    let cut : xs ≡ take k xs ++ get_or xs k (pos 0) ∷ drop (suc k) xs = sym (take-append-drop k xs) ∙ ap (λ l. take k xs ++ l) (drop-cons xs k (pos 0) within) in
    ap weekdays cut ∙ weekdays-append (take k xs) (get_or xs k (pos 0) ∷ drop (suc k) xs)
    ∙ ap (λ o. both (weekdays (take k xs)) (Some (λ e es. e ∷ es) · o · weekdays (drop (suc k) xs))) none ∙ both-none (weekdays (take k xs))
