use Rattle.std.proofs.Common.{◌≡◌, ◌<◌, ◌∙◌, ℕ, List, [], ◌∷◌, Option, Some, None, length, ap, sym, refl, arith}
use Rattle.std.specs.Option.{option_and_then}
use Rattle.chrono_text.specs.Lists.{pieces, pieces_behind, through}
use Rattle.chrono_rules.specs.NumberLists.{weekdays_of, with_weekday_text}
use Rattle.chrono_rules.specs.declared.weekday_places.WeekdayPlaces.{WeekdayPlaces}
use Rattle.chrono_rules.proofs.text.weekday_list.read_weekdays.Goals as goal

none_behind : (text : List ℕ) → length text < 1 → pieces_behind 44 text ≡ []
none_behind [] none = refl
none_behind (b ∷ bs) none = absurd (omega (arith, none))

-- the first item as the last, and as none
last : (s t : WeekdayPlaces) (r : Option WeekdayPlaces) (text first behind : List ℕ) → pieces 44 text ≡ first ∷ pieces_behind 44 behind
    → r ≡ with_weekday_text s first → r ≡ Some t → length behind < 1 → through with_weekday_text s (pieces 44 text) ≡ Some t
last s t r text first behind is made some none =
    ap (through with_weekday_text s) is ∙ ap (option_and_then (λ u. through with_weekday_text u (pieces_behind 44 behind))) (sym made ∙ some)
    ∙ ap (through with_weekday_text t) (none_behind behind none)

no_item : (s : WeekdayPlaces) (r : Option WeekdayPlaces) (text first behind : List ℕ) → pieces 44 text ≡ first ∷ pieces_behind 44 behind
    → r ≡ with_weekday_text s first → r ≡ None → through with_weekday_text s (pieces 44 text) ≡ None
no_item s r text first behind is made none =
    ap (through with_weekday_text s) is ∙ ap (option_and_then (λ u. through with_weekday_text u (pieces_behind 44 behind))) (sym made ∙ none)

pub returns-in_err-days : goal.returns-in_err-days
unfolding weekdays_of
returns-in_err-days c =
    let first = ap (λ d. through with_weekday_text d (pieces 44 c.args.text.now)) (sym c.none-days.ensures) in
    c.from_residual.ensures
    ∙ sym (first ∙ c.loop-days.invariant ∙ no_item c.loop-days.days _ c.loop-days.rest.now _ c.first_piece.result.1.now c.first_piece.ensures.pieces c.with_text.ensures c.in_err-days.was)

pub returns-in-empty : goal.returns-in-empty
unfolding weekdays_of
returns-in-empty c =
    let first = ap (λ d. through with_weekday_text d (pieces 44 c.args.text.now)) (sym c.none-days.ensures) in
    sym (first ∙ c.loop-days.invariant ∙ last c.loop-days.days c.in_ok-days.days _ c.loop-days.rest.now _ c.first_piece.result.1.now c.first_piece.ensures.pieces c.with_text.ensures c.in_ok-days.was c.in-empty.len_below)
