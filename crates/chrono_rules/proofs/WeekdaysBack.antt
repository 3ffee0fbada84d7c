-- Lists of weekdays, with numbers or without, that are written are read back.
use Rattle.std.proofs.Common.{◌≡◌, ℕ, zero, suc, ◌+◌, ◌-◌, ◌<◌, ◌≤◌, Bool, true, false, ◌&&◌, List, [], ◌∷◌, ◌++◌, length, set, take, drop, replicate, Some, refl, sym, ap, ◌∙◌, arith, append_assoc, length-append}
use Rattle.std.specs.Fmt.{decimal, sign_text}
use Rattle.std.specs.List.{list_all}
use Rattle.std.specs.Option.{option_and_then, option_map}
use Rattle.std.proofs.Math.Seq.{drop-append_seam, get_or-append_seam, set-append_seam, take-append_seam}
use Rattle.std.proofs.lemmas.Bool.{and_parts, false≢true}
use Rattle.std.proofs.lemmas.Fmt.{decimal_nonempty, length-decimal-le}
use Rattle.chrono_datetime.specs.Names.{weekday_of_letters}
use Rattle.chrono_sets.specs.FiniteSets.{FiniteSet, are_empty, is_empty, lies_within, no_numbers, with_number}
use Rattle.chrono_rules.specs.NumberLists.{signed_number, signed_number_of, listed_weekday, weekdays_of, with_nth, with_nth_of, with_weekday, with_weekday_text}
use Rattle.chrono_rules.specs.RuleParts.{no_weekdays}
use Rattle.chrono_text.specs.Lists.{through, list_text}
use Rattle.chrono_rules.specs.WritableRules.{is_from_one_to}
use Rattle.chrono_rules.specs.WrittenRules.{item_text, items, numbered_items, letters_from_monday}
use Rattle.chrono_rules.specs.declared.text.list_writer.Naming.TheVariants.{Each, Numbered}
use Rattle.chrono_rules.specs.declared.weekday_places.WeekdayPlaces.{WeekdayPlaces}
use Rattle.chrono_text.proofs.ListLemmas.{pieces_joined, all_of}
use Rattle.chrono_rules.proofs.ListsBack.{from_one_back, place_back, set_back, some_of, through_append}
use Rattle.chrono_rules.proofs.WordBytes.{are_word_bytes, items_words, numbered_words, words_lack}

abbrev days_with : FiniteSet → List FiniteSet → List FiniteSet → WeekdayPlaces
days_with every front back = record { every = every; front = front; back = back }

-- a weekday's two letters name it
letters_back : (w : ℕ) → w < 7 → (length (letters_from_monday w) ≡ 2) × (listed_weekday (letters_from_monday w) ≡ Some w)
unfolding letters_from_monday listed_weekday weekday_of_letters
letters_back zero less = (refl, refl)
letters_back (suc zero) less = (refl, refl)
letters_back (suc (suc zero)) less = (refl, refl)
letters_back (suc (suc (suc zero))) less = (refl, refl)
letters_back (suc (suc (suc (suc zero)))) less = (refl, refl)
letters_back (suc (suc (suc (suc (suc zero))))) less = (refl, refl)
letters_back (suc (suc (suc (suc (suc (suc zero)))))) less = (refl, refl)
letters_back (suc (suc (suc (suc (suc (suc (suc w))))))) less = absurd (omega (arith, less))

-- the last two letters, and what stands in front of them
cut_back : (days : WeekdayPlaces) (front letters : List ℕ) (w : ℕ) → length letters ≡ 2 → listed_weekday letters ≡ Some w → with_weekday_text days (front ++ letters) ≡ with_weekday days front w
unfolding with_weekday_text
cut_back days front letters w two is =
    let text = front ++ letters in
    let at : length text - 2 ≡ length front = omega (arith, length-append front letters, two) in
    ap (λ k. option_and_then (with_weekday days (take k text)) (listed_weekday (drop k text))) at
    ∙ ap (λ t. option_and_then (with_weekday days t) (listed_weekday (drop (length front) text))) (take-append_seam front letters)
    ∙ ap (λ t. option_and_then (with_weekday days front) (listed_weekday t)) (drop-append_seam front letters)
    ∙ ap (option_and_then (with_weekday days front)) is

-- weekdays without a number
each_step : (u : FiniteSet) (w : ℕ) → w < 7 → with_weekday_text (days_with u no_weekdays.front no_weekdays.back) (item_text Each false w) ≡ Some (days_with (with_number u w) no_weekdays.front no_weekdays.back)
unfolding item_text with_weekday
each_step u w less =
    let letters = letters_back w less in
    cut_back (days_with u no_weekdays.front no_weekdays.back) [] (letters_from_monday w) w letters.0 letters.1

-- weekdays with a number
with_number_text : (days : WeekdayPlaces) (text : List ℕ) (w : ℕ) → 0 < length text → with_weekday days text w ≡ option_map (with_nth days w) (signed_number_of 2 53 text)
unfolding with_weekday
with_number_text days [] w some = absurd (omega (arith, some))
with_number_text days (b ∷ bs) w some = refl

nth_step : (days : WeekdayPlaces) (from_end : Bool) (w k : ℕ) → w < 7 → 1 ≤ k → k < 1 + 53 → with_weekday_text days (item_text (Numbered w) from_end k) ≡ Some (with_nth days w (signed_number from_end k))
unfolding item_text
nth_step days from_end w k less some within =
    let letters = letters_back w less in
    let text = sign_text from_end ++ decimal k in
    let has : 0 < length text = omega (arith, length-append (sign_text from_end) (decimal k), decimal_nonempty k (omega (arith, within))) in
    cut_back days text (letters_from_monday w) w letters.0 letters.1 ∙ with_number_text days text w has
    ∙ ap (option_map (with_nth days w)) (place_back from_end 2 53 k (omega (arith, within)) some (omega (arith, within)) (length-decimal-le 2 k (omega arith) (omega (arith, within)) (omega (arith, within))))

nth_here : (before after : List FiniteSet) (u : FiniteSet) (n : ℕ) → with_nth_of (before ++ u ∷ after) (length before) n ≡ before ++ with_number u n ∷ after
nth_here before after u n =
    ap (λ x. set (before ++ u ∷ after) (length before) (with_number x n)) (get_or-append_seam before u after no_numbers) ∙ set-append_seam before u after (with_number u n)

-- as many sets without a member
abbrev pub blank : List FiniteSet → List FiniteSet
blank [] = []
blank (s ∷ sets) = no_numbers ∷ blank sets

pub blank_is : (sets : List FiniteSet) → blank sets ≡ replicate (length sets) no_numbers
blank_is [] = refl
blank_is (s ∷ sets) = ap (λ rest. no_numbers ∷ rest) (blank_is sets)

numbered_back : (state : List FiniteSet → WeekdayPlaces) (from_end : Bool) (before sets : List FiniteSet) → length before + length sets ≤ 7 → list_all (is_from_one_to 53) sets ≡ true
    → ((xs : List FiniteSet) (w k : ℕ) → w < 7 → 1 ≤ k → k < 1 + 53 → with_weekday_text (state xs) (item_text (Numbered w) from_end k) ≡ Some (state (with_nth_of xs w k)))
    → through with_weekday_text (state (before ++ blank sets)) (numbered_items from_end sets (length before)) ≡ Some (state (before ++ sets))
unfolding numbered_items
numbered_back state from_end before [] room are steps = refl
numbered_back state from_end before (t ∷ sets) room are steps =
    let parts = and_parts (is_from_one_to 53 t) (list_all (is_from_one_to 53) sets) are in
    let w = length before in
    let rest = blank sets in
    let xs = items t (Numbered w) from_end 53 1 in
    let ys = numbered_items from_end sets (w + 1) in
    let one = from_one_back with_weekday_text (λ u. state (before ++ u ∷ rest)) (Numbered w) from_end 53 t parts.0
    (λ u k some within. steps (before ++ u ∷ rest) w k (omega (arith, room)) some within ∙ ap (λ sets. Some (state sets)) (nth_here before rest u k)) in
    let next : w + 1 ≡ length (before ++ t ∷ []) = omega (arith, length-append before (t ∷ [])) in
    through_append with_weekday_text (state (before ++ no_numbers ∷ rest)) xs ys
    ∙ ap (option_and_then (λ t. through with_weekday_text t ys)) one
    ∙ ap (λ sets. through with_weekday_text (state sets) ys) (sym (append_assoc before (t ∷ []) rest))
    ∙ ap (λ k. through with_weekday_text (state ((before ++ t ∷ []) ++ rest)) (numbered_items from_end sets k)) next
    ∙ numbered_back state from_end (before ++ t ∷ []) sets (omega (arith, room, next)) parts.1 steps
    ∙ ap (λ sets. Some (state sets)) (append_assoc before (t ∷ []) sets)

-- those of all seven weekdays
seven_back : (state : List FiniteSet → WeekdayPlaces) (from_end : Bool) (sets : List FiniteSet) → length sets ≡ 7 → list_all (is_from_one_to 53) sets ≡ true
    → ((xs : List FiniteSet) (w k : ℕ) → w < 7 → 1 ≤ k → k < 1 + 53 → with_weekday_text (state xs) (item_text (Numbered w) from_end k) ≡ Some (state (with_nth_of xs w k)))
    → through with_weekday_text (state no_weekdays.front) (numbered_items from_end sets 0) ≡ Some (state sets)
seven_back state from_end sets seven are steps =
    ap (λ xs. through with_weekday_text (state xs) (numbered_items from_end sets 0)) (sym (blank_is sets ∙ ap (λ n. replicate n no_numbers) seven))
    ∙ numbered_back state from_end [] sets (omega (arith, seven)) are steps

pub weekdays_back : (every : FiniteSet) (front back : List FiniteSet) → lies_within 0 7 every ≡ true → length front ≡ 7 → length back ≡ 7 → list_all (is_from_one_to 53) front ≡ true → list_all (is_from_one_to 53) back ≡ true
    → (is_empty every && (are_empty front && are_empty back)) ≡ false
    → weekdays_of (list_text (items every Each false 7 0 ++ (numbered_items false front 0 ++ numbered_items true back 0))) ≡ Some (days_with every front back)
unfolding weekdays_of
weekdays_back every front back small seven also is too some =
    let step = with_weekday_text in
    let none = no_weekdays.front in
    let xs = items every Each false 7 0 in
    let ys = numbered_items false front 0 in
    let zs = numbered_items true back 0 in
    let first = set_back step (λ u. days_with u none none) Each false 0 7 every small (λ u k from within. each_step u k within) in
    let second = seven_back (λ sets. days_with every sets none) false front seven is (λ sets w k less from within. nth_step (days_with every sets none) false w k less from within) in
    let third = seven_back (λ sets. days_with every front sets) true back also too (λ sets w k less from within. nth_step (days_with every front sets) true w k less from within) in
    let made = through_append step no_weekdays xs (ys ++ zs) ∙ ap (option_and_then (λ t. through step t (ys ++ zs))) first
    ∙ through_append step (days_with every none none) ys zs ∙ ap (option_and_then (λ t. through step t zs)) second ∙ third in
    let differ : no_weekdays ≡ days_with every front back → ⊥ =
    λ e. false≢true (sym some ∙ sym (ap (λ (t : WeekdayPlaces). is_empty t.every && (are_empty t.front && are_empty t.back)) e)) in
    let words = all_of are_word_bytes xs (ys ++ zs) (items_words every Each false 7 0 (omega arith)) (all_of are_word_bytes ys zs (numbered_words false front 0) (numbered_words true back 0)) in
    ap (through step no_weekdays) (pieces_joined 44 (xs ++ (ys ++ zs)) (some_of step no_weekdays (days_with every front back) (xs ++ (ys ++ zs)) made differ) (words_lack 44 (xs ++ (ys ++ zs)) refl words)) ∙ made
