-- Steps over a folded text.
use Rattle.std.proofs.Common.{◌≡◌, ℕ, ◌+◌, ◌<◌, ◌≤◌, true, false, List, [], ◌∷◌, ◌++◌, length, take, drop, set, sym, ap, ◌∙◌, arith, append_assoc, append-nil}
use Rattle.std.specs.Prelude.{◌-◌, ◌==◌, slice_index, if◌then◌else◌}
use Rattle.std.proofs.Math.ListN.{drop_of_length-le}
use Rattle.std.proofs.lemmas.List.{drop_more, get_or-drop, take_more_set}
use Rattle.calendar_text.specs.Folds.{is_left_out, place_behind, unfolded_behind}

-- the rest from a place on is the byte there and what is behind it
rest_is : (text : List ℕ) (at : ℕ) → at < length text → drop at text ≡ slice_index text at ∷ drop (at + 1) text
rest_is text at inside = drop_more text at 0 inside

behind_is : (text : List ℕ) (at : ℕ) → slice_index (drop (at + 1) text) 0 ≡ slice_index text (at + 1)
behind_is text at = get_or-drop (at + 1) text 0 0 ∙ ap (slice_index text) (omega arith)

-- one step over the unfolded text
step : (text : List ℕ) (at before : ℕ) → at < length text
    → unfolded_behind before (drop at text)
    ≡ (if is_left_out before (slice_index text at) (slice_index text (at + 1)) then unfolded_behind (slice_index text at) (drop (at + 1) text)
    else slice_index text at ∷ unfolded_behind (slice_index text at) (drop (at + 1) text))
unfolding unfolded_behind
step text at before inside =
    ap (unfolded_behind before) (rest_is text at inside)
    ∙ ap (λ behind. if is_left_out before (slice_index text at) behind then unfolded_behind (slice_index text at) (drop (at + 1) text)
    else slice_index text at ∷ unfolded_behind (slice_index text at) (drop (at + 1) text)) (behind_is text at)

pub step_over : (text : List ℕ) (at before : ℕ) → at < length text → is_left_out before (slice_index text at) (slice_index text (at + 1)) ≡ true
    → unfolded_behind before (drop at text) ≡ unfolded_behind (slice_index text at) (drop (at + 1) text)
step_over text at before inside out =
    step text at before inside
    ∙ ap (λ t. if t then unfolded_behind (slice_index text at) (drop (at + 1) text) else slice_index text at ∷ unfolded_behind (slice_index text at) (drop (at + 1) text)) out

pub step_kept : (text : List ℕ) (at before : ℕ) → at < length text → is_left_out before (slice_index text at) (slice_index text (at + 1)) ≡ false
    → unfolded_behind before (drop at text) ≡ slice_index text at ∷ unfolded_behind (slice_index text at) (drop (at + 1) text)
step_kept text at before inside out =
    step text at before inside
    ∙ ap (λ t. if t then unfolded_behind (slice_index text at) (drop (at + 1) text) else slice_index text at ∷ unfolded_behind (slice_index text at) (drop (at + 1) text)) out

-- a byte that is left is written behind those before it
pub step_written : (text buffer : List ℕ) (at len before : ℕ) → at < length text → len < length buffer
    → is_left_out before (slice_index text at) (slice_index text (at + 1)) ≡ false
    → take (len + 1) (set buffer len (slice_index text at)) ++ unfolded_behind (slice_index text at) (drop (at + 1) text)
    ≡ take len buffer ++ unfolded_behind before (drop at text)
step_written text buffer at len before inside room kept =
    let rest = unfolded_behind (slice_index text at) (drop (at + 1) text) in
    ap (λ front. front ++ rest) (take_more_set buffer len (slice_index text at) room)
    ∙ append_assoc (take len buffer) (slice_index text at ∷ []) rest
    ∙ ap (λ behind. take len buffer ++ behind) (sym (step_kept text at before inside kept))

-- behind the last byte nothing is left
pub nothing_left : (text front : List ℕ) (at before : ℕ) → length text ≤ at → front ++ unfolded_behind before (drop at text) ≡ front
unfolding unfolded_behind
nothing_left text front at before end =
    ap (λ rest. front ++ unfolded_behind before rest) (drop_of_length-le text {i = at} end) ∙ append-nil front

-- one step of the search for a place
place : (text : List ℕ) (at before k : ℕ) → at < length text
    → place_behind before (drop at text) k
    ≡ (if is_left_out before (slice_index text at) (slice_index text (at + 1)) then place_behind (slice_index text at) (drop (at + 1) text) k + 1
    else (if k == 0 then 0 else place_behind (slice_index text at) (drop (at + 1) text) (k - 1) + 1))
unfolding place_behind
place text at before k inside =
    let over = place_behind (slice_index text at) (drop (at + 1) text) k + 1 in
    let kept = (if k == 0 then 0 else place_behind (slice_index text at) (drop (at + 1) text) (k - 1) + 1) in
    ap (λ rest. place_behind before rest k) (rest_is text at inside)
    ∙ ap (λ behind. if is_left_out before (slice_index text at) behind then over else kept) (behind_is text at)

pub place_over : (text : List ℕ) (at before k : ℕ) → at < length text → is_left_out before (slice_index text at) (slice_index text (at + 1)) ≡ true
    → place_behind before (drop at text) k ≡ place_behind (slice_index text at) (drop (at + 1) text) k + 1
place_over text at before k inside out =
    let over = place_behind (slice_index text at) (drop (at + 1) text) k + 1 in
    let kept = (if k == 0 then 0 else place_behind (slice_index text at) (drop (at + 1) text) (k - 1) + 1) in
    place text at before k inside ∙ ap (λ t. if t then over else kept) out

pub place_here : (text : List ℕ) (at before k : ℕ) → at < length text → is_left_out before (slice_index text at) (slice_index text (at + 1)) ≡ false
    → (k == 0) ≡ true → place_behind before (drop at text) k ≡ 0
place_here text at before k inside out none =
    let over = place_behind (slice_index text at) (drop (at + 1) text) k + 1 in
    let kept = place_behind (slice_index text at) (drop (at + 1) text) (k - 1) + 1 in
    place text at before k inside ∙ ap (λ t. if t then over else (if k == 0 then 0 else kept)) out ∙ ap (λ t. if t then 0 else kept) none

pub place_kept : (text : List ℕ) (at before k : ℕ) → at < length text → is_left_out before (slice_index text at) (slice_index text (at + 1)) ≡ false
    → (k == 0) ≡ false → place_behind before (drop at text) k ≡ place_behind (slice_index text at) (drop (at + 1) text) (k - 1) + 1
place_kept text at before k inside out some =
    let over = place_behind (slice_index text at) (drop (at + 1) text) k + 1 in
    let kept = place_behind (slice_index text at) (drop (at + 1) text) (k - 1) + 1 in
    place text at before k inside ∙ ap (λ t. if t then over else (if k == 0 then 0 else kept)) out ∙ ap (λ t. if t then 0 else kept) some

pub place_end : (text : List ℕ) (at before k : ℕ) → length text ≤ at → place_behind before (drop at text) k ≡ 0
unfolding place_behind
place_end text at before k end = ap (λ rest. place_behind before rest k) (drop_of_length-le text {i = at} end)
