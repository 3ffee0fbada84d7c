-- A text that is read byte by byte of its pattern.
use Rattle.std.proofs.Common.{◌≡◌, ℕ, List, [], ◌∷◌, Option, None, Some, Result, Ok, Err, refl, ap, ◌∙◌}
use Rattle.chrono_pattern.specs.ItemReads.{item_read}
use Rattle.chrono_pattern.specs.Progress.{Progress}
use Rattle.chrono_pattern.specs.Reads.{read_from}
use Rattle.chrono_pattern.specs.PatternSteps.{pattern_step}
use Rattle.chrono_pattern.specs.declared.item.Item.{Item}
use Rattle.chrono_pattern.specs.declared.item.State.{State}
use Rattle.chrono_pattern.specs.declared.stop.Stop.{Stop}

-- what is read behind an item
abbrev pub behind_item : Result Progress Stop → State → List ℕ → Result Progress Stop
behind_item (Ok q) s bytes = read_from s bytes q
behind_item (Err e) s bytes = Err e

pub read_from-more : (s : State) (c : ℕ) (bytes : List ℕ) (r : Progress) (next : State × Item) → pattern_step s c ≡ Some next
    → read_from s (c ∷ bytes) r ≡ behind_item (item_read next.1 r) next.0 bytes
unfolding read_from
read_from-more s c bytes r next e =
    ap (λ (o : Option (State × Item)). elim o as (λ _. Result Progress Stop) [ None ↦ Ok r | Some n ↦ elim (item_read n.1 r) as (λ _. Result Progress Stop) [ Ok q ↦ read_from n.0 bytes q | Err k ↦ Err k ] ]) e
    ∙ same (item_read next.1 r)
  where
    same : (o : Result Progress Stop) → elim o as (λ _. Result Progress Stop) [ Ok q ↦ read_from next.0 bytes q | Err k ↦ Err k ] ≡ behind_item o next.0 bytes
    same (Ok q) = refl
    same (Err k) = refl

pub read_from-nothing : (s : State) (r : Progress) → read_from s [] r ≡ Ok r
unfolding read_from
read_from-nothing s r = refl

pub read_from-none : (s : State) (c : ℕ) (bytes : List ℕ) (r : Progress) → pattern_step s c ≡ None → read_from s (c ∷ bytes) r ≡ Ok r
unfolding read_from
read_from-none s c bytes r e =
    ap (λ (o : Option (State × Item)). elim o as (λ _. Result Progress Stop) [ None ↦ Ok r | Some n ↦ elim (item_read n.1 r) as (λ _. Result Progress Stop) [ Ok q ↦ read_from n.0 bytes q | Err k ↦ Err k ] ]) e
